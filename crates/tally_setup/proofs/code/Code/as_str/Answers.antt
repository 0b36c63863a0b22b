use Rattle.std.proofs.Common.{sym, subst}
use Rattle.std.specs.Prelude.{IsUtf8}
use Rattle.tally_setup.proofs.CodeLemmas.{IsUtf8-code}
use Rattle.tally_setup.proofs.code.Code.as_str.Goals as goal

pub unreachable-requires : goal.unreachable-requires
unreachable-requires c =
    absurd (c.in-Err.ensures.cases.0 (subst IsUtf8 (sym c.as_bytes.ensures.text) (IsUtf8-code _ c.as_bytes.ensures.code)))
