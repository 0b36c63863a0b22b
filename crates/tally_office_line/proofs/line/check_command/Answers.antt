use Rattle.std.proofs.Common.{[], ◌∷◌, codes}
use Rattle.tally_office_line.specs.Line.{flag_rule}
use Rattle.tally_office_line.proofs.AppLemmas.{offered}
use Rattle.tally_office_line.proofs.line.check_command.Goals as goal

pub returns : goal.returns
returns c =
    let rules = flag_rule (codes "semicolon") ∷ flag_rule (codes "rows") ∷ [] in
    offered _ rules _ _ _ c.in_ok-vec.ensures.items (c.flag_arg.ensures, (c.flag_arg-2.ensures, tt)) c.described_command.ensures
