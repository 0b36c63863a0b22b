use Rattle.std.proofs.Common.{sym, subst₂}
use Rattle.std.specs.Str.{IsCharBoundary}
use Rattle.tally_store_schema.proofs.NumberedLemmas.{ends_anywhere, ends_within}
use Rattle.tally_store_schema.proofs.numbered.rows_text.Goals as goal

pub range-requires-clause-end_boundary : goal.range-requires-clause-end_boundary
range-requires-clause-end_boundary c =
    subst₂ IsCharBoundary (sym c.most_rows_text.ensures) (sym c.rows_end.ensures) (ends_anywhere c.args.table _ (ends_within c.args.table c.args.rows c.requires.few))
