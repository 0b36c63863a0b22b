use Rattle.std.proofs.Common.{[], ◌∷◌, codes}
use Rattle.tally_frac.specs.Limits.{most_seats, most_votes, whole_base}
use Rattle.tally_office_line.specs.Line.{amount_rule, number_rule, value_rule, wanted_rule}
use Rattle.tally_office_line.proofs.AppLemmas.{offered}
use Rattle.tally_office_line.proofs.line.bare_allot_command.Goals as goal

pub returns : goal.returns
returns c =
    let rules = number_rule (codes "seats") 1 most_seats ∷ wanted_rule (codes "method") ∷ amount_rule (codes "threshold") whole_base ∷ value_rule (codes "base") ∷ amount_rule (codes "blank") most_votes ∷ [] in
    offered _ rules _ _ _ c.in_ok-vec.ensures.items (c.number_arg.ensures, (c.wanted_arg.ensures, (c.amount_arg.ensures, (c.value_arg.ensures, (c.amount_arg-2.ensures, tt))))) c.described_command.ensures
