use Rattle.std.proofs.Common.{[], ◌∷◌, codes}
use Rattle.tally_office_line.specs.Line.{value_rule, wanted_rule}
use Rattle.tally_office_line.proofs.AppLemmas.{offered}
use Rattle.tally_office_line.proofs.line.bare_recount_command.Goals as goal

pub returns : goal.returns
returns c =
    let rules = wanted_rule (codes "setup") ∷ wanted_rule (codes "con") ∷ value_rule (codes "without") ∷ value_rule (codes "lot") ∷ [] in
    offered _ rules _ _ _ c.in_ok-vec.ensures.items (c.wanted_arg.ensures, (c.wanted_arg-2.ensures, (c.value_arg.ensures, (c.value_arg-2.ensures, tt)))) c.described_command.ensures
