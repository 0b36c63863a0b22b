use Rattle.std.proofs.Common.{[], ◌∷◌, codes}
use Rattle.tally_office_line.specs.Line.{value_rule, wanted_rule}
use Rattle.tally_office_line.proofs.AppLemmas.{offered}
use Rattle.tally_office_line.proofs.line.show_command.Goals as goal

pub returns : goal.returns
returns c =
    let rules = wanted_rule (codes "db") ∷ wanted_rule (codes "report") ∷ value_rule (codes "con") ∷ [] in
    offered _ rules _ _ _ c.in_ok-vec.ensures.items (c.wanted_arg.ensures, (c.wanted_arg-2.ensures, (c.value_arg.ensures, tt))) c.described_command.ensures
