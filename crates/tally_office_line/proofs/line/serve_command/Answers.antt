use Rattle.std.proofs.Common.{[], ◌∷◌, codes}
use Rattle.tally_office_line.specs.Line.{most_count, most_port, number_rule, wanted_rule}
use Rattle.tally_office_line.proofs.AppLemmas.{offered}
use Rattle.tally_office_line.proofs.line.serve_command.Goals as goal

pub returns : goal.returns
returns c =
    let rules = wanted_rule (codes "db") ∷ number_rule (codes "port") 1 most_port ∷ number_rule (codes "count") 1 most_count ∷ [] in
    offered _ rules _ _ _ c.in_ok-vec.ensures.items (c.wanted_arg.ensures, (c.number_arg.ensures, (c.number_arg-2.ensures, tt))) c.described_command.ensures
