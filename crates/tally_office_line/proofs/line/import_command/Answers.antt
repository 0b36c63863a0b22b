use Rattle.std.proofs.Common.{[], ◌∷◌, codes}
use Rattle.tally_office_line.specs.Line.{flag_rule, wanted_rule}
use Rattle.tally_office_line.proofs.AppLemmas.{offered}
use Rattle.tally_office_line.proofs.line.import_command.Goals as goal

pub returns : goal.returns
returns c =
    let rules = wanted_rule (codes "db") ∷ wanted_rule (codes "con") ∷ wanted_rule (codes "csv") ∷ flag_rule (codes "semicolon") ∷ flag_rule (codes "rows") ∷ [] in
    offered _ rules _ _ _ c.in_ok-vec.ensures.items (c.wanted_arg.ensures, (c.wanted_arg-2.ensures, (c.wanted_arg-3.ensures, (c.flag_arg.ensures, (c.flag_arg-2.ensures, tt))))) c.described_command.ensures
