use Rattle.std.proofs.Common.{[], ◌∷◌, codes}
use Rattle.tally_office_line.specs.Line.{bare_allot_app, flag_rule, value_rule}
use Rattle.tally_office_line.proofs.AppLemmas.{offered_more}
use Rattle.tally_office_line.proofs.line.allot_command.Goals as goal

pub returns : goal.returns
returns c =
    let rules = value_rule (codes "lot") ∷ flag_rule (codes "alternating") ∷ flag_rule (codes "awards") ∷ flag_rule (codes "semicolon") ∷ [] in
    offered_more bare_allot_app rules _ _ _ _ c.in_ok-bare_allot_command.ensures c.in_ok-arguments.ensures.items
    (c.value_arg.ensures, (c.flag_arg.ensures, (c.flag_arg-2.ensures, (c.flag_arg-3.ensures, tt)))) c.args-2.ensures
