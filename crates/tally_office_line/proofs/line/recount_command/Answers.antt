use Rattle.std.proofs.Common.{[], ◌∷◌, codes}
use Rattle.tally_office_line.specs.Line.{bare_recount_app, flag_rule}
use Rattle.tally_office_line.proofs.AppLemmas.{offered_more}
use Rattle.tally_office_line.proofs.line.recount_command.Goals as goal

pub returns : goal.returns
returns c =
    let rules = flag_rule (codes "awards") ∷ flag_rule (codes "decisive") ∷ flag_rule (codes "semicolon") ∷ [] in
    offered_more bare_recount_app rules _ _ _ _ c.in_ok-bare_recount_command.ensures c.in_ok-arguments.ensures.items
    (c.flag_arg.ensures, (c.flag_arg-2.ensures, (c.flag_arg-3.ensures, tt))) c.args-2.ensures
