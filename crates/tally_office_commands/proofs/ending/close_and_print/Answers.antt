use Rattle.tally_office_commands.proofs.WrittenLemmas.{cut-closed, on-closed, printed-closed, unclosed}
use Rattle.tally_office_commands.proofs.ending.close_and_print.Goals as goal

pub returns-in-Ok-clause-closed : goal.returns-in-Ok-clause-closed
returns-in-Ok-clause-closed g c =
    on-closed (g.O.Offices.Closes c.args.offices.now c.args.db.now c.args.office) c.close_office-is_closed.result c.print_if_closed.result
    c.close_office-is_closed.ensures c.print_if_closed.ensures.done

pub returns-in-Ok-clause-printed : goal.returns-in-Ok-clause-printed
returns-in-Ok-clause-printed g c =
    printed-closed _ (g.O.Offices.Closes c.args.offices.now c.args.db.now c.args.office) c.close_office-is_closed.result
    c.close_office-is_closed.ensures c.print_if_closed.ensures.printed

pub returns-in-Ok-clause-cut : goal.returns-in-Ok-clause-cut
returns-in-Ok-clause-cut g c = λ ok.
    cut-closed (g.O.Offices.Closes c.args.offices.now c.args.db.now c.args.office) c.close_office-is_closed.result c.print_if_closed.result
    c.close_office-is_closed.ensures c.print_if_closed.ensures.cut

pub returns-in-Ok-clause-unclosed : goal.returns-in-Ok-clause-unclosed
returns-in-Ok-clause-unclosed g c = λ ok.
    unclosed (g.O.Offices.Closes c.args.offices.now c.args.db.now c.args.office) c.close_office-is_closed.result c.print_if_closed.result
    c.close_office-is_closed.ensures c.print_if_closed.ensures.unclosed
