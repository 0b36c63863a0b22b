use Rattle.std.proofs.Common.{inl, inr, string_bytes, true}
use Rattle.tally_office_commands.specs.Offices.{known}
use Rattle.tally_office_trouble.specs.Trouble.{IsTroubleOfReport}
use Rattle.tally_office_trouble.specs.Troubles.{IsTroubleOfShow}
use Rattle.tally_office_commands.proofs.DoneLemmas.{shown-at}
use Rattle.tally_office_commands.proofs.OtherLemmas.{of-opening, of-report, other}
use Rattle.tally_office_commands.proofs.WrittenLemmas.{ended, ended-named, not-begun}
use Rattle.tally_office_commands.specs.Done.{IsTextShown}
use Rattle.tally_office_commands.specs.Failed.{IsShowTrouble, NotOpened}
use Rattle.tally_office_commands.proofs.FailedLemmas.{and-sure, failed, if-sure}
use Rattle.tally_office_commands.proofs.show.show_at.Goals as goal

pub returns-in-Err-clause-written : goal.returns-in-Err-clause-written
returns-in-Err-clause-written g c = not-begun g.W.Write.contents _ c.args.output.now c.in-Err.trouble (of-opening _ c.in-Err.ensures.named)

pub returns-clause-written : goal.returns-clause-written
returns-clause-written g c =
    ended g.W.Write.contents _ (g.O.Offices.Closes c.args.offices.now c.args.db.now c.show_in-outcome.new.keeper true) string_bytes c.args.output.now c.close_and_print.new.output
    c.show_in-outcome.result c.close_and_print.result (other IsTroubleOfReport of-report c.show_in-outcome.result c.show_in-outcome.ensures.named)
    (shown-at (known g.O.Office.Keeper (g.O.Offices.Opens c.args.offices.now) (g.O.Offices.Finds c.args.offices.now)
    (g.O.Offices.Makes c.args.offices.now) (g.O.Offices.Closes c.args.offices.now) (g.O.NamedFiles.Gives c.args.offices.now))
    c.args.db.now c.args.report _ string_bytes c.in-Ok.office c.show_in-outcome.new.keeper c.show_in-outcome.result
    c.in-Ok.ensures.finds c.show_in-outcome.ensures.shown)
    c.close_and_print.ensures.text c.close_and_print.ensures.closed c.close_and_print.ensures.cut c.close_and_print.ensures.trouble

pub returns-clause-named : goal.returns-clause-named
returns-clause-named g c =
    ended-named _ IsTroubleOfReport IsTroubleOfShow (λ t is. inr (inl is)) (λ t is. inr (inr is)) c.show_in-outcome.result c.close_and_print.result
    c.show_in-outcome.ensures.named c.close_and_print.ensures.named c.close_and_print.ensures.trouble

pub returns-in-Err-clause-trouble : goal.returns-in-Err-clause-trouble
returns-in-Err-clause-trouble g c = NotOpened c.in-Err.ensures.named c.in-Err.ensures.opens

pub returns-clause-trouble : goal.returns-clause-trouble
returns-clause-trouble g c =
    let k = (known g.O.Office.Keeper (g.O.Offices.Opens c.args.offices.now) (g.O.Offices.Finds c.args.offices.now)
    (g.O.Offices.Makes c.args.offices.now) (g.O.Offices.Closes c.args.offices.now) (g.O.NamedFiles.Gives c.args.offices.now)) in
    let opened = c.in-Ok.office in
    let left = c.show_in-outcome.new.keeper in
    let outcome = c.show_in-outcome.result in
    let sure = k.keeper.IsTrusted left in
    failed _ k c.args.db.now _ _ string_bytes opened left outcome c.close_and_print.result c.in-Ok.ensures.finds
    (and-sure sure IsTroubleOfReport (λ t. IsShowTrouble (k.keeper.constituencies opened) (k.keeper.content opened) c.args.report _ t (k.keeper.content left)) outcome c.show_in-outcome.ensures.named c.show_in-outcome.ensures.trouble)
    (if-sure sure (λ text. IsTextShown (k.keeper.constituencies opened) (k.keeper.content opened) c.args.report _ (string_bytes text) (k.keeper.content left)) outcome c.show_in-outcome.ensures.shown)
    c.close_and_print.ensures.named c.close_and_print.ensures.unclosed c.close_and_print.ensures.cut c.close_and_print.ensures.trouble
