use Rattle.std.proofs.Common.{inl, inr, string_bytes, true}
use Rattle.tally_office_commands.specs.Offices.{known}
use Rattle.tally_office_trouble.specs.Troubles.{IsTroubleOfImport, IsTroubleOfFileImport}
use Rattle.tally_office_commands.proofs.DoneLemmas.{imported-at}
use Rattle.tally_office_commands.proofs.OtherLemmas.{of-file-import, of-opening, other}
use Rattle.tally_office_commands.proofs.WrittenLemmas.{ended, ended-named, not-begun}
use Rattle.tally_office_commands.specs.Done.{IsFileImported}
use Rattle.tally_office_commands.specs.Failed.{IsFileTrouble, NotOpened}
use Rattle.tally_office_commands.proofs.FailedLemmas.{and-sure, failed, if-sure}
use Rattle.tally_office_commands.proofs.import.import_at.Goals as goal

pub returns-in-Err-clause-written : goal.returns-in-Err-clause-written
returns-in-Err-clause-written g c = not-begun g.W.Write.contents _ c.args.output.now c.in-Err.trouble (of-opening _ c.in-Err.ensures.named)

pub returns-clause-written : goal.returns-clause-written
returns-clause-written g c =
    ended g.W.Write.contents _ (g.O.Offices.Closes c.args.offices.now c.args.db.now c.import_file-outcome.new.keeper true) string_bytes c.args.output.now c.close_and_print.new.output
    c.import_file-outcome.result c.close_and_print.result (other IsTroubleOfFileImport of-file-import c.import_file-outcome.result c.import_file-outcome.ensures.named)
    (imported-at (known g.O.Office.Keeper (g.O.Offices.Opens c.args.offices.now) (g.O.Offices.Finds c.args.offices.now)
    (g.O.Offices.Makes c.args.offices.now) (g.O.Offices.Closes c.args.offices.now) (g.O.NamedFiles.Gives c.args.offices.now))
    c.args.db.now c.args.con.now c.args.csv.now c.args.sep c.args.lines string_bytes c.in-Ok.office c.import_file-outcome.new.keeper c.import_file-outcome.result
    c.in-Ok.ensures.finds c.import_file-outcome.ensures.text c.import_file-outcome.ensures.imported)
    c.close_and_print.ensures.text c.close_and_print.ensures.closed c.close_and_print.ensures.cut c.close_and_print.ensures.trouble

pub returns-clause-named : goal.returns-clause-named
returns-clause-named g c =
    ended-named _ IsTroubleOfFileImport IsTroubleOfImport (λ t is. inr (inl is)) (λ t is. inr (inr is)) c.import_file-outcome.result c.close_and_print.result
    c.import_file-outcome.ensures.named c.close_and_print.ensures.named c.close_and_print.ensures.trouble

pub returns-in-Err-clause-trouble : goal.returns-in-Err-clause-trouble
returns-in-Err-clause-trouble g c = NotOpened c.in-Err.ensures.named c.in-Err.ensures.opens

pub returns-clause-trouble : goal.returns-clause-trouble
returns-clause-trouble g c =
    let k = (known g.O.Office.Keeper (g.O.Offices.Opens c.args.offices.now) (g.O.Offices.Finds c.args.offices.now)
    (g.O.Offices.Makes c.args.offices.now) (g.O.Offices.Closes c.args.offices.now) (g.O.NamedFiles.Gives c.args.offices.now)) in
    let opened = c.in-Ok.office in
    let left = c.import_file-outcome.new.keeper in
    let outcome = c.import_file-outcome.result in
    let sure = k.keeper.IsTrusted left in
    failed _ k c.args.db.now _ _ string_bytes opened left outcome c.close_and_print.result c.in-Ok.ensures.finds
    (and-sure sure IsTroubleOfFileImport (λ t. IsFileTrouble (k.Gives c.args.csv.now) c.args.con.now c.args.sep (k.keeper.constituencies opened) (k.keeper.content opened) t (k.keeper.content left)) outcome c.import_file-outcome.ensures.named c.import_file-outcome.ensures.trouble)
    (if-sure sure (λ text. IsFileImported (k.Gives c.args.csv.now) c.args.con.now c.args.sep c.args.lines (k.keeper.constituencies opened) (k.keeper.content opened) (string_bytes text) (k.keeper.content left)) outcome c.import_file-outcome.ensures.imported)
    c.close_and_print.ensures.named c.close_and_print.ensures.unclosed c.close_and_print.ensures.cut c.close_and_print.ensures.trouble
