use Rattle.std.proofs.Common.{◌≡◌, ◌∙◌, Err, Some, ap, subst, sym}
use Rattle.std.specs.Prelude.{IfSome}
use Rattle.tally_returns_rows.specs.declared.source.ImportFault.TheVariants as cause
use Rattle.tally_import.specs.ReturnRows.{Advances, AllRowsCame, IsAtStage, IsNext, IsReadingRows, came_by, ending, text_coming}
use Rattle.tally_import.specs.declared.return_rows.Stage.TheVariants.{Ended, Unread}
use Rattle.tally_import.proofs.ReturnRowsLemmas.{advanced-fault, advanced-first}
use Rattle.tally_import.proofs.return_rows.next_row.Goals as goal

pub returns-in_default : goal.returns-in_default
returns-in_default g c = record {
  advances = c.next_started.ensures.advances (g.R.Read.remaining c.args.unread.now.value) c.args.con.now c.args.sep c.requires;
  row = c.next_started.ensures.row;
  ends = c.next_started.ensures.ends;
  again = c.next_started.ensures.again;
  true_at = c.next_started.ensures.true_at;
  read = c.next_started.ensures.read;
  before = c.next_started.ensures.before (g.R.Read.remaining c.args.unread.now.value) c.args.con.now c.args.sep c.requires;
}

pub returns-in-Ok-clause-before : goal.returns-in-Ok-clause-before
returns-in-Ok-clause-before g c goes is =
    let text = g.R.Read.remaining c.args.unread.now.value in
    let left = g.R.Read.remaining c.args.reader.now in
    let behind = g.R.Read.remaining c.start.new.reader in
    let then = g.R.Read.remaining c.next_started-in-Ok.new.reader in
    let begun = c.in-Ok.ensures.begun in
    let same : left ≡ text = subst (IsAtStage text left c.args.con.now c.args.sep) c.in-Unread.is c.requires in
    let reading = subst (λ t. IsReadingRows t behind c.args.con.now c.args.sep begun.rows) same begun.reading in
    let at = subst (IsAtStage text behind c.args.con.now c.args.sep) (sym begun.is) reading in
    let given = c.next_started-in-Ok.ensures.before text c.args.con.now c.args.sep at (ap ending begun.is) is in
    subst (λ n. IfSome text (λ t. AllRowsCame c.args.con.now c.args.sep n t then))
    (ap came_by begun.is ∙ begun.first ∙ sym (ap came_by c.in-Unread.is)) given

pub returns-in-Err-clause-before : goal.returns-in-Err-clause-before
returns-in-Err-clause-before g c goes is =
    let text = g.R.Read.remaining c.args.unread.now.value in
    let left = g.R.Read.remaining c.args.reader.now in
    let then = g.R.Read.remaining c.start.new.reader in
    let same : left ≡ text = subst (IsAtStage text left c.args.con.now c.args.sep) c.in-Unread.is c.requires in
    let fault : c.in-Err.fault ≡ cause.Read = cc is in
    let given = c.start.ensures.before (c.in-Err.is ∙ ap Err fault) in
    subst (λ n. IfSome text (λ t. AllRowsCame c.args.con.now c.args.sep n t then)) (sym (ap came_by c.in-Unread.is))
    (subst (λ o. IfSome o (λ t. AllRowsCame c.args.con.now c.args.sep 0 t then)) same given)

pub returns-in-Ok-clause-advances : goal.returns-in-Ok-clause-advances
returns-in-Ok-clause-advances g c =
    let text = g.R.Read.remaining c.args.unread.now.value in
    let left = g.R.Read.remaining c.args.reader.now in
    let behind = g.R.Read.remaining c.start.new.reader in
    let then = g.R.Read.remaining c.next_started-in-Ok.new.reader in
    let result = c.next_started-in-Ok.result in
    let new = c.next_started-in-Ok.new.stage in
    let begun = c.in-Ok.ensures.begun in
    let same : left ≡ text = subst (IsAtStage text left c.args.con.now c.args.sep) c.in-Unread.is c.requires in
    let reading = subst (λ t. IsReadingRows t behind c.args.con.now c.args.sep begun.rows) same begun.reading in
    let at = subst (IsAtStage text behind c.args.con.now c.args.sep) (sym begun.is) reading in
    let given = c.next_started-in-Ok.ensures.advances text c.args.con.now c.args.sep at in
    subst (λ s. Advances text c.args.con.now c.args.sep left s result then new) (sym c.in-Unread.is)
    (advanced-first text left behind then c.args.con.now c.args.sep begun.rows result new begun.first
    (subst (λ s. Advances text c.args.con.now c.args.sep behind s result then new) begun.is given))

pub returns-in-Err-clause-advances : goal.returns-in-Err-clause-advances
returns-in-Err-clause-advances g c =
    let text = g.R.Read.remaining c.args.unread.now.value in
    let left = g.R.Read.remaining c.args.reader.now in
    let then = g.R.Read.remaining c.start.new.reader in
    let fault = c.in-Err.fault in
    let same : left ≡ text = subst (IsAtStage text left c.args.con.now c.args.sep) c.in-Unread.is c.requires in
    let next = subst (λ t. IsNext t (text_coming c.args.con.now c.args.sep) fault) same c.in-Err.ensures.fault in
    subst (λ new. Advances text c.args.con.now c.args.sep left c.args.stage.now (Err fault) then new) (sym c.end.ensures)
    (subst (λ s. Advances text c.args.con.now c.args.sep left s (Err fault) then (Ended (Some fault))) (sym c.in-Unread.is)
    (advanced-fault text left then c.args.con.now c.args.sep Unread fault next))
