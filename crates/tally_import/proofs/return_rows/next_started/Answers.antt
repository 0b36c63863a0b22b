use Rattle.std.proofs.Common.{◌∙◌, None, Ok, Err, Some, ap, subst, sym}
use Rattle.std.specs.Prelude.{IfSome}
use Rattle.tally_import.specs.ReturnRows.{Advances, AllRowsCame, GivesRow, IsAtStage, came_by}
use Rattle.tally_import.specs.declared.return_rows.Stage.TheVariants.{Ended, Reading}
use Rattle.tally_import.proofs.ReturnRowsLemmas.{advanced-reading, advanced-end, advanced-next}
use Rattle.tally_import.proofs.return_rows.next_started.Goals as goal

pub returns-in-Ok-Some-clause-advances : goal.returns-in-Ok-Some-clause-advances
returns-in-Ok-Some-clause-advances g c = λ text con sep at.
    let left = g.R.Read.remaining c.args.reader.now in
    let then = g.R.Read.remaining c.next.new.reader in
    let given = c.next.ensures.gives text con sep (subst (IsAtStage text left con sep) c.in-Reading.is at) in
    subst (λ s. Advances text con sep left s (Ok (Some c.in-Ok-Some.row)) then (Reading c.next.new.self)) (sym c.in-Reading.is)
    (advanced-reading text left then con sep c.in-Reading.rows c.next.new.self c.in-Ok-Some.row
    (subst (λ r. GivesRow text then con sep c.in-Reading.rows r c.next.new.self) (c.in-Ok-Some.is ∙ ap Ok c.in-Ok-Some.field-0-is) given))

pub returns-in-Ok-None-clause-advances : goal.returns-in-Ok-None-clause-advances
returns-in-Ok-None-clause-advances g c = λ text con sep at.
    let left = g.R.Read.remaining c.args.reader.now in
    let then = g.R.Read.remaining c.next.new.reader in
    let given = c.next.ensures.gives text con sep (subst (IsAtStage text left con sep) c.in-Reading.is at) in
    subst (λ new. Advances text con sep left c.args.stage.now (Ok None) then new) (sym c.end.ensures)
    (subst (λ s. Advances text con sep left s (Ok None) then (Ended None)) (sym c.in-Reading.is)
    (advanced-end text left then con sep c.in-Reading.rows c.next.new.self
    (subst (λ r. GivesRow text then con sep c.in-Reading.rows r c.next.new.self) (c.in-Ok-None.is ∙ ap Ok c.in-Ok-None.field-0-is) given)))

pub returns-in-Err-clause-before : goal.returns-in-Err-clause-before
returns-in-Err-clause-before g c = λ text con sep at goes is.
    let left = g.R.Read.remaining c.args.reader.now in
    let then = g.R.Read.remaining c.next.new.reader in
    subst (λ s. IfSome text (λ t. AllRowsCame con sep (came_by s) t then)) (sym c.in-Reading.is)
    (c.next.ensures.before text con sep (subst (IsAtStage text left con sep) c.in-Reading.is at) (c.in-Err.is ∙ is))

pub returns-in-Err-clause-advances : goal.returns-in-Err-clause-advances
returns-in-Err-clause-advances g c = λ text con sep at.
    let left = g.R.Read.remaining c.args.reader.now in
    let then = g.R.Read.remaining c.next.new.reader in
    let given = c.next.ensures.gives text con sep (subst (IsAtStage text left con sep) c.in-Reading.is at) in
    subst (λ new. Advances text con sep left c.args.stage.now (Err c.in-Err.fault) then new) (sym c.end-in-Err.ensures)
    (subst (λ s. Advances text con sep left s (Err c.in-Err.fault) then (Ended (Some c.in-Err.fault))) (sym c.in-Reading.is)
    (advanced-next text left then con sep c.in-Reading.rows c.next.new.self c.in-Err.fault
    (subst (λ r. GivesRow text then con sep c.in-Reading.rows r c.next.new.self) c.in-Err.is given)))
