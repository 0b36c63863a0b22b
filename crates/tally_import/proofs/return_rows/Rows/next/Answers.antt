use Rattle.std.proofs.Common.{◌<◌, ◌+◌, ◌∙◌, arith, refl, subst, sym}
use Rattle.tally_returns_rows.specs.Source.{row_limit}
use Rattle.tally_import.specs.ReturnRows.{GivesRow}
use Rattle.tally_import.specs.declared.return_rows.Rows.{Rows}
use Rattle.tally_import.proofs.ReturnRowsLemmas.{rows-ended, rows-failed, rows-too_many, rows-row}
use Rattle.tally_import.proofs.return_rows.Rows.next.Goals as goal

pub returns-in-Some-clause-gives : goal.returns-in-Some-clause-gives
returns-in-Some-clause-gives g c = λ text con sep at.
    let new : Rows = record { records = c.next.new.self; lists = c.args.self.now.lists; stations = c.args.self.now.stations; came = c.args.self.now.came; fields = c.next.new.into } in
    subst (λ r. GivesRow text (g.R.Read.remaining c.next.new.input) con sep c.args.self.now r new) (sym c.rows_end.ensures.end)
    (rows-ended text (g.R.Read.remaining c.args.reader.now) (g.R.Read.remaining c.next.new.input) con sep c.args.self.now new c.in-Some.end.stop at
    (c.in_ok-end.ensures.all c.in-Some.end c.in-Some.is))

pub returns-in-Some-clause-before : goal.returns-in-Some-clause-before
returns-in-Some-clause-before g c = λ text con sep at is.
    rows-failed text (g.R.Read.remaining c.args.reader.now) (g.R.Read.remaining c.next.new.input) con sep c.args.self.now c.in-Some.end.stop at
    (c.in_ok-end.ensures.all c.in-Some.end c.in-Some.is) (sym c.rows_end.ensures.end ∙ is)

pub returns-then-self-eq-ROW_LIMIT-clause-gives : goal.returns-then-self-eq-ROW_LIMIT-clause-gives
returns-then-self-eq-ROW_LIMIT-clause-gives g c = λ text con sep at.
    rows-too_many text (g.R.Read.remaining c.args.reader.now) (g.R.Read.remaining c.next.new.input) con sep c.args.self.now c.args.self.now c.next.new.self _ at
    (c.in_ok-end.ensures.record c.in_default.is) c.next.ensures.sep c.if-self-eq-ROW_LIMIT.true

pub returns-clause-gives : goal.returns-clause-gives
returns-clause-gives g c = λ text con sep at.
    let new : Rows = record { records = c.next.new.self; lists = c.args.self.now.lists; stations = c.args.self.now.stations; came = c.args.self.now.came + 1; fields = c.next.new.into } in
    let room : c.args.self.now.came < row_limit = omega (arith, c.requires.within, c.if-self-eq-ROW_LIMIT.false) in
    rows-row text (g.R.Read.remaining c.args.reader.now) (g.R.Read.remaining c.next.new.input) con sep c.args.self.now new _ c.in_ok-row.row at
    (c.in_ok-end.ensures.record c.in_default.is) c.next.ensures.sep (c.in_ok-end.ensures.reading c.in_default.is) refl refl refl room c.in_ok-row.ensures.is
