use Rattle.std.proofs.Common.{◌∙◌, ℕ, Bool, List, Option, ap, option_map, subst}
use Rattle.tally_returns_rows.specs.Given.{rows_of, with_given}
use Rattle.tally_returns_rows.specs.Source.{GivesNext}
use Rattle.tally_returns_rows.specs.declared.import.Row.{Row}
use Rattle.tally_import.specs.ReturnRows.{came_by, ending}
use Rattle.tally_import.specs.ReturnRowsValue.{HasGivenAll, ReturnRows, rows_to_come, coming_at}
use Rattle.tally_import.specs.declared.return_rows.Stage.{Stage}
use Rattle.tally_import.proofs.ReturnRowsLemmas.{advanced-shown, given-end}
use Rattle.tally_import.proofs.return_rows.ReturnRowsRowSource.next_row.Goals as goal

pub next_row-next-requires : goal.next_row-next-requires
next_row-next-requires g c = c.self.invariant.0

pub invariant_of-self : goal.invariant_of-self
invariant_of-self g c = (c.next_row-next.ensures.advances.0, c.next_row-next.ensures.true_at c.self.invariant.1)

pub returns-clause-gives : goal.returns-clause-gives
returns-clause-gives g c =
    let new = option_map (coming_at c.self.inside.con c.self.inside.sep (came_by c.next_row-next.new.stage) (ending c.next_row-next.new.stage)) (g.R.Read.remaining c.self.inside.unread.value) in
    subst (λ v. GivesNext (rows_to_come v) c.next_row-next.result new) c.self.view_is
    (advanced-shown (g.R.Read.remaining c.self.inside.unread.value) (g.R.Read.remaining c.self.inside.reader) (g.R.Read.remaining c.next_row-next.new.reader)
    c.self.inside.con c.self.inside.sep c.self.inside.stage c.next_row-next.new.stage c.next_row-next.result c.self.invariant.0 c.next_row-next.ensures.advances)

pub returns-clause-again : goal.returns-clause-again
returns-clause-again g c = λ fault ended.
    let view : Option (List ℕ) → List Row → Stage → Bool → ReturnRows = λ left given stage failed. record {
      con = c.self.inside.con;
      sep = c.self.inside.sep;
      text = g.R.Read.remaining c.self.inside.unread.value;
      left = left;
      given = given;
      came = came_by stage;
      ended = ending stage;
      failed = failed;
    } in
    let same = c.next_row-next.ensures.again fault (ap (λ v. v.ended) c.self.view_is ∙ ended) in (
      same.0,
      ap (λ r. view (g.R.Read.remaining r) (rows_of c.note.new.self) c.next_row-next.new.stage c.next_row-next.new.watch.failed) same.1.0
          ∙ ap (λ l. view (g.R.Read.remaining c.self.inside.reader) l c.next_row-next.new.stage c.next_row-next.new.watch.failed)
          (c.note.ensures ∙ ap (with_given (rows_of c.self.inside.given)) same.0 ∙ given-end (rows_of c.self.inside.given) fault)
          ∙ ap (λ s. view (g.R.Read.remaining c.self.inside.reader) (rows_of c.self.inside.given) s c.next_row-next.new.watch.failed) same.1.1
          ∙ ap (λ w. view (g.R.Read.remaining c.self.inside.reader) (rows_of c.self.inside.given) c.self.inside.stage w.failed) same.1.2 ∙ c.self.view_is,
    )

pub returns-clause-before : goal.returns-clause-before
returns-clause-before g c = λ goes is.
    subst (λ v. HasGivenAll v (g.R.Read.remaining c.next_row-next.new.reader)) c.self.view_is
    (c.next_row-next.ensures.before (ap (λ v. v.ended) c.self.view_is ∙ goes) is)
