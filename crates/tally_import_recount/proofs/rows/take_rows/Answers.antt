use Rattle.std.proofs.Common.{◌≤◌, ◌+◌, ◌++◌, ◌∷◌, ◌∙◌, [], Ok, Some, length-append, refl, sym, ap, subst, arith}
use Rattle.tally_frac.specs.Limits.{most_lists}
use Rattle.tally_returns_rows.specs.Source.{GivesNext, ends_by}
use Rattle.tally_returns_rows.specs.declared.source.ImportFault.TheVariants as cause
use Rattle.tally_import.specs.ReturnRowsValue.{rows_to_come}
use Rattle.tally_import_recount.proofs.RowsLemmas.{rows-many, rows-next}
use Rattle.tally_import_recount.proofs.rows.take_rows.Goals as goal

pub loop-count-preserved : goal.loop-count-preserved
loop-count-preserved g c =
    let inv = c.loop-count.invariant in
    let came = inv.came in
    let row = c.in-Some.row in
    let old = rows_to_come c.loop-count.rows in
    let new = rows_to_come c.next_row.new.self in
    let ensured = c.in_ok-row.ensures in
    let gives : GivesNext old (Ok (Some row)) new = subst (λ o. GivesNext old (Ok o) new) c.in-Some.is ensured.gives in
    record {
      con = ensured.same.0 ∙ inv.con;
      sep = ensured.same.1 ∙ inv.sep;
      text = ensured.same.2 ∙ inv.text;
      ended = ensured.ends ∙ ap (λ o. ends_by (Ok o)) c.in-Some.is;
      lists = subst (λ n. n ≤ most_lists) (sym c.in_ok-take.ensures.lists) inv.lists;
      few = omega (arith, inv.few, c.in_ok-take.ensures.passed);
      came = (
        came.0 ++ row ∷ [],
        (λ con words h. c.in_ok-take.ensures.taken con words came.0 (came.1 con words h)),
        length-append came.0 (row ∷ []) ∙ ap (λ n. n + 1) came.2,
        rows-next c.args.rows.now came.0 old new row came.3 gives,
      );
    }

pub returns-clause-fault : goal.returns-clause-fault
returns-clause-fault g c =
    let came = c.loop-count.invariant.came in
    rows-many c.args.rows.now came.0 (rows_to_come c.loop-count.rows) cause.TooLong came.3 (omega (arith, came.2, c.loop-count-test.false)) refl
