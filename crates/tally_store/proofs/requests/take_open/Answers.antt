use Rattle.std.proofs.Common.{sym, subst}
use Rattle.std.proofs.lemmas.Result.{IfOk-weaker, on_ok_weaker}
use Rattle.sqlite.proofs.Callers.{unchanged_then}
use Rattle.sqlite.specs.Effect.{Database}
use Rattle.sqlite.specs.State.{HasCleanDisk, IsUnchanged}
use Rattle.sqlite.specs.Held.{state}
use Rattle.tally_returns_rows.specs.Delivery.{source_at}
use Rattle.tally_keeper.proofs.TakenLemmas.{own-first}
use Rattle.tally_store_commands.specs.internal.Inside.{IsLawfulInside}
use Rattle.tally_store_schema.proofs.StaysLemmas.{clean_first, stays-then}
use Rattle.tally_store_rows.specs.TablesOfState.{AreTables}
use Rattle.tally_store.proofs.RequestLemmas.{inside_still, lawful_still, on_ok, stays_in_state}
use Rattle.tally_store.proofs.requests.take_open.Goals as goal

pub returns-in-Ok-clause-stays : goal.returns-in-Ok-clause-stays
returns-in-Ok-clause-stays g c =
    let setup = c.args.setup.now in
    let old = state g.S.Store c.args.tx.now.conn.now in
    let mid = state g.S.Store c.see_open.new.tx.conn.now in
    stays-then (IsLawfulInside setup) (IsLawfulInside setup) g.S.Store c.args.tx.now c.see_open.new.tx c.take_rows.new.tx (λ early at. lawful_still setup old mid (c.in-Ok.ensures.reads.same early at.inside) at)
    (stays_in_state setup g.S.Store c.args.tx.now c.see_open.new.tx c.in-Ok.ensures.reads.stays) c.take_rows.ensures.stays

pub returns-in-Ok-clause-was_open : goal.returns-in-Ok-clause-was_open
returns-in-Ok-clause-was_open g c clean =
    let mid = state g.S.Store c.see_open.new.tx.conn.now in
    let early : HasCleanDisk mid = clean_first c.take_rows.ensures.stays.survives clean in
    on_ok c.take_rows.result (c.in-Ok.ensures.reads.answered_open early)

pub returns-in-Err-clause-stays : goal.returns-in-Err-clause-stays
returns-in-Err-clause-stays g c = stays_in_state c.args.setup.now g.S.Store c.args.tx.now c.see_open.new.tx c.in-Err.ensures.reads.stays

pub returns-in-Ok-clause-lodges : goal.returns-in-Ok-clause-lodges
returns-in-Ok-clause-lodges g c =
    let setup = c.args.setup.now in
    let old = state g.S.Store c.args.tx.now.conn.now in
    let mid = state g.S.Store c.see_open.new.tx.conn.now in
    let ensured = c.take_rows.ensures.lodges in
    record {
      imported = λ clean inside.
          let early : HasCleanDisk mid = clean_first c.take_rows.ensures.stays.survives clean in
          let same : IsUnchanged old mid = c.in-Ok.ensures.reads.same early inside in
          IfOk-weaker c.take_rows.result _ _ (λ r imported text s lawful tables. imported text s lawful (subst (λ (d : Database). AreTables setup text s d.trees) (sym same.0.now_is) tables))
          (ensured.imported clean (inside_still old mid same inside));
      unwritten = λ clean at.
          let early : HasCleanDisk mid = clean_first c.take_rows.ensures.stays.survives clean in
          let same : IsUnchanged old mid = c.in-Ok.ensures.reads.same early at.0 in
          IfOk-weaker c.take_rows.result _ _ (λ count writes none. unchanged_then old mid (state g.S.Store c.take_rows.new.tx.conn.now) same (writes none))
          (ensured.unwritten clean (inside_still old mid same at.0, same.0.is_open));
      gave = ensured.gave;
      fault = ensured.fault;
      forgets = ensured.forgets;
    }

pub returns-in-Err-clause-lodges : goal.returns-in-Err-clause-lodges
returns-in-Err-clause-lodges g c = record {
  imported = λ clean inside. tt;
  unwritten = λ clean at. tt;
  gave = tt;
  fault = own-first (source_at g.R.RowSource c.args.source.now) c.import_fault_of.result c.import_fault_of.ensures.own;
  forgets = tt;
}

pub returns-in-Ok-clause-named : goal.returns-in-Ok-clause-named
returns-in-Ok-clause-named g c clean inside =
    let setup = c.args.setup.now in
    let old = state g.S.Store c.args.tx.now.conn.now in
    let mid = state g.S.Store c.see_open.new.tx.conn.now in
    let early : HasCleanDisk mid = clean_first c.take_rows.ensures.stays.survives clean in
    let same : IsUnchanged old mid = c.in-Ok.ensures.reads.same early inside in
    on_ok_weaker c.take_rows.result (λ names text s lawful tables. names text s lawful (subst (λ (d : Database). AreTables setup text s d.trees) (sym same.0.now_is) tables))
    (c.take_rows.ensures.named clean (inside_still old mid same inside))
