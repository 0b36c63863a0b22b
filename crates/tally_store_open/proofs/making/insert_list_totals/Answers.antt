use Rattle.std.proofs.Common.{refl, sym, subst}
use Rattle.std.specs.Prelude.{⊤}
use Rattle.sqlite.specs.Held.{state}
use Rattle.tally_store_schema.proofs.StaysLemmas.{clean_first, stays-both, stays-same}
use Rattle.tally_store_open.specs.internal.Making.{AddsTotals}
use Rattle.tally_store_open.proofs.AddLemmas.{totals_none, totals_then, list_rows_more}
use Rattle.tally_store_open.proofs.making.insert_list_totals.Goals as goal

pub loop-list-init : goal.loop-list-init
loop-list-init g c = record {
  stays = stays-same (λ _. ⊤) g.S.Store c.args.tx.now;
  added = λ _ inside. totals_none (state g.S.Store c.args.tx.now.conn.now) inside;
}

pub loop-list-preserved : goal.loop-list-preserved
loop-list-preserved g c =
    let old = state g.S.Store c.args.tx.now.conn.now in
    let mid = state g.S.Store c.loop-list.tx.conn.now in
    let new = state g.S.Store c.insert_total.new.tx.conn.now in
    let was = c.loop-list.invariant in
    let ensured = c.insert_total.ensures.stays in
    record {
      stays = stays-both g.S.Store c.args.tx.now c.loop-list.tx c.insert_total.new.tx was.stays ensured;
      added = λ clean inside.
          let before = was.added (clean_first ensured.survives clean) inside in
          subst (λ rows. AddsTotals rows old new) (sym (list_rows_more c.args.con.now c.loop-list.list))
          (totals_then _ _ old mid new before (c.in_ok-insert_total.ensures.inserted 0 refl clean before.inside));
    }
