use Rattle.std.proofs.Common.{arith, subst}
use Rattle.std.proofs.lemmas.List.{take_all}
use Rattle.std.specs.Prelude.{⊤}
use Rattle.sqlite.specs.Held.{state}
use Rattle.tally_store_schema.proofs.StaysLemmas.{clean_first, stays-both, stays-same}
use Rattle.tally_store_open.specs.internal.Making.{AddsCons}
use Rattle.tally_store_open.proofs.AddLemmas.{cons_none, cons_more}
use Rattle.tally_store_open.proofs.making.insert_openings.Goals as goal

pub loop-con-init : goal.loop-con-init
loop-con-init g c = record {
  stays = stays-same (λ _. ⊤) g.S.Store c.args.tx.now;
  opened = λ _ inside. cons_none (state g.S.Store c.args.tx.now.conn.now) inside;
}

pub loop-con-preserved : goal.loop-con-preserved
loop-con-preserved g c =
    let old = state g.S.Store c.args.tx.now.conn.now in
    let mid = state g.S.Store c.loop-con.tx.conn.now in
    let new = state g.S.Store c.insert_opening.new.tx.conn.now in
    let was = c.loop-con.invariant in
    let ensured = c.insert_opening.ensures in
    record {
      stays = stays-both g.S.Store c.args.tx.now c.loop-con.tx c.insert_opening.new.tx was.stays ensured.stays;
      opened = λ clean inside.
          let before = was.opened (clean_first ensured.stays.survives clean) inside in
          cons_more old mid new c.args.cons.now c.loop-con.con-index c.con-item.result c.loop-con-test.true c.con-item.is before (c.in_ok-insert_opening.ensures.opened clean before.inside);
    }

pub returns-clause-stays : goal.returns-clause-stays
returns-clause-stays g c = c.loop-con.invariant.stays

pub returns-clause-opened : goal.returns-clause-opened
returns-clause-opened g c clean inside =
    let old = state g.S.Store c.args.tx.now.conn.now in
    let now = state g.S.Store c.loop-con.tx.conn.now in
    let all = take_all c.loop-con.con-index c.args.cons.now (omega (arith, c.loop-con-test.false)) in
    subst (λ cons. AddsCons cons old now) all (c.loop-con.invariant.opened clean inside)
