use Rattle.std.proofs.Common.{get_or, refl, arith}
use Rattle.std.specs.Prelude.{⊤}
use Rattle.sqlite.specs.Held.{state}
use Rattle.tally_store_schema.specs.declared.table.KeyedTable.TheVariants.{Totals}
use Rattle.tally_store_entries.proofs.CountLemmas.{votes_none, votes_more, votes_all}
use Rattle.tally_store_schema.proofs.StaysLemmas.{clean_first, stays-both, stays-same}
use Rattle.tally_store_entries.proofs.constituencies.move_list_sums.Goals as goal

pub loop-place-init : goal.loop-place-init
loop-place-init g c = record {
  next = refl;
  stays = stays-same (λ _. ⊤) g.S.Store c.args.tx.now;
  rows = λ _ inside v rest lists differ none held. votes_none Totals c.args.con.now v c.args.votes.now rest (state g.S.Store c.args.tx.now.conn.now) inside held;
}

pub loop-place-preserved : goal.loop-place-preserved
loop-place-preserved g c =
    let old = state g.S.Store c.args.tx.now.conn.now in
    let mid = state g.S.Store c.loop-place.tx.conn.now in
    let new = state g.S.Store c.move_sum.new.tx.conn.now in
    let place = c.loop-place.place in
    let was = c.loop-place.invariant in
    let ensured = c.move_sum.ensures in
    record {
      next = omega (arith, was.next);
      stays = stays-both g.S.Store c.args.tx.now c.loop-place.tx c.move_sum.new.tx was.stays ensured.stays;
      rows = λ clean inside v rest lists differ none held.
          let before = was.rows (clean_first ensured.stays.survives clean) inside v rest lists differ none held in
          votes_more Totals c.args.con.now v c.args.votes.now place c.loop-place.item _ 0 rest old mid new (omega arith) (omega (arith, c.requires.few)) lists was.next refl none before
          (λ more. c.in_ok-move_sum.ensures.moved clean before.inside (get_or v.votes place 0) more (differ place));
    }

pub returns-in_err-move_sum-clause-stays : goal.returns-in_err-move_sum-clause-stays
returns-in_err-move_sum-clause-stays g c = stays-both g.S.Store c.args.tx.now c.loop-place.tx c.move_sum.new.tx c.loop-place.invariant.stays c.move_sum.ensures.stays

pub returns-clause-stays : goal.returns-clause-stays
returns-clause-stays g c = c.loop-place.invariant.stays

pub returns-clause-moved : goal.returns-clause-moved
returns-clause-moved g c clean inside v rest lists differ none held =
    votes_all Totals c.args.con.now v c.args.votes.now c.loop-place.place rest (state g.S.Store c.args.tx.now.conn.now) (state g.S.Store c.loop-place.tx.conn.now) c.loop-place-test.false lists
    (c.loop-place.invariant.rows clean inside v rest lists differ none held)
