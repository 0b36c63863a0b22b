use Rattle.std.proofs.Common.{get_or, refl, arith}
use Rattle.std.specs.Prelude.{⊤}
use Rattle.sqlite.specs.Held.{state}
use Rattle.tally_store_schema.specs.declared.table.KeyedTable.TheVariants.{Counts}
use Rattle.tally_store_entries.proofs.CountLemmas.{votes_none, votes_more, votes_all}
use Rattle.tally_store_schema.proofs.StaysLemmas.{clean_first, stays-both, stays-same}
use Rattle.tally_store_entries.proofs.items.update_votes.Goals as goal

pub loop-n-init : goal.loop-n-init
loop-n-init g c = record {
  place = refl;
  stays = stays-same (λ _. ⊤) g.S.Store c.args.tx.now;
  rows = λ _ inside v rest same none held. votes_none Counts c.args.station.now v c.args.votes.now rest (state g.S.Store c.args.tx.now.conn.now) inside held;
}

pub loop-n-preserved : goal.loop-n-preserved
loop-n-preserved g c =
    let old = state g.S.Store c.args.tx.now.conn.now in
    let mid = state g.S.Store c.loop-n.tx.conn.now in
    let new = state g.S.Store c.update_count.new.tx.conn.now in
    let was = c.loop-n.invariant in
    let ensured = c.update_count.ensures in
    record {
      place = omega (arith, was.place);
      stays = stays-both g.S.Store c.args.tx.now c.loop-n.tx c.update_count.new.tx was.stays ensured.stays;
      rows = λ clean inside v rest same none held.
          let before = was.rows (clean_first ensured.stays.survives clean) inside v rest same none held in
          votes_more Counts c.args.station.now v c.args.votes.now c.loop-n.n-index c.loop-n.item _ 0 rest old mid new (omega arith) (omega (arith, c.requires)) same was.place refl none before (c.in_ok-update_count.ensures.updated clean before.inside (get_or v.votes c.loop-n.n-index 0));
    }

pub returns-in_err-update_count-clause-stays : goal.returns-in_err-update_count-clause-stays
returns-in_err-update_count-clause-stays g c = stays-both g.S.Store c.args.tx.now c.loop-n.tx c.update_count.new.tx c.loop-n.invariant.stays c.update_count.ensures.stays

pub returns-clause-stays : goal.returns-clause-stays
returns-clause-stays g c = c.loop-n.invariant.stays

pub returns-clause-set : goal.returns-clause-set
returns-clause-set g c clean inside v rest same none held =
    votes_all Counts c.args.station.now v c.args.votes.now c.loop-n.n-index rest (state g.S.Store c.args.tx.now.conn.now) (state g.S.Store c.loop-n.tx.conn.now) c.loop-n-test.false same (c.loop-n.invariant.rows clean inside v rest same none held)
