use Rattle.std.specs.Prelude.{⊤}
use Rattle.tally_store_schema.proofs.StaysLemmas.{clean_first, stays-both, stays-same}
use Rattle.tally_store_schema.proofs.making.create_former_tables.Goals as goal

pub loop-place-init : goal.loop-place-init
loop-place-init g c = record { stays = stays-same (λ _. ⊤) g.S.Store c.args.tx.now; made = λ _ empty. empty }

pub loop-place-preserved : goal.loop-place-preserved
loop-place-preserved g c =
    let was = c.loop-place.invariant in
    let ensured = c.create_next.ensures.stays in
    record {
      stays = stays-both g.S.Store c.args.tx.now c.loop-place.tx c.create_next.new.tx was.stays ensured;
      made = λ clean empty. c.in_ok-create_next.ensures.made clean (was.made (clean_first ensured.survives clean) empty);
    }
