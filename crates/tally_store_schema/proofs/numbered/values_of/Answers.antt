use Rattle.std.proofs.Common.{◌+◌, ◌*◌, ◌<◌, length, refl, ◌∙◌, arith}
use Rattle.std.proofs.lemmas.List.{length-set}
use Rattle.tally_store_schema.proofs.NumberedLemmas.{filled_more}
use Rattle.tally_store_schema.proofs.numbered.values_of.Goals as goal

pub loop-place-preserved : goal.loop-place-preserved
loop-place-preserved c =
    let was = c.loop-place.invariant in
    let low : c.loop-place.place < length c.args.numbers.now = omega arith in
    let room : length c.args.front.now + 2 * c.loop-place.place + 1 < length c.loop-place.values = omega (arith, was.room, low, c.requires.few, c.requires.short) in
    record {
      room = length-set _ _ _ ∙ length-set _ _ _ ∙ was.room;
      filled = filled_more c.args.front.now c.loop-place.values c.args.first c.args.numbers.now c.loop-place.place _ _ _ low refl room c.to_sql.ensures c.to_sql-in-loop-place.ensures was.filled;
    }
