use Rattle.std.proofs.Common.{◌<◌, ◌≤◌, slice_index, length, sym, subst, arith}
use Rattle.tally_keeper.specs.MovedSum.{CanMove, moved_sum}
use Rattle.tally_keeper.proofs.SumLemmas.{mapped-is}
use Rattle.tally_keeper.proofs.sums.move_votes.Goals as goal

pub moved-requires : goal.moved-requires
moved-requires c =
    let place = c.loop-place.place in
    let within : place < length c.args.votes.now = omega (arith, c.loop-place-test.true, c.loop-place.auto.place-end, c.loop-place.invariant.lists) in
    subst (λ n. CanMove n (slice_index c.args.by.now place) c.args.add) (sym (c.loop-place.invariant.behind place (omega arith))) (c.requires.each place within)

pub returns : goal.returns
returns c =
    let old = c.args.votes.now in
    let all : length old ≤ c.loop-place.place = omega (arith, c.loop-place-test.false, c.loop-place.invariant.lists) in
    mapped-is c.loop-place.votes (λ place. moved_sum (slice_index old place) (slice_index c.args.by.now place) c.args.add) (length old) c.loop-place.invariant.lists
    (λ k within. c.loop-place.invariant.before k (omega (arith, within, all)))
