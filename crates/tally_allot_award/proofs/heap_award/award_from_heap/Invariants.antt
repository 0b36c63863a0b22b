use Rattle.std.proofs.Common.{length, heap_items}
use Rattle.std.specs.BinaryHeap.{IsHeap}
use Rattle.tally_allot_award.specs.internal.ContestTerms.{divisor_terms}
use Rattle.tally_allot_award.specs.internal.NextPairs.{AreNext, keyed_cmp}
use Rattle.tally_allot_award.specs.internal.Race.{IsFair}
use Rattle.tally_allot_award.specs.internal.Terms.{placed_race}
use Rattle.tally_allot_award.specs.internal.WonSeat.{AreWon}
use Rattle.tally_allot_award.proofs.heap_award.award_from_heap.Given as goal

abbrev pub invariant-loop-seat : goal.invariant-loop-seat
invariant-loop-seat g l = record {
  fair : IsFair (placed_race (divisor_terms g.D.Divisors.divisor g.D.Divisors.unit_of l.contest)) l._seat l.seats.items;
  won : AreWon (placed_race (divisor_terms g.D.Divisors.divisor g.D.Divisors.unit_of l.contest)) l.seats.items l.pairs.items;
  order : IsHeap keyed_cmp (heap_items l.next);
  next : AreNext (divisor_terms g.D.Divisors.divisor g.D.Divisors.unit_of l.contest) (length l.contest.poll.votes.now) l.seats.items (heap_items l.next);
}
