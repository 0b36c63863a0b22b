use Rattle.std.proofs.Common.{length, heap_items}
use Rattle.std.specs.BinaryHeap.{IsHeap}
use Rattle.tally_allot_award.specs.internal.ContestTerms.{divisor_terms}
use Rattle.tally_allot_award.specs.internal.NextPairs.{AreNext, keyed_cmp}
use Rattle.tally_allot_award.specs.internal.WonSeat.{none_held}
use Rattle.tally_allot_award.proofs.heap_award.first_pairs.Given as goal

abbrev pub invariant-loop-list : goal.invariant-loop-list
invariant-loop-list g l = record {
  order : IsHeap keyed_cmp (heap_items l.next);
  next : AreNext (divisor_terms g.D.Divisors.divisor g.D.Divisors.unit_of l.contest) l.list (none_held (length l.contest.poll.votes.now)) (heap_items l.next);
}
