use Rattle.std.proofs.Common.{◌+◌, length, sum, heap_items}
use Rattle.std.specs.BinaryHeap.{IsHeap}
use Rattle.tally_allot_award.specs.internal.Claims.{AreClaims, claim_cmp}
use Rattle.tally_allot_award.specs.internal.ContestTerms.{hare_terms}
use Rattle.tally_allot_award.specs.internal.Race.{IsFair}
use Rattle.tally_allot_award.specs.internal.Terms.{placed_race}
use Rattle.tally_allot_award.proofs.remainder_award.give_to_greatest.Given as goal

abbrev pub invariant-loop-seat : goal.invariant-loop-seat
invariant-loop-seat l = record {
  fair : IsFair (placed_race (hare_terms l.contest)) (sum l.initial.seats + l._seat) l.seats;
  order : IsHeap claim_cmp (heap_items l.claims);
  claims : AreClaims (hare_terms l.contest) (length l.contest.poll.votes.now) l.seats (heap_items l.claims);
}
