use Rattle.std.proofs.Common.{heap_items}
use Rattle.std.specs.BinaryHeap.{IsHeap}
use Rattle.tally_allot_award.specs.internal.Claims.{AreClaims, claim_cmp}
use Rattle.tally_allot_award.specs.internal.ContestTerms.{hare_terms}
use Rattle.tally_allot_award.proofs.remainder_award.claims_of.Given as goal

abbrev pub invariant-loop-list : goal.invariant-loop-list
invariant-loop-list l = record {
  order : IsHeap claim_cmp (heap_items l.claims);
  claims : AreClaims (hare_terms l.contest) l.list l.seats (heap_items l.claims);
}
