use Rattle.std.proofs.Common.{◌≡◌, ℕ, ◌<◌, ◌↔◌, true, false, length, get_or}
use Rattle.tally_law.specs.Poll.{IsEligible, votes_of}
use Rattle.tally_allot_award.proofs.need.lists_with.Given as goal

abbrev pub invariant-loop-list : goal.invariant-loop-list
invariant-loop-list g l = record {
  long : length l.lists ≡ 60;
  marked : (x : ℕ) → (get_or l.lists x false ≡ true) ↔ ((x < l.list) × IsEligible (g.C.Contest.terms l.contest).poll x × (votes_of (g.C.Contest.terms l.contest).poll x ≡ l.votes));
}
