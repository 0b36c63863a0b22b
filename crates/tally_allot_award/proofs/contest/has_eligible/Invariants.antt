use Rattle.std.proofs.Common.{ℕ, ◌<◌}
use Rattle.tally_law.specs.Poll.{IsEligible}
use Rattle.tally_allot_award.proofs.contest.has_eligible.Given as goal

abbrev pub invariant-loop-list : goal.invariant-loop-list
invariant-loop-list g l = (k : ℕ) → k < l.list → ¬ IsEligible (g.C.Contest.terms l.contest).poll k
