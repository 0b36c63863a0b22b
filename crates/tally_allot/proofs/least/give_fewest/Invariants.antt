use Rattle.std.proofs.Common.{◌≡◌, ℕ, ◌<◌, ◌≤◌, get_or}
use Rattle.tally_allot.specs.internal.LeastSteps.{with_fewest}
use Rattle.tally_allot.proofs.least.give_fewest.Given as goal

abbrev pub invariant-loop-list : goal.invariant-loop-list
invariant-loop-list l = record {
  given : (k : ℕ) → k < l.list → get_or l.held k 0 ≡ with_fewest l.group l.fn.held l.fewest k;
  left : (k : ℕ) → l.list ≤ k → get_or l.held k 0 ≡ get_or l.fn.held k 0;
}
