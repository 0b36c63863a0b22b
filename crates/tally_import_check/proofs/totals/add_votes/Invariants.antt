use Rattle.std.proofs.Common.{◌≡◌, ◌<◌, ◌≤◌, ◌+◌, ℕ, get_or}
use Rattle.tally_import_check.proofs.totals.add_votes.Given as goal

abbrev pub invariant-loop-place : goal.invariant-loop-place
invariant-loop-place l = record {
  added : (k : ℕ) → k < l.place → get_or l.totals k 0 ≡ get_or l.fn.totals k 0 + get_or l.votes k 0;
  others : (k : ℕ) → l.place ≤ k → get_or l.totals k 0 ≡ get_or l.fn.totals k 0;
}
