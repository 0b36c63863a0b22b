use Rattle.std.proofs.Common.{◌≡◌, ◌<◌, ◌≤◌, ℕ, List, Bool, length, slice_index}
use Rattle.tally_keeper.specs.MovedSum.{CanMove, moved_sum}
use Rattle.tally_store_commands.proofs.sums.move_votes.Given as goal

-- the sums before this place are moved, each of which could be, and the others are as they were
pub record Moved (place : ℕ) (old new by : List ℕ) (add : Bool) : Type 0 where
  pub lists : length new ≡ length old
  pub fit : (k : ℕ) → k < place → CanMove (slice_index old k) (slice_index by k) add
  pub before : (k : ℕ) → k < place → slice_index new k ≡ moved_sum (slice_index old k) (slice_index by k) add
  pub behind : (k : ℕ) → place ≤ k → slice_index new k ≡ slice_index old k

abbrev pub invariant-loop-place : goal.invariant-loop-place
invariant-loop-place l = Moved l.place l.fn.votes l.votes l.by l.add
