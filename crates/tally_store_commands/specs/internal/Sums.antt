-- Sums of closed votes with the counts of a return added or taken out.
use Rattle.std.specs.Prelude.{◌≡◌, ℕ, Bool, List, length}
use Rattle.tally_returns.specs.Counts.{VoteCounts}
use Rattle.tally_keeper.specs.MovedSum.{CanMove, moved_sum}
use Rattle.tally_keeper.specs.internal.Sums.{CanMoveEach, moved_sums}

-- A number for each list can be added or taken out, where they are for the same lists.
pub record FitEach (sums by : List ℕ) (add : Bool) : Type 0 where
  pub lists : length by ≡ length sums
  pub each : CanMoveEach sums by add

-- so can counts
pub record FitCounts (sums counts : VoteCounts) (add : Bool) : Type 0 where
  pub votes : FitEach sums.votes counts.votes add
  pub blank : CanMove sums.blank counts.blank add
  pub spoiled : CanMove sums.spoiled counts.spoiled add

-- the sums with each of these counts added or taken out
abbrev pub with_counts_moved : VoteCounts → VoteCounts → Bool → VoteCounts
with_counts_moved sums counts add = record {
  votes = moved_sums sums.votes counts.votes add;
  blank = moved_sum sums.blank counts.blank add;
  spoiled = moved_sum sums.spoiled counts.spoiled add;
}
