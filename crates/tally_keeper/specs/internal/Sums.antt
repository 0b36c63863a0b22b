-- Sums of closed votes that are moved by a return.
use Rattle.std.specs.Prelude.{◌≡◌, ◌≤◌, ◌<◌, if◌then◌else◌, ℕ, Bool, true, List, map, slice_index}
use Rattle.std.specs.Prelude.{length}
use Rattle.std.specs.List.{range_with_len}
use Rattle.tally_setup.specs.Limits.{most_stations}
use Rattle.tally_returns.specs.Counts.{VoteCounts}
use Rattle.tally_returns.specs.Progress.{is_received, is_queried, is_corrected, is_closed}
use Rattle.tally_returns.specs.Return.{StationReturn}
use Rattle.tally_returns.specs.View.{View}
use Rattle.tally_returns.specs.declared.returns.Status.{Status}
use Rattle.tally_keeper.specs.MovedSum.{moved_sum, CanMove}

-- the sums of the same lists, each with its own number
abbrev pub moved_sums : List ℕ → List ℕ → Bool → List ℕ
moved_sums sums by add =
    map (λ place. moved_sum (slice_index sums place) (slice_index by place) add)
    (range_with_len 0 (length sums))

-- the same of each of the sums
abbrev pub CanMoveEach : List ℕ → List ℕ → Bool → Type 0
CanMoveEach sums by add =
    (place : ℕ) → place < length sums → CanMove (slice_index sums place) (slice_index by place) add

-- what a return counts for in the number of returns with such a status
abbrev pub moved_count : Bool → ℕ → Bool → ℕ
moved_count has_status n add = if has_status then moved_sum n 1 add else n

-- the view with the numbers of a return's status moved by one
abbrev pub with_status : View → Status → Bool → View
with_status view status add = record view {
  received = moved_count (is_received status) view.received add;
  queried = moved_count (is_queried status) view.queried add;
  corrected = moved_count (is_corrected status) view.corrected add;
  closed = moved_count (is_closed status) view.closed add;
}

-- the view with the counts of a closed return moved
abbrev pub with_counts : View → VoteCounts → Bool → View
with_counts view counts add = record view {
  votes = moved_sums view.votes counts.votes add;
  blank = moved_sum view.blank counts.blank add;
  spoiled = moved_sum view.spoiled counts.spoiled add;
}

-- the view with a return counted, or no longer counted
abbrev pub with_return_counted : View → StationReturn → Bool → View
with_return_counted view standing add =
    if is_closed standing.status
    then with_counts (with_status view standing.status add) standing.counts add
    else with_status view standing.status add

-- the number of returns with a status can be moved by one
pub record CanMoveOne (has_status : Bool) (n : ℕ) (add : Bool) : Type 0 where
  pub few : n ≤ most_stations
  pub can : has_status ≡ true → CanMove n 1 add

-- so can those of a view, for a return of this status
pub record CanCountOne (view : View) (status : Status) (add : Bool) : Type 0 where
  pub received : CanMoveOne (is_received status) view.received add
  pub queried : CanMoveOne (is_queried status) view.queried add
  pub corrected : CanMoveOne (is_corrected status) view.corrected add
  pub closed : CanMoveOne (is_closed status) view.closed add

-- each sum of a view can be moved by the counts of a return
pub record CanMoveCounts (view : View) (counts : VoteCounts) (add : Bool) : Type 0 where
  pub lists : length counts.votes ≡ length view.votes
  pub votes : CanMoveEach view.votes counts.votes add
  pub blank : CanMove view.blank counts.blank add
  pub spoiled : CanMove view.spoiled counts.spoiled add

-- the return can be counted in the view, or be no longer counted
pub record CanCount (view : View) (standing : StationReturn) (add : Bool) : Type 0 where
  pub status : CanCountOne view standing.status add
  pub counts : is_closed standing.status ≡ true → CanMoveCounts view standing.counts add
