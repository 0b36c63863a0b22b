-- The conditions of every allotment, which its caller keeps.
use Rattle.std.specs.Prelude.{ℕ, ◌≤◌, List, length}
use Rattle.tally_frac.specs.Limits.{most_lists, most_seats, whole_base}
use Rattle.tally_setup.specs.Threshold.{IsWithinVotes}
use Rattle.tally_setup.specs.declared.profile.Profile.{Profile}

-- 1 to 60 lists, at most 5,000,000,000 votes with the blank ones, 1 to 500 seats and a threshold of
-- at most 10,000.
pub record AreLimitsKept (profile : Profile) (seats : ℕ) (votes : List ℕ) (blank : ℕ) : Type 0 where
  pub some_list : 1 ≤ length votes
  pub few_lists : length votes ≤ most_lists
  pub few_votes : IsWithinVotes votes blank
  pub some_seat : 1 ≤ seats
  pub few_seats : seats ≤ most_seats
  pub whole_at_most : profile.threshold ≤ whole_base
