-- A sum with a number added to it or taken away.
use Rattle.std.specs.Prelude.{◌+◌, ◌-◌, ◌≤◌, ℕ, Bool, true, false}
use Rattle.tally_frac.specs.Limits.{most_votes}

-- a sum with a number added to it or taken away
abbrev pub moved_sum : ℕ → ℕ → Bool → ℕ
moved_sum n by true = n + by
moved_sum n by false = n - by

-- a number that is added does not take the sum above 5,000,000,000; one that is taken away is in it
abbrev pub CanMove : ℕ → ℕ → Bool → Type 0
CanMove n by true = n + by ≤ most_votes
CanMove n by false = by ≤ n
