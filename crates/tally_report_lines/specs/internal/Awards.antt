-- The awards that a text prints.
use Rattle.std.specs.Prelude.{ℕ, ◌≤◌, ◌<◌, List, length, slice_index_or}
use Rattle.tally_allot.specs.declared.award.Award.{Award}

-- an award to one of this many lists, with its divisor
pub record IsAwardAmong (lists : ℕ) (award : Award) : Type 0 where
  pub from_one : 1 ≤ award.list
  pub listed : award.list ≤ lists
  pub divisor : 1 ≤ award.den

-- each of these awards is one
abbrev pub AreAwardsAmong : ℕ → List Award → Type 0
AreAwardsAmong lists awards =
    (i : ℕ) (d : Award) → i < length awards → IsAwardAmong lists (slice_index_or awards i d)
