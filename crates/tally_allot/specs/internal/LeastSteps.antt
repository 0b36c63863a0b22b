-- How the least seats are found. No promise to a caller speaks of it.
use Rattle.std.specs.Prelude.{ℕ, ◌≡◌, ◌<◌, ◌≤◌, ◌⊎◌, Bool, true, false, List, slice_index}
use Rattle.std.specs.Prelude.{slice_index_or, if◌then◌else◌}
use Rattle.tally_allot.specs.LeastSeats.{AreLeastSeats}
use Rattle.tally_allot_award.specs.internal.Terms.{Terms}

-- The fewest seats that a marked list among the first n holds; without one, the most that there is.
pub record IsFewestHeld (group : List Bool) (held : List ℕ) (most n fewest : ℕ) : Type 0 where
  pub at_least : (l : ℕ) → l < n → slice_index_or group l false ≡ true →
      fewest ≤ slice_index held l
  pub reached : (fewest ≡ most) ⊎
      ((l : ℕ) × (slice_index_or group l false ≡ true) × (slice_index held l ≡ fewest))

-- the seats of list l, where each marked list has the fewest
abbrev pub with_fewest : List Bool → List ℕ → ℕ → ℕ → ℕ
with_fewest group held fewest l =
    if slice_index_or group l false then fewest else slice_index held l

-- the least seats on these terms
abbrev pub AreLeastOn : Terms → List ℕ → Type 0
AreLeastOn terms least = AreLeastSeats terms.rule terms.poll terms.seats least
