-- The seats won, in order. No promise to a caller speaks of them.
use Rattle.std.specs.Prelude.{ℕ, ◌≡◌, ◌+◌, ◌<◌, ◌≤◌, List, length, replicate, slice_index}
use Rattle.std.specs.Prelude.{slice_index_or}
use Rattle.tally_frac.specs.Limits.{last_divisor}
use Rattle.tally_allot_award.specs.declared.won.WonSeat.{WonSeat}
use Rattle.tally_allot_award.specs.internal.Race.{Race, IsPair}

-- no seats for each of this many lists
abbrev pub none_held : ℕ → List ℕ
none_held count = replicate count 0

-- Each pair that won its seat once, from the highest to the lowest, and all above every next pair.
pub record AreWon (race : Race) (a : List ℕ) (rows : List WonSeat) : Type 0 where
  pub each : (i : ℕ) (d : WonSeat) → i < length rows →
      IsPair race (slice_index_or rows i d).list (slice_index_or rows i d).seat ×
      ((slice_index_or rows i d).seat ≤ slice_index a (slice_index_or rows i d).list)
  pub all : (l k : ℕ) → race.floor l < k → k ≤ slice_index a l → (i : ℕ) × (i < length rows) ×
      ((d : WonSeat) → slice_index_or rows i d ≡ record { list = l; seat = k })
  pub falling : (i j : ℕ) (d : WonSeat) → i < j → j < length rows →
      race.Above (slice_index_or rows i d).list (slice_index_or rows i d).seat
      (slice_index_or rows j d).list (slice_index_or rows j d).seat
  pub ahead : (i : ℕ) (d : WonSeat) (m : ℕ) → i < length rows → slice_index a m < race.cap m →
      race.Above (slice_index_or rows i d).list (slice_index_or rows i d).seat m
      (slice_index a m + 1)

-- a seat of one of this many lists, within the most that there are
abbrev pub IsRow : ℕ → WonSeat → Type 0
IsRow count row = (row.list < count) × (1 ≤ row.seat) × (row.seat ≤ last_divisor)

-- each is such a seat
abbrev pub AreRows : ℕ → List WonSeat → Type 0
AreRows count rows = (i : ℕ) (d : WonSeat) → i < length rows → IsRow count (slice_index_or rows i d)
