-- What proofs suppose of a rule, a poll and a lot. The divisors of every rule and every poll of a
-- profile are so, and so is the lot that is to be taken. No promise to a caller speaks of it.
use Rattle.std.specs.Prelude.{ℕ, ◌≡◌, ◌<◌, ◌≤◌, ◌≢◌, List, length}
use Rattle.tally_law.specs.Poll.{Poll, IsEligible, votes_of}
use Rattle.tally_law.specs.Lot.{is_named, place_of}
use Rattle.tally_law.specs.Allotment.{Rule, divisors, hare}

-- Divisors are positive and rise.
pub record AreDivisors (nth : ℕ → ℕ) : Type 0 where
  pub positive : (k : ℕ) → 1 ≤ k → 1 ≤ nth k
  pub rises : (j k : ℕ) → 1 ≤ j → j < k → nth j < nth k

abbrev pub IsRule : Rule → Type 0
IsRule (divisors nth unit lot_rule) = AreDivisors nth × (1 ≤ unit)
IsRule hare = Unit {0}

-- Each eligible list is one of the poll and has votes.
pub record IsSound (poll : Poll) : Type 0 where
  pub listed : (l : ℕ) → IsEligible poll l → l < length poll.votes
  pub with_votes : (l : ℕ) → IsEligible poll l → 1 ≤ votes_of poll l

-- Of eligible lists with equal votes no two have one place.
abbrev pub ArePlacedApart : Poll → List ℕ → Type 0
ArePlacedApart poll lot = (l m : ℕ) → IsEligible poll l → IsEligible poll m → l ≢ m →
    votes_of poll l ≡ votes_of poll m → place_of lot l ≢ place_of lot m

-- What holds of the lot that is to be taken, and of none: of eligible lists with equal votes it
-- places no two alike, and names all or none.
pub record IsProperLot (poll : Poll) (lot : List ℕ) : Type 0 where
  pub apart : ArePlacedApart poll lot
  pub together : (l m : ℕ) → IsEligible poll l → IsEligible poll m →
      votes_of poll l ≡ votes_of poll m →
      is_named lot l ≡ is_named lot m
