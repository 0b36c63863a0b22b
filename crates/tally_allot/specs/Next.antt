-- The list that is next: the one that would have the seat after the last, if there were one more
-- and the votes alone said whose it is. The rank is the weak one (LOREG article 163.1 c) and d),
-- first half); the word is this project's own.
use Rattle.std.specs.Prelude.{ℕ, ◌+◌, ◌≢◌, List, Option, Some, None, slice_index}
use Rattle.tally_law.specs.Poll.{Poll, IsEligible}
use Rattle.tally_law.specs.Allotment.{Rule, divisors, hare}
use Rattle.tally_law.specs.DivisorAllotment.{IsAboveByVotes}

-- The next seat of list m, which is eligible, ranks above that of each other eligible list.
abbrev pub HasNextSeat : (ℕ → ℕ) → ℕ → Poll → List ℕ → ℕ → Type 0
HasNextSeat nth unit poll a m =
    IsEligible poll m ×
    ((l : ℕ) → IsEligible poll l → l ≢ m →
    IsAboveByVotes nth unit poll m (slice_index a m + 1) l (slice_index a l + 1))

-- This list is next beside the seats of a vector, or none is.
abbrev pub IsNextBy : (ℕ → ℕ) → ℕ → Poll → List ℕ → Option ℕ → Type 0
IsNextBy nth unit poll a (Some m) = HasNextSeat nth unit poll a m
IsNextBy nth unit poll a None = (m : ℕ) → ¬ HasNextSeat nth unit poll a m

-- The same under a rule; Hare's has no quotients, and no list is next.
abbrev pub IsNext : Rule → Poll → List ℕ → Option ℕ → Type 0
IsNext (divisors nth unit lot_rule) poll a next = IsNextBy nth unit poll a next
IsNext hare poll a next = ⊥
