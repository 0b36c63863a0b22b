-- Divisor allotment: the min-max inequality of Balinski and Young (Fair Representation). Ties are
-- broken by votes (LOREG article 163.1 d), first half) and then by place. The latter is this
-- project's own rule.
use Rattle.std.specs.Prelude.{ℕ, ◌+◌, ◌*◌, ◌≤◌, ◌≢◌, ◌⊎◌, List, slice_index}
use Rattle.tally_frac.specs.Fraction.{Fraction}
use Rattle.tally_frac.specs.Rank.{IsHigher, IsTied}
use Rattle.tally_setup.specs.declared.profile.LotRule.{LotRule}
use Rattle.tally_law.specs.Poll.{Poll, IsEligible, SharesOut, votes_of}
use Rattle.tally_law.specs.Lot.{ComesFirst}

-- The quotient of the pair (l, k), of list l and its k-th seat: the votes times the rule's unit,
-- over the k-th divisor.
abbrev pub quotient_of : (ℕ → ℕ) → ℕ → Poll → ℕ → ℕ → Fraction
quotient_of nth unit poll l k = record { num = votes_of poll l * unit; den = nth k }

-- (l, k) ranks above (m, j) in the weak rank: by greater quotient, then by more votes
abbrev pub IsAboveByVotes : (ℕ → ℕ) → ℕ → Poll → ℕ → ℕ → ℕ → ℕ → Type 0
IsAboveByVotes nth unit poll l k m j =
    IsHigher
    (quotient_of nth unit poll l k) (votes_of poll l)
    (quotient_of nth unit poll m j) (votes_of poll m)

-- neither ranks above the other in the weak rank; k and j are the same number then
abbrev pub IsTiedByVotes : (ℕ → ℕ) → ℕ → Poll → ℕ → ℕ → ℕ → ℕ → Type 0
IsTiedByVotes nth unit poll l k m j =
    IsTied
    (quotient_of nth unit poll l k) (votes_of poll l)
    (quotient_of nth unit poll m j) (votes_of poll m)

-- (l, k) ranks above (m, j) in the strict rank: as the weak rank, then by place
abbrev pub IsAbove : (ℕ → ℕ) → ℕ → LotRule → Poll → List ℕ → ℕ → ℕ → ℕ → ℕ → Type 0
IsAbove nth unit lot_rule poll lot l k m j =
    IsAboveByVotes nth unit poll l k m j ⊎
    (IsTiedByVotes nth unit poll l k m j × ComesFirst lot_rule lot l m k)

-- Each list's last seat ranks above the next seat of each other list.
pub record IsDivisorAllotment (nth : ℕ → ℕ) (unit : ℕ) (lot_rule : LotRule) (poll : Poll)
    (lot : List ℕ) (seats : ℕ) (a : List ℕ) : Type 0 where
  pub shares : SharesOut poll seats a
  pub last_above_next : (l m : ℕ) → IsEligible poll l → IsEligible poll m → l ≢ m →
      1 ≤ slice_index a l →
      IsAbove nth unit lot_rule poll lot l (slice_index a l) m (slice_index a m + 1)

-- The same by the votes alone, with no places: no list's last seat ranks below the next seat of
-- another list.
pub record IsDivisorAllotmentByVotes (nth : ℕ → ℕ) (unit : ℕ) (poll : Poll) (seats : ℕ)
    (a : List ℕ) : Type 0 where
  pub shares : SharesOut poll seats a
  pub last_not_below_next : (l m : ℕ) → IsEligible poll l → IsEligible poll m → l ≢ m →
      1 ≤ slice_index a l →
      ¬ IsAboveByVotes nth unit poll m (slice_index a m + 1) l (slice_index a l)
