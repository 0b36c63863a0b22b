-- The order in which seats go to lists (LOREG article 163.1 c) and d)).
use Rattle.std.specs.Prelude.{ℕ, ◌≡◌, ◌+◌, ◌-◌, ◌*◌, ◌<◌, ◌≤◌, ◌⊎◌}
use Rattle.tally_frac.specs.Fraction.{Fraction, IsGreater, IsLevel}
use Rattle.tally_frac.specs.Limits.{most_votes, greatest_divisor, most_lists}

-- A pair of a list and the number of one of its seats, as ranks see it: the list's votes, the
-- divisor of that seat, the list's place (from 1).
pub record Pair : Type 0 where
  pub votes : ℕ
  pub divisor : ℕ
  pub place : ℕ

-- what is left of the quotient's unit: it is the same for all pairs of one allotment, and cancels
abbrev pub quotient : Pair → Fraction
quotient p = record { num = p.votes; den = p.divisor }

-- the quotient in full: the votes times the rule's unit, over the divisor counted in units
abbrev pub full_quotient : ℕ → Pair → Fraction
full_quotient unit p = record { num = p.votes * unit; den = p.divisor }

-- the weak rank (LOREG 163.1 d), first half): the quotient x of a list with v votes is above the
-- quotient y of one with w where it is greater, or where they are level and the list has more votes
abbrev pub IsHigher : (x : Fraction) (v : ℕ) (y : Fraction) (w : ℕ) → Type 0
IsHigher x v y w = IsGreater x y ⊎ (IsLevel x y × (w < v))

-- neither is above the other
abbrev pub IsTied : (x : Fraction) (v : ℕ) (y : Fraction) (w : ℕ) → Type 0
IsTied x v y w = IsLevel x y × (v ≡ w)

-- of two pairs one ranks above the other in the weak rank
abbrev pub RanksAboveByVotes : Pair → Pair → Type 0
RanksAboveByVotes p q = IsHigher (quotient p) p.votes (quotient q) q.votes

-- votes by one divisor rank above other votes by another, in the weak rank, which no place enters
abbrev pub VotesRankAbove : (votes divisor other_votes other_divisor : ℕ) → Type 0
VotesRankAbove votes divisor other_votes other_divisor =
    RanksAboveByVotes
    (record { votes = votes; divisor = divisor; place = 0 })
    (record { votes = other_votes; divisor = other_divisor; place = 0 })

-- of two pairs neither ranks above the other in the weak rank: they tie
abbrev pub TiesByVotes : Pair → Pair → Type 0
TiesByVotes p q = IsTied (quotient p) p.votes (quotient q) q.votes

-- the strict rank: as the weak rank, then by earlier place
abbrev pub RanksAbove : Pair → Pair → Type 0
RanksAbove p q = RanksAboveByVotes p q ⊎ (TiesByVotes p q × (p.place < q.place))

-- .. or they tie by votes and have one place
abbrev pub TiesByVotesAndPlace : Pair → Pair → Type 0
TiesByVotesAndPlace p q = TiesByVotes p q × (p.place ≡ q.place)

-- the strict rank where the order of a lot is turned round: as the weak rank, then by later place
abbrev pub RanksAboveTurned : Pair → Pair → Type 0
RanksAboveTurned p q = RanksAboveByVotes p q ⊎ (TiesByVotes p q × (q.place < p.place))

-- the pair with its place counted from the last: 61 less the place
abbrev pub turned_pair : Pair → Pair
turned_pair p = record { votes = p.votes; divisor = p.divisor; place = most_lists + 1 - p.place }

-- the pairs that can be compared as keys: an eligible list has 1 to 5,000,000,000 votes, a divisor
-- is 1 to 5,005, a constituency has at most 60 lists
pub record IsWithinLimits (p : Pair) : Type 0 where
  pub some_votes : 1 ≤ p.votes
  pub votes_limit : p.votes ≤ most_votes
  pub some_divisor : 1 ≤ p.divisor
  pub divisor_limit : p.divisor ≤ greatest_divisor
  pub some_place : 1 ≤ p.place
  pub place_limit : p.place ≤ most_lists
