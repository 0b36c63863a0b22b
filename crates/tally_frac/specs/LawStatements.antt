-- The statements of the laws on fractions and ranks that take more than a line.
use Rattle.std.specs.Prelude.{ℕ, ◌≡◌, ◌≤◌, ◌↔◌}
use Rattle.std.specs.declared.cmp.Ordering.{Ordering}
use Rattle.std.specs.declared.cmp.Ordering.TheVariants.{Less, Greater}
use Rattle.tally_frac.specs.Fraction.{Fraction, IsGreater}
use Rattle.tally_frac.specs.Rank.{Pair, quotient, full_quotient, turned_pair, IsWithinLimits}

-- What the first has to the second and the second to the third, the first has to the third.
abbrev pub IsTransitiveAt : (Fraction → Fraction → Type 0) → (x y z : Fraction) → Type 0
IsTransitiveAt Related x y z = Related x y → Related y z → Related x z

-- no third fraction distinguishes the two
abbrev pub AreAlike : Fraction → Fraction → Type 0
AreAlike x y = (z : Fraction) → 1 ≤ z.den → IsGreater x z ↔ IsGreater y z

-- The quotients of two pairs have this relation in any unit exactly where they have it without one.
abbrev pub IsSameInAnyUnit : (Fraction → Fraction → Type 0) → Type 0
IsSameInAnyUnit Related = (p q : Pair) (unit : ℕ) → 1 ≤ unit →
    Related (full_quotient unit p) (full_quotient unit q) ↔ Related (quotient p) (quotient q)

-- A pair in the first relation to one that is in the second relation to a third is in the last
-- relation to the third.
abbrev pub Chain : (First Second Both : Pair → Pair → Type 0) → Type 0
Chain First Second Both = (p q r : Pair) → 1 ≤ p.divisor → 1 ≤ q.divisor → 1 ≤ r.divisor →
    First p q → Second q r → Both p r

-- a comparison, of the pairs with their places counted from the last
abbrev pub of_turned : (Pair → Pair → Ordering) → Pair → Pair → Ordering
of_turned cmp p q = cmp (turned_pair p) (turned_pair q)

-- Of pairs within the limits, a comparison answers that the first is greater exactly where it ranks
-- above the second.
abbrev pub IsGreaterWhereAbove : (Pair → Pair → Ordering) → (Pair → Pair → Type 0) → Type 0
IsGreaterWhereAbove cmp Above =
    (p q : Pair) → IsWithinLimits p → IsWithinLimits q → (cmp p q ≡ Greater) ↔ Above p q

-- .. and that it is less exactly where the second ranks above it
abbrev pub IsLessWhereBelow : (Pair → Pair → Ordering) → (Pair → Pair → Type 0) → Type 0
IsLessWhereBelow cmp Above =
    (p q : Pair) → IsWithinLimits p → IsWithinLimits q → (cmp p q ≡ Less) ↔ Above q p
