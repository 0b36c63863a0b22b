-- Fractions of whole numbers, compared by cross-multiplication, as Euclid compares ratios
-- (Elements, book VII, proposition 19).
use Rattle.std.specs.Prelude.{ℕ, ◌≡◌, ◌*◌, ◌/◌, ◌<◌}

-- A fraction of whole numbers. What is said of fractions supposes, where it needs it, that the
-- denominator is at least 1.
pub record Fraction : Type 0 where
  pub num : ℕ
  pub den : ℕ

-- a/b is greater than c/d where a * d > c * b
abbrev pub IsGreater : Fraction → Fraction → Type 0
IsGreater x y = y.num * x.den < x.num * y.den

-- of one value
abbrev pub IsLevel : Fraction → Fraction → Type 0
IsLevel x y = x.num * y.den ≡ y.num * x.den

-- the whole part: what is left after rounding down
abbrev pub whole_part : Fraction → ℕ
whole_part x = x.num / x.den
