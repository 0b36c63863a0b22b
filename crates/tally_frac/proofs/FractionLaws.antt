-- What follows from cross-multiplication.
use Rattle.std.proofs.Common.{ℕ, ◌≡◌, ◌*◌, ◌<◌, ◌≤◌, ◌↔◌, ap, inl, inr, arith}
use Rattle.std.proofs.Math.Nat.{lt_of_mul-lt-mul_right, le_of_mul-le-mul_right, mul-lt-mul_of_pos_right, div-mul-le_self, le-div_iff_mul-le}
use Rattle.std.proofs.lemmas.Bool.{cases_lt}
use Rattle.tally_frac.specs.Fraction.{Fraction, IsGreater, IsLevel, whole_part}
use Rattle.tally_frac.specs.internal.FractionOrder.{chain_lt_le, chain_le_le}

pub greater-chain : (x y z : Fraction) → 1 ≤ x.den → IsGreater x y → IsGreater y z → IsGreater x z
greater-chain x y z p h k = chain_lt_le z.num z.den y.num y.den x.num x.den p k (omega arith)

pub level-chain : (x y z : Fraction) → 1 ≤ y.den → IsLevel x y → IsLevel y z → IsLevel x z
level-chain x y z p h k =
    let up : x.num * z.den ≤ z.num * x.den = chain_le_le x.num x.den y.num y.den z.num z.den p (omega arith) (omega arith) in
    let down : z.num * x.den ≤ x.num * z.den = chain_le_le z.num z.den y.num y.den x.num x.den p (omega arith) (omega arith) in
    omega arith

-- a level fraction is greater than the same fractions
pub level-greater : (x y z : Fraction) → 1 ≤ y.den → IsLevel x y → IsGreater x z → IsGreater y z
level-greater x y z p h k = chain_lt_le z.num z.den x.num x.den y.num y.den p k (omega arith)

le_unless_greater : (x y : Fraction) → (IsGreater x y → IsGreater y y) → x.num * y.den ≤ y.num * x.den
le_unless_greater x y h =
    elim (cases_lt (y.num * x.den) (x.num * y.den)) [
      | inl greater ↦
          let itself : y.num * y.den < y.num * y.den = h greater in
          absurd (omega arith)
      | inr not_greater ↦ not_greater
    ]

not_distinguished : (x y : Fraction) → 1 ≤ x.den → 1 ≤ y.den → ((z : Fraction) → 1 ≤ z.den → IsGreater x z ↔ IsGreater y z) → IsLevel x y
not_distinguished x y p q h =
    let not_greater : x.num * y.den ≤ y.num * x.den = le_unless_greater x y (λ g. (h y q).0 g) in
    let not_less : y.num * x.den ≤ x.num * y.den = le_unless_greater y x (λ g. (h x p).1 g) in
    omega arith

pub level-alike : (x y : Fraction) → 1 ≤ x.den → 1 ≤ y.den → IsLevel x y ↔ ((z : Fraction) → 1 ≤ z.den → IsGreater x z ↔ IsGreater y z)
level-alike x y p q =
    let back : IsLevel x y → IsLevel y x = λ h. omega arith in
    (λ h z r. (level-greater x y z q h, level-greater y x z p (back h)), not_distinguished x y p q)

pub whole_part-rises : (x y : Fraction) → 1 ≤ x.den → 1 ≤ y.den → IsGreater x y → whole_part y ≤ whole_part x
whole_part-rises x y p q h =
    let n : ℕ = whole_part y in
    let below : n * y.den ≤ y.num * 1 = omega (arith, div-mul-le_self y.num y.den) in
    let chained : n * x.den ≤ x.num * 1 = chain_le_le n 1 y.num y.den x.num x.den q below (omega arith) in
    let within : n * x.den ≤ x.num = omega arith in
    (le-div_iff_mul-le p).1 within

-- numerators by one factor cancel
pub scaled-greater : (a b c d unit : ℕ) → 1 ≤ unit → (a * unit * b < c * unit * d) ↔ (a * b < c * d)
scaled-greater a b c d unit p = (
  λ h.
      let turned : a * b * unit < c * d * unit = omega arith in
      lt_of_mul-lt-mul_right unit turned,
  λ h.
      let more : a * b * unit < c * d * unit = mul-lt-mul_of_pos_right h p in
      omega arith,
)

pub scaled-level : (a b c d unit : ℕ) → 1 ≤ unit → (a * unit * b ≡ c * unit * d) ↔ (a * b ≡ c * d)
scaled-level a b c d unit p = (
  λ h.
      let up : a * b * unit ≤ c * d * unit = omega arith in
      let down : c * d * unit ≤ a * b * unit = omega arith in
      let first : a * b ≤ c * d = le_of_mul-le-mul_right up p in
      let second : c * d ≤ a * b = le_of_mul-le-mul_right down p in
      omega arith,
  λ h.
      let same : a * b * unit ≡ c * d * unit = ap (λ n. n * unit) h in
      omega arith,
)
