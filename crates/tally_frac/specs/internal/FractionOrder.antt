-- The order of fractions as an answer of a comparison, and why it is a total order up to level
-- fractions.
use Rattle.std.specs.Prelude.{ℕ, ◌≡◌, ◌*◌, ◌<◌, ◌≤◌}
use Rattle.std.specs.declared.cmp.Ordering.{Ordering}
use Rattle.std.specs.declared.cmp.Ordering.TheVariants.{Less, Equal, Greater}
use Rattle.std.specs.Ordering.{nat_cmp, on, MatchOrdering}
use Rattle.std.specs.Cmp.{IsTotalOrder, nat_cmp_total, ranks, nat_cmp_is}
use Rattle.std.proofs.Common.{arith, sym, subst}
use Rattle.std.proofs.Math.Nat.{lt_of_mul-lt-mul_right, le_of_mul-le-mul_right}
use Rattle.std.proofs.Math.Nat.{mul-lt-mul_of_pos_right, mul-le-mul_right}
use Rattle.tally_frac.specs.Fraction.{Fraction}

-- Greater where `IsGreater x y`, Equal where `IsLevel x y`, Less where `IsGreater y x`
abbrev pub fraction_cmp : Fraction → Fraction → Ordering
fraction_cmp x y = nat_cmp (x.num * y.den) (y.num * x.den)

-- what an answer on two numbers says of them
pub less_means : (m n : ℕ) → nat_cmp m n ≡ Less → m < n
less_means m n e = subst (λ r. MatchOrdering r (m < n) (m ≡ n) (n < m)) e (ranks m n)

pub equal_means : (m n : ℕ) → nat_cmp m n ≡ Equal → m ≡ n
equal_means m n e = subst (λ r. MatchOrdering r (m < n) (m ≡ n) (n < m)) e (ranks m n)

pub greater_means : (m n : ℕ) → nat_cmp m n ≡ Greater → n < m
greater_means m n e = subst (λ r. MatchOrdering r (m < n) (m ≡ n) (n < m)) e (ranks m n)

pub is_less : (m n : ℕ) → m < n → nat_cmp m n ≡ Less
is_less m n h = sym (nat_cmp_is m n Less h)

pub is_equal : (m n : ℕ) → m ≡ n → nat_cmp m n ≡ Equal
is_equal m n h = sym (nat_cmp_is m n Equal h)

pub is_greater : (m n : ℕ) → n < m → nat_cmp m n ≡ Greater
is_greater m n h = sym (nat_cmp_is m n Greater h)

-- Cross products chain. Below, the fractions are a/b, c/d and e/f
pub chain_le_lt : (a b c d e f : ℕ) → 1 ≤ b → a * d ≤ c * b → c * f < e * d → a * f < e * b
chain_le_lt a b c d e f p h k =
    let first : a * d * f ≤ c * b * f = mul-le-mul_right f h in
    let second : c * f * b < e * d * b = mul-lt-mul_of_pos_right k p in
    let both : a * f * d < e * b * d = omega arith in
    lt_of_mul-lt-mul_right d both

pub chain_lt_le : (a b c d e f : ℕ) → 1 ≤ f → a * d < c * b → c * f ≤ e * d → a * f < e * b
chain_lt_le a b c d e f p h k =
    let first : a * d * f < c * b * f = mul-lt-mul_of_pos_right h p in
    let second : c * f * b ≤ e * d * b = mul-le-mul_right b k in
    let both : a * f * d < e * b * d = omega arith in
    lt_of_mul-lt-mul_right d both

pub chain_le_le : (a b c d e f : ℕ) → 1 ≤ d → a * d ≤ c * b → c * f ≤ e * d → a * f ≤ e * b
chain_le_le a b c d e f p h k =
    let first : a * d * f ≤ c * b * f = mul-le-mul_right f h in
    let second : c * f * b ≤ e * d * b = mul-le-mul_right b k in
    let both : a * f * d ≤ e * b * d = omega arith in
    le_of_mul-le-mul_right both p

-- the same answer for other facts
match_ordering : {P Q R P' Q' R' : Type 0} → (P → P') → (Q → Q') → (R → R') → (r : Ordering) →
    MatchOrdering r P Q R → MatchOrdering r P' Q' R'
match_ordering f g h Less m = f m
match_ordering f g h Equal m = g m
match_ordering f g h Greater m = h m

-- values that have fractions, in the order of these
module _ {K : Type 0} (f : K → Fraction) (positive : (x : K) → 1 ≤ (f x).den) where
  fractions_trans : (x y z : K) → fraction_cmp (f x) (f y) ≡ Less →
      fraction_cmp (f y) (f z) ≡ Less → fraction_cmp (f x) (f z) ≡ Less
  fractions_trans x y z h k =
      let first : (f x).num * (f y).den < (f y).num * (f x).den = less_means _ _ h in
      let second : (f y).num * (f z).den < (f z).num * (f y).den = less_means _ _ k in
      is_less _ _ (chain_lt_le (f x).num (f x).den (f y).num (f y).den (f z).num (f z).den
      (positive z) first (omega arith))

  fractions_congr : (x y z : K) → fraction_cmp (f x) (f y) ≡ Equal →
      fraction_cmp (f x) (f z) ≡ fraction_cmp (f y) (f z)
  fractions_congr x y z h =
      let level : (f x).num * (f y).den ≡ (f y).num * (f x).den = equal_means _ _ h in
      nat_cmp_is _ _ (fraction_cmp (f x) (f z))
      (match_ordering
      (λ less. chain_le_lt (f y).num (f y).den (f x).num (f x).den (f z).num (f z).den (positive y)
      (omega arith) less)
      (λ same.
      let up : (f y).num * (f z).den ≤ (f z).num * (f y).den =
      chain_le_le (f y).num (f y).den (f x).num (f x).den (f z).num (f z).den (positive x)
      (omega arith) (omega arith) in
      let down : (f z).num * (f y).den ≤ (f y).num * (f z).den =
      chain_le_le (f z).num (f z).den (f x).num (f x).den (f y).num (f y).den (positive x)
      (omega arith) (omega arith) in
      omega arith)
      (λ greater. chain_lt_le (f z).num (f z).den (f x).num (f x).den (f y).num (f y).den
      (positive y) greater (omega arith))
      (fraction_cmp (f x) (f z))
      (ranks ((f x).num * (f z).den) ((f z).num * (f x).den)))

  pub fractions_total : IsTotalOrder (on f fraction_cmp)
  fractions_total = record {
    antisymm = λ x y. nat_cmp_total.antisymm ((f x).num * (f y).den) ((f y).num * (f x).den);
    trans = fractions_trans;
    congr = fractions_congr;
  }
