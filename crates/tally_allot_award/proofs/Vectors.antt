-- Vectors of numbers: sums against each other.
use Rattle.std.proofs.Common.{◌≡◌, ℕ, zero, suc, ◌+◌, ◌<◌, ◌≤◌, ◌≢◌, ◌⊎◌, List, [], ◌∷◌, length, get_or, sum, refl, inl, inr, ap, arith}
use Rattle.std.proofs.lemmas.List.Sums.{sum_by-cons}

pub sum-cons : (x : ℕ) (xs : List ℕ) → sum (x ∷ xs) ≡ x + sum xs
sum-cons x xs = sum_by-cons (λ n. n) x xs

-- b is above a somewhere, or nowhere
pub some_more_or_none : (a b : List ℕ) → ((m : ℕ) × (get_or a m 0 < get_or b m 0)) ⊎ ((m : ℕ) → get_or b m 0 ≤ get_or a m 0)
some_more_or_none [] [] = inr (λ m. omega arith)
some_more_or_none (x ∷ xs) [] = inr (λ m. omega arith)
some_more_or_none [] (y ∷ ys) = above_none y ys (some_more_or_none [] ys)
  where
    above_none : (y : ℕ) (ys : List ℕ) → ((m : ℕ) × (0 < get_or ys m 0)) ⊎ ((m : ℕ) → get_or ys m 0 ≤ 0) → ((m : ℕ) × (0 < get_or (y ∷ ys) m 0)) ⊎ ((m : ℕ) → get_or (y ∷ ys) m 0 ≤ 0)
    above_none y ys (inl w) = inl (suc w.0, w.1)
    above_none zero ys (inr h) = inr (elim [ zero ↦ omega arith | suc m ↦ h m ])
    above_none (suc y) ys (inr h) = inl (0, omega arith)
some_more_or_none (x ∷ xs) (y ∷ ys) = joined (grind arith) (some_more_or_none xs ys)
  where
    joined : (x < y) ⊎ (y ≤ x) → ((m : ℕ) × (get_or xs m 0 < get_or ys m 0)) ⊎ ((m : ℕ) → get_or ys m 0 ≤ get_or xs m 0) → ((m : ℕ) × (get_or (x ∷ xs) m 0 < get_or (y ∷ ys) m 0)) ⊎ ((m : ℕ) → get_or (y ∷ ys) m 0 ≤ get_or (x ∷ xs) m 0)
    joined (inl lt) _ = inl (0, lt)
    joined (inr le) (inl w) = inl (suc w.0, w.1)
    joined (inr le) (inr h) = inr (elim [ zero ↦ le | suc m ↦ h m ])

pub sum-le : (a b : List ℕ) → length a ≡ length b → ((m : ℕ) → get_or b m 0 ≤ get_or a m 0) → sum b ≤ sum a
sum-le [] [] e h = omega arith
sum-le (x ∷ xs) [] e h = omega arith
sum-le [] (y ∷ ys) e h = absurd (omega arith)
sum-le (x ∷ xs) (y ∷ ys) e h = omega (arith, sum-cons x xs, sum-cons y ys, h 0, sum-le xs ys (omega arith) (λ m. h (suc m)))

pub sum-lt : (a b : List ℕ) → length a ≡ length b → ((m : ℕ) → get_or b m 0 ≤ get_or a m 0) → (l : ℕ) → get_or b l 0 < get_or a l 0 → sum b < sum a
sum-lt [] [] e h l lt = absurd (omega arith)
sum-lt (x ∷ xs) [] e h l lt = absurd (omega arith)
sum-lt [] (y ∷ ys) e h l lt = absurd (omega arith)
sum-lt (x ∷ xs) (y ∷ ys) e h zero lt = omega (arith, sum-cons x xs, sum-cons y ys, sum-le xs ys (omega arith) (λ m. h (suc m)))
sum-lt (x ∷ xs) (y ∷ ys) e h (suc l) lt = omega (arith, sum-cons x xs, sum-cons y ys, h 0, sum-lt xs ys (omega arith) (λ m. h (suc m)) l lt)

-- Of two vectors of one sum, one that is above the other somewhere is below it somewhere.
pub some_less : (a b : List ℕ) → length a ≡ length b → sum a ≡ sum b → (l : ℕ) → get_or b l 0 < get_or a l 0 → (m : ℕ) × (get_or a m 0 < get_or b m 0)
some_less a b e s l lt = by_cases (some_more_or_none a b)
  where
    by_cases : ((m : ℕ) × (get_or a m 0 < get_or b m 0)) ⊎ ((m : ℕ) → get_or b m 0 ≤ get_or a m 0) → (m : ℕ) × (get_or a m 0 < get_or b m 0)
    by_cases (inl w) = w
    by_cases (inr h) = absurd (omega (arith, sum-lt a b e h l lt))

-- Two vectors of one length are equal or differ somewhere.
pub equal_or_apart : (a b : List ℕ) → length a ≡ length b → (a ≡ b) ⊎ ((l : ℕ) × (get_or a l 0 ≢ get_or b l 0))
equal_or_apart [] [] e = inl refl
equal_or_apart (x ∷ xs) [] e = absurd (omega arith)
equal_or_apart [] (y ∷ ys) e = absurd (omega arith)
equal_or_apart (x ∷ xs) (y ∷ ys) e = joined (grind arith) (equal_or_apart xs ys (omega arith))
  where
    joined : (x ≡ y) ⊎ (x ≢ y) → (xs ≡ ys) ⊎ ((l : ℕ) × (get_or xs l 0 ≢ get_or ys l 0)) → (x ∷ xs ≡ y ∷ ys) ⊎ ((l : ℕ) × (get_or (x ∷ xs) l 0 ≢ get_or (y ∷ ys) l 0))
    joined (inr ne) _ = inr (0, ne)
    joined (inl q) (inl p) = inl cc
    joined (inl q) (inr w) = inr (suc w.0, w.1)

-- Two vectors of one length and one sum are equal, or one is above at
-- one list and below at another.
pub record Exchange (a b : List ℕ) : Type 0 where
  pub l : ℕ
  pub m : ℕ
  pub more : get_or b l 0 < get_or a l 0
  pub less : get_or a m 0 < get_or b m 0

pub equal_or_exchange : (a b : List ℕ) → length a ≡ length b → sum a ≡ sum b → (a ≡ b) ⊎ Exchange a b
equal_or_exchange a b e s = by_cases (equal_or_apart a b e)
  where
    above : (l : ℕ) → get_or b l 0 < get_or a l 0 → Exchange a b
    above l lt = let w = some_less a b e s l lt in record { l = l; m = w.0; more = lt; less = w.1 }

    below : (m : ℕ) → get_or a m 0 < get_or b m 0 → Exchange a b
    below m lt = let w = some_less b a (omega arith) (omega arith) m lt in record { l = w.0; m = m; more = w.1; less = lt }

    apart : (l : ℕ) → (get_or b l 0 < get_or a l 0) ⊎ (get_or a l 0 ≤ get_or b l 0) → get_or a l 0 ≢ get_or b l 0 → Exchange a b
    apart l (inl lt) ne = above l lt
    apart l (inr le) ne = below l (omega arith)

    by_cases : (a ≡ b) ⊎ ((l : ℕ) × (get_or a l 0 ≢ get_or b l 0)) → (a ≡ b) ⊎ Exchange a b
    by_cases (inl p) = inl p
    by_cases (inr w) = inr (apart w.0 (grind arith) w.1)

pub get_or-le-sum : (a : List ℕ) (l : ℕ) → get_or a l 0 ≤ sum a
get_or-le-sum [] l = omega arith
get_or-le-sum (x ∷ xs) zero = omega (arith, sum-cons x xs)
get_or-le-sum (x ∷ xs) (suc l) = omega (arith, sum-cons x xs, get_or-le-sum xs l)

-- what two lists hold is within the whole
pub two-le-sum : (a : List ℕ) (l m : ℕ) → l ≢ m → get_or a l 0 + get_or a m 0 ≤ sum a
two-le-sum [] l m ne = omega arith
two-le-sum (x ∷ xs) zero zero ne = absurd (ne refl)
two-le-sum (x ∷ xs) zero (suc m) ne = omega (arith, sum-cons x xs, get_or-le-sum xs m)
two-le-sum (x ∷ xs) (suc l) zero ne = omega (arith, sum-cons x xs, get_or-le-sum xs l)
two-le-sum (x ∷ xs) (suc l) (suc m) ne = omega (arith, sum-cons x xs, two-le-sum xs l m (λ e. ne (ap suc e)))
