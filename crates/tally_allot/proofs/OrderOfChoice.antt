-- Each allotment that the votes allow comes from an order of the group:
-- the lists that hold the seat in question first.
use Rattle.std.proofs.Common.{◌≡◌, ℕ, zero, suc, ◌+◌, ◌<◌, ◌≤◌, ◌≢◌, ◌⊎◌, List, [], ◌∷◌, ◌++◌, Bool, true, false, cond, eqb, length, get_or, refl, sym, ap, ◌∙◌, inl, inr, arith}
use Rattle.std.proofs.lemmas.Bool.{cases_lt, cases_Bool, false≢true, eqb-true, eqb-false}
use Rattle.std.proofs.lemmas.List.{get_or_append_left, get_or_push, length_push}
use Rattle.tally_frac.specs.ListSet.{has_place}
use Rattle.tally_law.specs.Lot.{place_of, IsOrderOf}
use Rattle.tally_allot.proofs.LotLaws.{IsPlaced, at_name, at_setup, placed_at}

-- the marked ones of the first n lists, those that hold k seats before the others
abbrev pub order_before : List Bool → List ℕ → ℕ → ℕ → List ℕ
order_before group a k zero = []
order_before group a k (suc n) = cond (get_or group n false) (cond (eqb (get_or a n 0) k) ((n + 1) ∷ order_before group a k n) (order_before group a k n ++ (n + 1) ∷ [])) (order_before group a k n)

-- What such an order is: it has each marked list, no other, those with
-- k seats first, and each once.
pub record IsInOrder (group : List Bool) (a : List ℕ) (k n : ℕ) (lot : List ℕ) : Type 0 where
  pub all : (x : ℕ) → x < n → get_or group x false ≡ true → (i : ℕ) × (i < length lot) × (get_or lot i 0 ≡ x + 1)
  pub only : (i : ℕ) → i < length lot → (x : ℕ) × (x < n) × (get_or lot i 0 ≡ x + 1) × (get_or group x false ≡ true)
  pub first : (i j x y : ℕ) → i < j → j < length lot → get_or lot i 0 ≡ x + 1 → get_or lot j 0 ≡ y + 1 → get_or a y 0 ≡ k → get_or a x 0 ≡ k
  pub once : (i j : ℕ) → i < j → j < length lot → get_or lot i 0 ≢ get_or lot j 0

module _ (group : List Bool) (a : List ℕ) (k n : ℕ) (lot : List ℕ) (o : IsInOrder group a k n lot) where
  passed : get_or group n false ≡ false → IsInOrder group a k (suc n) lot
  passed out = record { all = λ x lt m. all x (cases_lt x n) lt m; only = λ i lt. let w = o.only i lt in (w.0, omega (arith, w.1), w.2, w.3); first = o.first; once = o.once }
    where
      all : (x : ℕ) → (x < n) ⊎ (n ≤ x) → x < suc n → get_or group x false ≡ true → (i : ℕ) × (i < length lot) × (get_or lot i 0 ≡ x + 1)
      all x (inl h) lt m = o.all x h m
      all x (inr h) lt m = let e : n ≡ x = omega arith in absurd (false≢true (sym out ∙ ap (λ y. get_or group y false) e ∙ m))

  in_front : get_or group n false ≡ true → get_or a n 0 ≡ k → IsInOrder group a k (suc n) ((n + 1) ∷ lot)
  in_front marked holds = record { all = λ x lt m. all x (cases_lt x n) lt m; only = only; first = first; once = once }
    where
      all : (x : ℕ) → (x < n) ⊎ (n ≤ x) → x < suc n → get_or group x false ≡ true → (i : ℕ) × (i < length ((n + 1) ∷ lot)) × (get_or ((n + 1) ∷ lot) i 0 ≡ x + 1)
      all x (inl h) lt m = let w = o.all x h m in (suc w.0, omega (arith, w.1), w.2)
      all x (inr h) lt m = (0, omega arith, omega arith)

      only : (i : ℕ) → i < length ((n + 1) ∷ lot) → (x : ℕ) × (x < suc n) × (get_or ((n + 1) ∷ lot) i 0 ≡ x + 1) × (get_or group x false ≡ true)
      only zero lt = (n, omega arith, refl, marked)
      only (suc i) lt = let w = o.only i (omega arith) in (w.0, omega (arith, w.1), w.2, w.3)

      first : (i j x y : ℕ) → i < j → j < length ((n + 1) ∷ lot) → get_or ((n + 1) ∷ lot) i 0 ≡ x + 1 → get_or ((n + 1) ∷ lot) j 0 ≡ y + 1 → get_or a y 0 ≡ k → get_or a x 0 ≡ k
      first zero j x y lt end ex ey h = let e : n ≡ x = omega arith in sym (ap (λ z. get_or a z 0) e) ∙ holds
      first (suc i) zero x y lt end ex ey h = absurd (omega arith)
      first (suc i) (suc j) x y lt end ex ey h = o.first i j x y (omega arith) (omega arith) ex ey h

      once : (i j : ℕ) → i < j → j < length ((n + 1) ∷ lot) → get_or ((n + 1) ∷ lot) i 0 ≢ get_or ((n + 1) ∷ lot) j 0
      once i zero lt end e = absurd (omega arith)
      once zero (suc j) lt end e = let w = o.only j (omega arith) in absurd (omega (arith, w.1, w.2))
      once (suc i) (suc j) lt end e = o.once i j (omega arith) (omega arith) e

  at_end : get_or group n false ≡ true → get_or a n 0 ≢ k → IsInOrder group a k (suc n) (lot ++ (n + 1) ∷ [])
  at_end marked fewer = record { all = λ x lt m. all x (cases_lt x n) lt m; only = λ i lt. only i (cases_lt i (length lot)) lt; first = λ i j x y lt end. first i j x y (cases_lt j (length lot)) lt end; once = λ i j lt end. once i j (cases_lt j (length lot)) lt end }
    where
      long : length (lot ++ (n + 1) ∷ []) ≡ length lot + 1
      long = length_push lot (n + 1)

      old : (i : ℕ) → i < length lot → get_or (lot ++ (n + 1) ∷ []) i 0 ≡ get_or lot i 0
      old i lt = get_or_append_left lot ((n + 1) ∷ []) 0 i lt

      new : (i : ℕ) → length lot ≡ i → get_or (lot ++ (n + 1) ∷ []) i 0 ≡ n + 1
      new i e = get_or_push lot (n + 1) 0 i e

      all : (x : ℕ) → (x < n) ⊎ (n ≤ x) → x < suc n → get_or group x false ≡ true → (i : ℕ) × (i < length (lot ++ (n + 1) ∷ [])) × (get_or (lot ++ (n + 1) ∷ []) i 0 ≡ x + 1)
      all x (inl h) lt m = let w = o.all x h m in (w.0, omega (arith, w.1, long), old w.0 w.1 ∙ w.2)
      all x (inr h) lt m = (length lot, omega (arith, long), omega (arith, new (length lot) refl))

      only : (i : ℕ) → (i < length lot) ⊎ (length lot ≤ i) → i < length (lot ++ (n + 1) ∷ []) → (x : ℕ) × (x < suc n) × (get_or (lot ++ (n + 1) ∷ []) i 0 ≡ x + 1) × (get_or group x false ≡ true)
      only i (inl h) lt = let w = o.only i h in (w.0, omega (arith, w.1), old i h ∙ w.2, w.3)
      only i (inr h) lt = (n, omega arith, new i (omega (arith, long)), marked)

      first : (i j x y : ℕ) → (j < length lot) ⊎ (length lot ≤ j) → i < j → j < length (lot ++ (n + 1) ∷ []) → get_or (lot ++ (n + 1) ∷ []) i 0 ≡ x + 1 → get_or (lot ++ (n + 1) ∷ []) j 0 ≡ y + 1 → get_or a y 0 ≡ k → get_or a x 0 ≡ k
      first i j x y (inl h) lt end ex ey holds = o.first i j x y lt h (sym (old i (omega arith)) ∙ ex) (sym (old j h) ∙ ey) holds
      first i j x y (inr h) lt end ex ey holds =
          let e : n ≡ y = omega (arith, new j (omega (arith, long)), ey) in
          absurd (fewer (ap (λ z. get_or a z 0) e ∙ holds))

      once : (i j : ℕ) → (j < length lot) ⊎ (length lot ≤ j) → i < j → j < length (lot ++ (n + 1) ∷ []) → get_or (lot ++ (n + 1) ∷ []) i 0 ≢ get_or (lot ++ (n + 1) ∷ []) j 0
      once i j (inl h) lt end e = o.once i j lt h (sym (old i (omega arith)) ∙ e ∙ old j h)
      once i j (inr h) lt end e =
          let before : i < length lot = omega (arith, long) in
          let w = o.only i before in
          absurd (omega (arith, w.1, w.2, old i before, new j (omega (arith, long)), e))

pub in_order : (group : List Bool) (a : List ℕ) (k n : ℕ) → IsInOrder group a k n (order_before group a k n)
in_order group a k zero = record { all = λ x lt. absurd (omega arith); only = λ i lt. absurd (omega arith); first = λ i j x y lt end. absurd (omega arith); once = λ i j lt end. absurd (omega arith) }
in_order group a k (suc n) = by_test (cases_Bool (get_or group n false)) (cases_Bool (eqb (get_or a n 0) k)) (in_order group a k n)
  where
    before : List ℕ
    before = order_before group a k n

    Wanted : Bool → Bool → Type 0
    Wanted b h = IsInOrder group a k (suc n) (cond b (cond h ((n + 1) ∷ order_before group a k n) (order_before group a k n ++ (n + 1) ∷ [])) (order_before group a k n))

    by_test : (get_or group n false ≡ true) ⊎ (get_or group n false ≡ false) → (eqb (get_or a n 0) k ≡ true) ⊎ (eqb (get_or a n 0) k ≡ false) → IsInOrder group a k n (order_before group a k n) → IsInOrder group a k (suc n) (order_before group a k (suc n))
    by_test (inr out) _ o = rw out (passed group a k n (order_before group a k n) o out)
    by_test (inl m) (inl h) o = rw (m, h) (in_front group a k n (order_before group a k n) o m (eqb-true _ _ h))
    by_test (inl m) (inr h) o = rw (m, h) (at_end group a k n (order_before group a k n) o m (eqb-false _ _ h))

-- an order of the group in which those that hold k seats come first
module _ (group : List Bool) (a : List ℕ) (k n : ℕ) (inside : (x : ℕ) → get_or group x false ≡ true → x < n) (lot : List ℕ) (o : IsInOrder group a k n lot) where
  pub order_of_group : IsOrderOf group lot
  order_of_group = record { all = λ x m. o.all x (inside x m) m; no_other = no_other; once = o.once }
    where
      no_other : (i : ℕ) → i < length lot → has_place group (get_or lot i 0) ≡ true
      no_other i lt =
          let w = o.only i lt in
          let e : get_or lot i 0 ≡ suc w.0 = omega (arith, w.2) in
          ap (has_place group) e ∙ w.3

  pub first_placed : (x y : ℕ) → get_or group x false ≡ true → get_or group y false ≡ true → get_or a x 0 ≡ k → get_or a y 0 ≢ k → place_of lot x < place_of lot y
  first_placed x y mx my hx hy = by_places (placed_at 1 lot x) (placed_at 1 lot y)
    where
      by_places : IsPlaced 1 lot x → IsPlaced 1 lot y → place_of lot x < place_of lot y
      by_places (at_setup none _) _ = let w = o.all x (inside x mx) mx in absurd (none w.0 w.1 w.2)
      by_places (at_name i li ai pi) (at_setup none _) = let w = o.all y (inside y my) my in absurd (none w.0 w.1 w.2)
      by_places (at_name i li ai pi) (at_name j lj aj pj) = by_order (cases_lt i j) (cases_lt j i)
        where
          by_order : (i < j) ⊎ (j ≤ i) → (j < i) ⊎ (i ≤ j) → place_of lot x < place_of lot y
          by_order (inl lt) _ = omega arith
          by_order (inr _) (inl gt) = absurd (hy (o.first j i y x gt li aj ai hx))
          by_order (inr p) (inr q) =
              let e : i ≡ j = omega arith in
              let e' : get_or lot i 0 ≡ get_or lot j 0 = ap (λ z. get_or lot z 0) e in
              let e'' : x ≡ y = omega arith in
              absurd (hy (sym (ap (λ z. get_or a z 0) e'') ∙ hx))
