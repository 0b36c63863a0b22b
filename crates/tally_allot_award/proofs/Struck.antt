-- A lot against a group, from which each list is struck where the lot names it.
use Rattle.std.proofs.Common.{◌≡◌, ◌≢◌, ℕ, zero, suc, ◌+◌, ◌-◌, ◌<◌, ◌≤◌, ◌⊎◌, List, [], ◌∷◌, Bool, true, false, length, get_or, set, inl, inr, refl, sym, ◌∙◌, ap, subst, arith}
use Rattle.std.proofs.lemmas.Bool.{cases_lt, cases_eq, false≢true}
use Rattle.std.proofs.lemmas.List.{get_or_past, get_or-set_other}
use Rattle.tally_frac.specs.ListSet.{has_place}
use Rattle.tally_law.specs.Lot.{IsOrderOf}
use Rattle.tally_allot_award.proofs.ListSetLemmas.{has_place-at}

-- the lists of the group that the first i entries leave; each of these
-- named one that those before it left
pub record AreLeft (group : List Bool) (lot : List ℕ) (i : ℕ) (left : List Bool) : Type 0 where
  pub kept : (l : ℕ) → get_or left l false ≡ true → get_or group l false ≡ true
  pub named : (l : ℕ) → get_or group l false ≡ true → (get_or left l false ≡ true) ⊎ ((k : ℕ) × (k < i) × (get_or lot k 0 ≡ l + 1))
  pub gone : (k : ℕ) → k < i → has_place left (get_or lot k 0) ≡ false
  pub no_other : (k : ℕ) → k < i → has_place group (get_or lot k 0) ≡ true
  pub once : (k j : ℕ) → k < j → j < i → get_or lot k 0 ≢ get_or lot j 0

pub all_left : (group : List Bool) (lot : List ℕ) → AreLeft group lot 0 group
all_left group lot = record {
  kept = λ _ t. t;
  named = λ _ t. inl t;
  gone = λ k lt. absurd (omega (arith, lt));
  no_other = λ k lt. absurd (omega (arith, lt));
  once = λ k j _ lt. absurd (omega (arith, lt));
}

struck : (left : List Bool) (x : ℕ) → get_or (set left x false) x false ≡ false
struck [] x = refl
struck (b ∷ bs) zero = refl
struck (b ∷ bs) (suc x) = struck bs x

-- the list of a place that is marked
marked_at : (marks : List Bool) (place : ℕ) → has_place marks place ≡ true → (x : ℕ) × (place ≡ suc x) × (get_or marks x false ≡ true)
marked_at marks zero t = absurd (false≢true t)
marked_at marks (suc x) t = (x, refl, t)

-- what is not marked is not marked by striking
stays : (left : List Bool) (x place : ℕ) → has_place left place ≡ false → has_place (set left x false) place ≡ false
stays left x zero h = refl
stays left x (suc y) h = by_cases (cases_eq y x)
  where
    by_cases : (y ≡ x) ⊎ (y ≡ x → ⊥) → get_or (set left x false) y false ≡ false
    by_cases (inl e) = ap (λ z. get_or (set left x false) z false) e ∙ struck left x
    by_cases (inr ne) = get_or-set_other left x y false false ne ∙ h

module _ (group : List Bool) (lot : List ℕ) (i : ℕ) (left : List Bool) (a : AreLeft group lot i left) where
  module _ (x : ℕ) (here : get_or lot i 0 ≡ suc x) (t : get_or left x false ≡ true) where
    abbrev after : List Bool
    after = set left x false

    kept_after : (l : ℕ) → get_or after l false ≡ true → get_or group l false ≡ true
    kept_after l h = by_cases (cases_eq l x)
      where
        by_cases : (l ≡ x) ⊎ (l ≡ x → ⊥) → get_or group l false ≡ true
        by_cases (inl e) = absurd (false≢true (sym (ap (λ z. get_or after z false) e ∙ struck left x) ∙ h))
        by_cases (inr ne) = a.kept l (sym (get_or-set_other left x l false false ne) ∙ h)

    named_after : (l : ℕ) → get_or group l false ≡ true → (get_or after l false ≡ true) ⊎ ((k : ℕ) × (k < i + 1) × (get_or lot k 0 ≡ l + 1))
    named_after l g = by_cases (cases_eq l x) (a.named l g)
      where
        by_cases : (l ≡ x) ⊎ (l ≡ x → ⊥) → (get_or left l false ≡ true) ⊎ ((k : ℕ) × (k < i) × (get_or lot k 0 ≡ l + 1)) → (get_or after l false ≡ true) ⊎ ((k : ℕ) × (k < i + 1) × (get_or lot k 0 ≡ l + 1))
        by_cases (inl e) _ = inr (i, omega arith, omega (arith, here, e))
        by_cases (inr ne) (inl left_too) = inl (get_or-set_other left x l false false ne ∙ left_too)
        by_cases (inr ne) (inr w) = inr (w.0, omega (arith, w.1), w.2)

    gone_after : (k : ℕ) → k < i + 1 → has_place after (get_or lot k 0) ≡ false
    gone_after k lt = by_cases (cases_lt k i)
      where
        by_cases : (k < i) ⊎ (i ≤ k) → has_place after (get_or lot k 0) ≡ false
        by_cases (inl before) = stays left x (get_or lot k 0) (a.gone k before)
        by_cases (inr ge) =
            let e : k ≡ i = omega (arith, lt, ge) in
            ap (λ j. has_place after (get_or lot j 0)) e ∙ ap (has_place after) here ∙ struck left x

    no_other_after : (k : ℕ) → k < i + 1 → has_place group (get_or lot k 0) ≡ true
    no_other_after k lt = by_cases (cases_lt k i)
      where
        by_cases : (k < i) ⊎ (i ≤ k) → has_place group (get_or lot k 0) ≡ true
        by_cases (inl before) = a.no_other k before
        by_cases (inr ge) =
            let e : k ≡ i = omega (arith, lt, ge) in
            ap (λ j. has_place group (get_or lot j 0)) e ∙ ap (has_place group) here ∙ a.kept x t

    once_after : (k j : ℕ) → k < j → j < i + 1 → get_or lot k 0 ≢ get_or lot j 0
    once_after k j lt few = by_cases (cases_lt j i)
      where
        by_cases : (j < i) ⊎ (i ≤ j) → get_or lot k 0 ≢ get_or lot j 0
        by_cases (inl before) same = a.once k j lt before same
        by_cases (inr ge) same =
            let e : j ≡ i = omega (arith, few, ge) in
            let there : get_or lot k 0 ≡ suc x = same ∙ ap (λ m. get_or lot m 0) e ∙ here in
            false≢true (sym (a.gone k (omega (arith, lt, e))) ∙ ap (has_place left) there ∙ t)

    less_one : AreLeft group lot (i + 1) after
    less_one = record { kept = kept_after; named = named_after; gone = gone_after; no_other = no_other_after; once = once_after }

  pub one_struck : (left' : List Bool) → has_place left (get_or lot i 0) ≡ true → left' ≡ set left (get_or lot i 0 - 1) false → AreLeft group lot (i + 1) left'
  one_struck left' h e =
      let m = marked_at left (get_or lot i 0) h in
      let less : get_or lot i 0 - 1 ≡ m.0 = omega (arith, m.1) in
      let e' : set left m.0 false ≡ left' = sym (e ∙ ap (λ x. set left x false) less) in
      subst (AreLeft group lot (i + 1)) e' (less_one m.0 m.1 m.2)

  pub no_order_then : i < length lot → has_place left (get_or lot i 0) ≡ false → ¬ IsOrderOf group lot
  no_order_then lt h o =
      let m = marked_at group (get_or lot i 0) (o.no_other i lt) in
      by_cases m.0 m.1 (a.named m.0 m.2)
    where
      by_cases : (x : ℕ) → get_or lot i 0 ≡ suc x → (get_or left x false ≡ true) ⊎ ((k : ℕ) × (k < i) × (get_or lot k 0 ≡ x + 1)) → ⊥
      by_cases x here (inl t) = false≢true (sym h ∙ ap (has_place left) here ∙ t)
      by_cases x here (inr w) = o.once w.0 i w.1 lt (omega (arith, here, w.2))

module _ (group : List Bool) (lot : List ℕ) (i : ℕ) (left : List Bool) (a : AreLeft group lot i left) (past : length lot ≤ i) where
  pub order_if_none_left : ((l : ℕ) → get_or left l false ≡ false) → IsOrderOf group lot
  order_if_none_left none = record { all = λ l g. each l (a.named l g); no_other = no_other; once = once }
    where
      inside : (l k : ℕ) → get_or lot k 0 ≡ l + 1 → (k < length lot) ⊎ (length lot ≤ k) → k < length lot
      inside l k e (inl lt) = lt
      inside l k e (inr ge) = absurd (omega (arith, e, get_or_past lot k 0 ge))

      each : (l : ℕ) → (get_or left l false ≡ true) ⊎ ((k : ℕ) × (k < i) × (get_or lot k 0 ≡ l + 1)) → (k : ℕ) × (k < length lot) × (get_or lot k 0 ≡ l + 1)
      each l (inl t) = absurd (false≢true (sym (none l) ∙ t))
      each l (inr w) = (w.0, inside l w.0 w.2 (cases_lt w.0 (length lot)), w.2)

      no_other : (k : ℕ) → k < length lot → has_place group (get_or lot k 0) ≡ true
      no_other k lt = a.no_other k (omega (arith, lt, past))

      once : (k j : ℕ) → k < j → j < length lot → get_or lot k 0 ≢ get_or lot j 0
      once k j lt few = a.once k j lt (omega (arith, few, past))

  pub none_left_of_order : IsOrderOf group lot → (l : ℕ) → get_or left l false ≡ false
  none_left_of_order o l = by_case (get_or left l false) refl
    where
      by_case : (b : Bool) → get_or left l false ≡ b → get_or left l false ≡ false
      by_case false e = e
      by_case true e =
          let w = o.all l (a.kept l e) in
          absurd (false≢true (sym (a.gone w.0 (omega (arith, w.1, past))) ∙ has_place-at left (get_or lot w.0 0) l w.2 ∙ e))
