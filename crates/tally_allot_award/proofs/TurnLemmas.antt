-- Under a proper lot the places for a seat are in the order in which lists come first.
use Rattle.std.proofs.Common.{◌≡◌, ℕ, ◌+◌, ◌-◌, ◌%◌, ◌<◌, ◌≤◌, ◌≢◌, ◌⊎◌, ◌&&◌, ◌||◌, List, [], ◌∷◌, length, true, false, cond, eqb, refl, sym, ap, ◌∙◌, inl, inr, arith}
use Rattle.std.proofs.lemmas.Bool.{cases_Bool, false≢true, eqb-true, eq-eqb}
use Rattle.tally_setup.specs.declared.profile.LotRule.{LotRule}
use Rattle.tally_setup.specs.declared.profile.LotRule.TheVariants.{Fixed, Alternating}
use Rattle.tally_law.specs.Lot.{place_in_lot, place_of, is_named, IsTurned, ComesFirst}
use Rattle.tally_allot_award.specs.internal.Pairs.{last_place, place_at}
use Rattle.tally_law.specs.Poll.{Poll, IsEligible, votes_of}
use Rattle.tally_allot_award.specs.internal.Premises.{IsProperLot}

-- the place of a list that the lot names is one of the lot
named_from : (n : ℕ) (lot : List ℕ) (l : ℕ) → is_named lot l ≡ true → place_in_lot n lot l < n + length lot
named_from n [] l e = absurd (false≢true e)
named_from n (p ∷ rest) l e = by_test (cases_Bool (eqb p (l + 1))) (named_from (n + 1) rest l)
  where
    by_test : (eqb p (l + 1) ≡ true) ⊎ (eqb p (l + 1) ≡ false) → (is_named rest l ≡ true → place_in_lot (n + 1) rest l < n + 1 + length rest) → place_in_lot n (p ∷ rest) l < n + length (p ∷ rest)
    by_test (inl here) further =
        let place : place_in_lot n (p ∷ rest) l ≡ n = ap (λ b. cond b n (place_in_lot (n + 1) rest l)) here in
        omega (arith, place)
    by_test (inr there) further =
        let place : place_in_lot n (p ∷ rest) l ≡ place_in_lot (n + 1) rest l = ap (λ b. cond b n (place_in_lot (n + 1) rest l)) there in
        omega (arith, place, further (sym (ap (λ b. b || is_named rest l) there) ∙ e))

within_lot : (lot : List ℕ) (l : ℕ) → is_named lot l ≡ true → place_of lot l ≤ length lot
within_lot lot l e = omega (arith, named_from 1 lot l e)

-- what is turned round is named
turned_named : (lot_rule : LotRule) (lot : List ℕ) (l m k : ℕ) → IsTurned lot_rule lot l m k → (is_named lot l ≡ true) × (is_named lot m ≡ true)
turned_named Fixed lot l m k t = absurd t
turned_named Alternating lot l m k t = (t.0, t.1)

-- the order is turned round and so are both places, or neither is
data Turn (lot_rule : LotRule) (lot : List ℕ) (l m k : ℕ) : Type 0 where
  round : IsTurned lot_rule lot l m k → place_at lot_rule lot l k ≡ last_place lot + 1 - place_of lot l → place_at lot_rule lot m k ≡ last_place lot + 1 - place_of lot m → Turn lot_rule lot l m k
  straight : ¬ IsTurned lot_rule lot l m k → place_at lot_rule lot l k ≡ place_of lot l → place_at lot_rule lot m k ≡ place_of lot m → Turn lot_rule lot l m k

turn_of : (lot_rule : LotRule) (lot : List ℕ) (l m k : ℕ) → is_named lot l ≡ is_named lot m → Turn lot_rule lot l m k
turn_of Fixed lot l m k same = straight (λ t. t) refl refl
turn_of Alternating lot l m k same = by_cases (cases_Bool (is_named lot l)) (cases_Bool (eqb (k % 2) 0))
  where
    even : eqb (k % 2) 0 ≡ false → k % 2 ≡ 0 → ⊥
    even odd e = false≢true (sym odd ∙ eq-eqb (k % 2) 0 e)

    by_cases : (is_named lot l ≡ true) ⊎ (is_named lot l ≡ false) → (eqb (k % 2) 0 ≡ true) ⊎ (eqb (k % 2) 0 ≡ false) → Turn Alternating lot l m k
    by_cases (inl named) (inl e) =
        let other : is_named lot m ≡ true = sym same ∙ named in
        round (named, other, eqb-true (k % 2) 0 e) (λ i. cond (named i && e i) (last_place lot + 1 - place_of lot l) (place_of lot l)) (λ i. cond (other i && e i) (last_place lot + 1 - place_of lot m) (place_of lot m))
    by_cases (inl named) (inr odd) =
        let other : is_named lot m ≡ true = sym same ∙ named in
        straight (λ t. even odd t.2) (λ i. cond (named i && odd i) (last_place lot + 1 - place_of lot l) (place_of lot l)) (λ i. cond (other i && odd i) (last_place lot + 1 - place_of lot m) (place_of lot m))
    by_cases (inr not) _ =
        let other : is_named lot m ≡ false = sym same ∙ not in
        straight (λ t. false≢true (sym not ∙ t.0)) (λ i. cond (not i && eqb (k % 2) 0) (last_place lot + 1 - place_of lot l) (place_of lot l)) (λ i. cond (other i && eqb (k % 2) 0) (last_place lot + 1 - place_of lot m) (place_of lot m))

module _ (lot_rule : LotRule) (poll : Poll) (lot : List ℕ) (proper : IsProperLot poll lot) (l m : ℕ) (el : IsEligible poll l) (em : IsEligible poll m) (same : votes_of poll l ≡ votes_of poll m) (k : ℕ) where
  turn : Turn lot_rule lot l m k
  turn = turn_of lot_rule lot l m k (proper.together l m el em same)

  pub places_apart : l ≢ m → place_at lot_rule lot l k ≢ place_at lot_rule lot m k
  places_apart ne e = by_turn turn
    where
      by_turn : Turn lot_rule lot l m k → ⊥
      by_turn (round t pl pm) = proper.apart l m el em ne same (omega (arith, pl, pm, e, within_lot lot l (turned_named lot_rule lot l m k t).0, within_lot lot m (turned_named lot_rule lot l m k t).1))
      by_turn (straight t pl pm) = proper.apart l m el em ne same (omega (arith, pl, pm, e))

  pub first_if_lower : place_at lot_rule lot l k < place_at lot_rule lot m k → ComesFirst lot_rule lot l m k
  first_if_lower lower = by_turn turn
    where
      by_turn : Turn lot_rule lot l m k → ComesFirst lot_rule lot l m k
      by_turn (round t pl pm) = inr (t, omega (arith, pl, pm, lower, within_lot lot l (turned_named lot_rule lot l m k t).0, within_lot lot m (turned_named lot_rule lot l m k t).1))
      by_turn (straight t pl pm) = inl (t, omega (arith, pl, pm, lower))

  pub lower_if_first : ComesFirst lot_rule lot l m k → place_at lot_rule lot l k < place_at lot_rule lot m k
  lower_if_first first = by_turn turn first
    where
      by_turn : Turn lot_rule lot l m k → ComesFirst lot_rule lot l m k → place_at lot_rule lot l k < place_at lot_rule lot m k
      by_turn (round t pl pm) (inl c) = absurd (c.0 t)
      by_turn (round t pl pm) (inr c) = omega (arith, pl, pm, c.1, within_lot lot l (turned_named lot_rule lot l m k t).0, within_lot lot m (turned_named lot_rule lot l m k t).1)
      by_turn (straight t pl pm) (inl c) = omega (arith, pl, pm, c.1)
      by_turn (straight t pl pm) (inr c) = absurd (t c.0)

-- of two lists one comes first at most, whatever the lot
turned_both_ways : (lot_rule : LotRule) (lot : List ℕ) (l m k : ℕ) → IsTurned lot_rule lot l m k → IsTurned lot_rule lot m l k
turned_both_ways Fixed lot l m k t = t
turned_both_ways Alternating lot l m k t = (t.1, t.0, t.2)

pub first_one_way : (lot_rule : LotRule) (lot : List ℕ) (l m k : ℕ) → ComesFirst lot_rule lot l m k → ComesFirst lot_rule lot m l k → ⊥
first_one_way lot_rule lot l m k (inl a) (inl b) = omega (arith, a.1, b.1)
first_one_way lot_rule lot l m k (inl a) (inr b) = a.0 (turned_both_ways lot_rule lot m l k b.0)
first_one_way lot_rule lot l m k (inr a) (inl b) = b.0 (turned_both_ways lot_rule lot l m k a.0)
first_one_way lot_rule lot l m k (inr a) (inr b) = omega (arith, a.1, b.1)
