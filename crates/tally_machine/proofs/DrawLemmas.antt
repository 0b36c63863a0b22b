-- An order longer than the lists does not name each list of a group once.
use Rattle.std.proofs.Common.{◌≡◌, ◌<◌, ◌≤◌, ◌⊎◌, ◌∙◌, ℕ, zero, suc, List, [], ◌∷◌, Bool, true, false, Option, Some, None, MatchOption, Ok, Err, cond, length, get_or, refl, sym, ap, inl, inr, arith}
use Rattle.std.proofs.lemmas.Bool.{cases_lt, false≢true, false_from_ne_true}
use Rattle.tally_setup.specs.Constituency.{Constituency}
use Rattle.tally_frac.specs.ListSet.{has_place}
use Rattle.tally_returns.specs.declared.refusal.Refusal.TheVariants.{LotWrongGroup}
use Rattle.tally_machine_law.specs.Certification.{drawn_places, list_place, list_places, names_group, with_place}
use Rattle.tally_machine_law.proofs.LotLemmas.{order-from}
use Rattle.tally_allot.proofs.KeyLemmas.{few_distinct}

-- the places of a group are no more than the lists
module _ (lists : ℕ) (group : List Bool) (within : (l : ℕ) → lists ≤ l → get_or group l false ≡ false) where
  listed : (place : ℕ) → has_place group place ≡ true → (1 ≤ place) × (place ≤ lists)
  listed zero e = absurd (false≢true e)
  listed (suc l) e = by_cases (cases_lt l lists)
    where
      by_cases : (l < lists) ⊎ (lists ≤ l) → (1 ≤ suc l) × (suc l ≤ lists)
      by_cases (inl lt) = (omega arith, omega (arith, lt))
      by_cases (inr ge) = absurd (false≢true (sym (within l ge) ∙ e))

  few_places : (places : List ℕ) → names_group group places ≡ true → length places ≤ lists
  few_places places named =
      let order = order-from group places named in
      few_distinct lists places (λ i lt. listed (get_or places i 0) (order.no_other i lt)) order.once

-- an order names as many lists as it has codes
as_many : (con : Constituency) (order : List (List ℕ)) → MatchOption (list_places con order) (Unit {0}) (λ places. length places ≡ length order)
as_many con [] = refl
as_many con (code ∷ order) = one_more (list_place con code) (list_places con order) (as_many con order)
  where
    one_more : (place : Option ℕ) (rest : Option (List ℕ)) → MatchOption rest (Unit {0}) (λ places. length places ≡ length order) → MatchOption (with_place place rest) (Unit {0}) (λ places. length places ≡ length (code ∷ order))
    one_more (Some place) (Some places) e = ap suc e
    one_more (Some place) None e = tt
    one_more None rest e = tt

pub too_long : (con : Constituency) (order : List (List ℕ)) (group : List Bool) → ((l : ℕ) → length con.lists ≤ l → get_or group l false ≡ false) → length con.lists < length order → drawn_places group (list_places con order) ≡ Err (LotWrongGroup group)
too_long con order group within long = by_places (list_places con order) (as_many con order)
  where
    by_places : (found : Option (List ℕ)) → MatchOption found (Unit {0}) (λ places. length places ≡ length order) → drawn_places group found ≡ Err (LotWrongGroup group)
    by_places None e = refl
    by_places (Some places) e =
        let no : names_group group places ≡ false = false_from_ne_true (names_group group places) (λ named. omega (arith, few_places (length con.lists) group within places named, e, long)) in
        ap (λ (b : Bool). cond b (Ok places) (Err (LotWrongGroup group))) no
