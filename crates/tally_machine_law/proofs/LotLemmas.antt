-- The order of a lot, as a test and as a fact, and the places of the lists that an order names.
use Rattle.std.proofs.Common.{◌≡◌, ◌≢◌, ◌<◌, ◌↔◌, ◌∙◌, ℕ, zero, suc, ◌+◌, List, [], ◌∷◌, ◌++◌, Bool, true, false, ◌&&◌, ◌||◌, Option, Some, None, length, get_or, refl, sym, ap, arith}
use Rattle.std.specs.Prelude.{nat_eq, not}
use Rattle.std.specs.List.{list_all, list_any}
use Rattle.std.proofs.lemmas.Bool.{false≢true, true≢false, eqb-true, eqb-false, eq-eqb, ne_eqb, and_parts, and_from, not-true, false_from_ne_true}
use Rattle.std.proofs.lemmas.List.Recursion.{and_at, and_from_places}
use Rattle.tally_setup.specs.Constituency.{Constituency}
use Rattle.tally_frac.specs.ListSet.{has_place}
use Rattle.tally_law.specs.Lot.{IsOrderOf}
use Rattle.tally_machine_law.specs.Certification.{are_distinct, list_place, list_places, marked_places_from, names_group, with_place}
use Rattle.tally_machine_law.specs.Holders.{is_among}

-- ---- what is among places

-- where a place is, by the test of the first place and what follows it
among-by : (place x : ℕ) (xs : List ℕ) (b : Bool) → nat_eq place x ≡ b → (list_any (nat_eq place) xs ≡ true → (i : ℕ) × (i < length xs) × (get_or xs i 0 ≡ place))
    → (b || list_any (nat_eq place) xs) ≡ true → (i : ℕ) × (i < length (x ∷ xs)) × (get_or (x ∷ xs) i 0 ≡ place)
among-by place x xs true t rest e = (0, omega arith, sym (eqb-true place x t))
among-by place x xs false t rest e = let r = rest e in (suc r.0, omega (arith, r.1), r.2)

pub among-at : (place : ℕ) (places : List ℕ) → is_among place places ≡ true → (i : ℕ) × (i < length places) × (get_or places i 0 ≡ place)
among-at place [] e = absurd (false≢true e)
among-at place (x ∷ xs) e = among-by place x xs (nat_eq place x) refl (among-at place xs) e

or-second : (a b : Bool) → b ≡ true → (a || b) ≡ true
or-second true b e = refl
or-second false b e = e

pub among-from : (place : ℕ) (places : List ℕ) (i : ℕ) → i < length places → get_or places i 0 ≡ place → is_among place places ≡ true
among-from place [] i lt e = absurd (omega arith)
among-from place (x ∷ xs) zero lt e = ap (λ b. b || list_any (nat_eq place) xs) (eq-eqb place x (sym e))
among-from place (x ∷ xs) (suc i) lt e = or-second (nat_eq place x) (list_any (nat_eq place) xs) (among-from place xs i (omega arith) e)

-- ---- all that are marked

pub all_marked-at : (q : ℕ → Bool) (marks : List Bool) (p l : ℕ) → list_all q (marked_places_from p marks) ≡ true → get_or marks l false ≡ true → q (p + l) ≡ true
all_marked-at q [] p l e marked = absurd (false≢true marked)
all_marked-at q (true ∷ marks) p zero e marked = ap q (let s : p + 0 ≡ p = omega arith in s) ∙ (and_parts (q p) (list_all q (marked_places_from (p + 1) marks)) e).0
all_marked-at q (false ∷ marks) p zero e marked = absurd (false≢true marked)
all_marked-at q (true ∷ marks) p (suc l) e marked =
    ap q (let s : p + suc l ≡ p + 1 + l = omega arith in s) ∙ all_marked-at q marks (p + 1) l (and_parts (q p) (list_all q (marked_places_from (p + 1) marks)) e).1 marked
all_marked-at q (false ∷ marks) p (suc l) e marked =
    ap q (let s : p + suc l ≡ p + 1 + l = omega arith in s) ∙ all_marked-at q marks (p + 1) l e marked

pub all_marked-from : (q : ℕ → Bool) (marks : List Bool) (p : ℕ) → ((l : ℕ) → get_or marks l false ≡ true → q (p + l) ≡ true) → list_all q (marked_places_from p marks) ≡ true
all_marked-from q [] p each = refl
all_marked-from q (true ∷ marks) p each =
    and_from (q p) (list_all q (marked_places_from (p + 1) marks)) (ap q (let s : p ≡ p + 0 = omega arith in s) ∙ each 0 refl)
    (all_marked-from q marks (p + 1) (λ l marked. ap q (let s : p + 1 + l ≡ p + suc l = omega arith in s) ∙ each (suc l) marked))
all_marked-from q (false ∷ marks) p each =
    all_marked-from q marks (p + 1) (λ l marked. ap q (let s : p + 1 + l ≡ p + suc l = omega arith in s) ∙ each (suc l) marked)

-- one that is marked does not pass
pub all_marked-fails : (q : ℕ → Bool) (marks : List Bool) (p l : ℕ) → get_or marks l false ≡ true → q (p + l) ≡ false → false ≡ list_all q (marked_places_from p marks)
all_marked-fails q marks p l marked fails =
    sym (false_from_ne_true (list_all q (marked_places_from p marks)) (λ e. true≢false (sym (all_marked-at q marks p l e marked) ∙ fails)))

-- ---- the order of a group

-- places that differ, from their test
pub distinct-at : (places : List ℕ) → are_distinct places ≡ true → (i j : ℕ) → i < j → j < length places → get_or places i 0 ≢ get_or places j 0
distinct-at [] e i j lt within = absurd (omega arith)
distinct-at (x ∷ xs) e i zero lt within = absurd (omega arith)
distinct-at (x ∷ xs) e zero (suc j) lt within =
    λ same. true≢false (sym (among-from x xs j (omega arith) (sym same)) ∙ not-true (is_among x xs) (and_parts (not (is_among x xs)) (are_distinct xs) e).0)
distinct-at (x ∷ xs) e (suc i) (suc j) lt within = distinct-at xs (and_parts (not (is_among x xs)) (are_distinct xs) e).1 i j (omega arith) (omega arith)

pub distinct-from : (places : List ℕ) → ((i j : ℕ) → i < j → j < length places → get_or places i 0 ≢ get_or places j 0) → are_distinct places ≡ true
distinct-from [] apart = refl
distinct-from (x ∷ xs) apart =
    let fresh : is_among x xs ≡ false =
    false_from_ne_true (is_among x xs) (λ e. let at = among-at x xs e in apart 0 (suc at.0) (omega arith) (omega (arith, at.1)) (sym at.2)) in
    and_from (not (is_among x xs)) (are_distinct xs) (ap not fresh) (distinct-from xs (λ i j lt within. apart (suc i) (suc j) (omega arith) (omega arith)))

-- an order that passes the test names each list of the group once and no other
pub order-from : (group : List Bool) (places : List ℕ) → names_group group places ≡ true → IsOrderOf group places
order-from group places e =
    let all_in = list_all (has_place group) places in
    let differ = are_distinct places in
    let all_named = list_all (λ place. is_among place places) (marked_places_from 1 group) in
    let first : (all_in && differ) ≡ true = (and_parts (all_in && differ) all_named e).0 in
    let named : all_named ≡ true = (and_parts (all_in && differ) all_named e).1 in
    let within : all_in ≡ true = (and_parts all_in differ first).0 in
    let apart : differ ≡ true = (and_parts all_in differ first).1 in record {
      all = λ l marked. among-at (l + 1) places (ap (λ p. is_among p places) (let s : l + 1 ≡ 1 + l = omega arith in s) ∙ all_marked-at (λ place. is_among place places) group 1 l named marked);
      no_other = λ i lt. and_at (list_all (has_place group)) (has_place group) refl (λ _ _. refl) places i 0 lt within;
      once = distinct-at places apart;
    }

pub order-to : (group : List Bool) (places : List ℕ) → IsOrderOf group places → names_group group places ≡ true
order-to group places order =
    let all_in = list_all (has_place group) places in
    let differ = are_distinct places in
    let all_named = list_all (λ place. is_among place places) (marked_places_from 1 group) in
    let within : all_in ≡ true = and_from_places (list_all (has_place group)) (has_place group) refl (λ _ _. refl) places 0 order.no_other in
    let apart : differ ≡ true = distinct-from places order.once in
    let named : all_named ≡ true =
    all_marked-from (λ place. is_among place places) group 1
    (λ l marked. let at = order.all l marked in among-from (1 + l) places at.0 at.1 (at.2 ∙ (let s : l + 1 ≡ 1 + l = omega arith in s))) in
    and_from (all_in && differ) all_named (and_from all_in differ within apart) named

-- the test and the fact are one
pub names_group-is : (group : List Bool) (places : List ℕ) → (names_group group places ≡ true) ↔ IsOrderOf group places
names_group-is group places = (order-from group places, order-to group places)

-- an order of a group is one of any group of the same lists
pub order-same : (group other : List Bool) (places : List ℕ) → ((l : ℕ) → get_or group l false ≡ true → get_or other l false ≡ true) → ((l : ℕ) → get_or other l false ≡ true → get_or group l false ≡ true)
    → IsOrderOf group places → IsOrderOf other places
order-same group other places to from order = record {
  all = λ l marked. order.all l (from l marked);
  no_other = λ i lt. place-same (get_or places i 0) (order.no_other i lt);
  once = order.once;
}
  where
    place-same : (place : ℕ) → has_place group place ≡ true → has_place other place ≡ true
    place-same zero e = e
    place-same (suc l) e = to l e

-- ---- the places of the lists that an order names

-- one code more
pub list_places-more : (con : Constituency) (order : List (List ℕ)) (code : List ℕ) (places : List ℕ) (place : ℕ)
    → list_places con order ≡ Some places → list_place con code ≡ Some place → list_places con (order ++ code ∷ []) ≡ Some (places ++ place ∷ [])
list_places-more con [] code places place so_far here =
    let none : [] ≡ places = cc in
    ap (λ o. with_place o (Some [])) here ∙ ap (λ ps. Some (ps ++ place ∷ [])) none
list_places-more con (first ∷ order) code places place so_far here =
    by_cases (list_place con first) (list_places con order) so_far (λ rest is. list_places-more con order code rest place is here)
  where
    by_cases : (o : Option ℕ) (r : Option (List ℕ)) → with_place o r ≡ Some places
        → ((rest : List ℕ) → r ≡ Some rest → list_places con (order ++ code ∷ []) ≡ Some (rest ++ place ∷ []))
        → with_place o (list_places con (order ++ code ∷ [])) ≡ Some (places ++ place ∷ [])
    by_cases None r e more = cc
    by_cases (Some p) None e more = cc
    by_cases (Some p) (Some rest) e more =
        let whole : p ∷ rest ≡ places = cc in
        ap (with_place (Some p)) (more rest refl) ∙ ap (λ ps. Some (ps ++ place ∷ [])) whole

with_place-none : (o : Option ℕ) → with_place o None ≡ None
with_place-none None = refl
with_place-none (Some p) = refl

-- a code of no list
pub list_places-none : (con : Constituency) (order rest : List (List ℕ)) (code : List ℕ) → list_place con code ≡ None → list_places con (order ++ code ∷ rest) ≡ None
list_places-none con [] rest code here = ap (λ o. with_place o (list_places con rest)) here
list_places-none con (first ∷ order) rest code here =
    ap (with_place (list_place con first)) (list_places-none con order rest code here) ∙ with_place-none (list_place con first)

eqb-turned : (a b : ℕ) → nat_eq a b ≡ nat_eq b a
eqb-turned a b = by_cases (nat_eq a b) refl
  where
    by_cases : (t : Bool) → nat_eq a b ≡ t → nat_eq a b ≡ nat_eq b a
    by_cases true t = t ∙ sym (eq-eqb b a (sym (eqb-true a b t)))
    by_cases false t = t ∙ sym (ne_eqb b a (λ e. eqb-false a b t (sym e)))

-- the test of a list for a place, whichever side of it is named first
pub among-turned : (place : ℕ) (places : List ℕ) → list_any (λ y. nat_eq y place) places ≡ is_among place places
among-turned place [] = refl
among-turned place (x ∷ xs) = ap (λ b. b || list_any (λ y. nat_eq y place) xs) (eqb-turned x place) ∙ ap (λ b. nat_eq place x || b) (among-turned place xs)
