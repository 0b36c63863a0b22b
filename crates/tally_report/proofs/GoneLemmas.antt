-- Those who are gone, list by list.
use Rattle.std.proofs.Common.{◌≡◌, ◌≢◌, ◌≤◌, ◌<◌, ◌⊎◌, ◌∙◌, ℕ, ◌+◌, ◌-◌, List, [], ◌∷◌, ◌++◌, Bool, true, false, length, map, get_or, refl, sym, ap, inl, inr, arith}
use Rattle.std.specs.Prelude.{◌==◌, if◌then◌else◌, replicate, slice_set, take}
use Rattle.std.specs.List.{filter}
use Rattle.std.proofs.lemmas.Bool.{eqb-true, eqb-false, false≢true}
use Rattle.std.proofs.lemmas.List.{append-nil, get_or-map, get_or-replicate, get_or-set_other, length-map, length-replicate, length-set, map-append, map-set, take_more}
use Rattle.std.proofs.lemmas.List.Elements.{filter-append}
use Rattle.std.proofs.lemmas.Grind.{get_or-set_at, replicate_next}
use Rattle.tally_returns.specs.GoneCandidate.{GoneCandidate}
use Rattle.tally_report.specs.internal.GoneByList.{AreByList, IsOneMore, places_of_list}

-- of nobody there are none
pub none_gone : (all : List GoneCandidate) (n : ℕ) (places : List (List ℕ)) → places ≡ replicate n [] → AreByList (take 0 all) n places
none_gone all n places is =
    let none : AreByList [] n (replicate n []) = record { count = length-replicate n []; each = λ l lt. get_or-replicate n l [] [] lt } in
    rw is none

-- those of a list are found at its place
pub gone_at : (gone : List GoneCandidate) (n l : ℕ) (places : List (List ℕ)) → AreByList gone n places → l < n → get_or places l [] ≡ places_of_list gone (l + 1)
gone_at gone n l places are lt = are.each l lt

of-one : (g : GoneCandidate) (b : Bool) → map (λ (x : GoneCandidate). x.place) (if b then g ∷ [] else []) ≡ (if b then g.place ∷ [] else [])
of-one g true = refl
of-one g false = refl

places-more : (gone : List GoneCandidate) (g : GoneCandidate) (list : ℕ) → places_of_list (gone ++ g ∷ []) list ≡ places_of_list gone list ++ (if g.list == list then g.place ∷ [] else [])
places-more gone g list =
    let keeps : GoneCandidate → Bool = λ x. x.list == list in
    let place : GoneCandidate → ℕ = λ x. x.place in
    ap (map place) (filter-append keeps gone (g ∷ []))
    ∙ map-append place (filter keeps gone) (filter keeps (g ∷ []))
    ∙ ap (λ ps. places_of_list gone list ++ ps) (of-one g (g.list == list))

one-more : (gone : List GoneCandidate) (g : GoneCandidate) (n : ℕ) (old new : List (List ℕ)) → AreByList gone n old → IsOneMore g.list g.place old new → AreByList (gone ++ g ∷ []) n new
one-more gone g n old new are more = record {
  count = more.count ∙ are.count;
  each = λ l lt.
      more.each l (omega (arith, lt, are.count))
      ∙ ap (λ ps. ps ++ (if g.list == l + 1 then g.place ∷ [] else [])) (are.each l lt)
      ∙ sym (places-more gone g (l + 1));
}

-- and of one more
pub one_more_gone : (all items : List GoneCandidate) (i : ℕ) (g : GoneCandidate) (n : ℕ) (old new : List (List ℕ)) → items ≡ all → g ≡ get_or items i g → i < length items
    → AreByList (take i all) n old → IsOneMore g.list g.place old new → AreByList (take (i + 1) all) n new
one_more_gone all items i g n old new same is lt are more =
    let found : g ≡ get_or all i g = rw same at is in
    let inside : i < length all = rw same at lt in
    let longer : take (i + 1) all ≡ take i all ++ g ∷ [] = take_more all i g inside ∙ ap (λ x. take i all ++ x ∷ []) (sym found) in
    rw longer (one-more (take i all) g n old new are more)

unlike : (a b : ℕ) (same : Bool) → (a == b) ≡ same → a ≢ b → same ≡ false
unlike a b true is differ = absurd (differ (eqb-true a b is))
unlike a b false is differ = refl

kept : (ps : List ℕ) (place : ℕ) (same : Bool) → same ≡ false → ps ≡ ps ++ (if same then place ∷ [] else [])
kept ps place true e = absurd (false≢true (sym e))
kept ps place false e = sym (append-nil ps)

-- a list that is none of these has no place here
pub not_listed : (list place : ℕ) (old : List (List ℕ)) → (list ≡ 0) ⊎ (length old < list) → IsOneMore list place old old
not_listed list place old out = record {
  count = refl;
  each = λ l lt. kept (get_or old l []) place (list == l + 1) (unlike list (l + 1) (list == l + 1) refl (λ e. apart l lt e out));
}
  where
    apart : (l : ℕ) → l < length old → list ≡ l + 1 → (list ≡ 0) ⊎ (length old < list) → ⊥
    apart l lt e (inl none) = absurd (omega (arith, e, none))
    apart l lt e (inr past) = absurd (omega (arith, e, past, lt))

-- a place goes after those of its list
pub listed_at : (list place : ℕ) (old : List (List ℕ)) → 1 ≤ list → list ≤ length old → IsOneMore list place old (slice_set old (list - 1) (get_or old (list - 1) [] ++ place ∷ []))
listed_at list place old some few = record {
  count = length-set old (list - 1) (get_or old (list - 1) [] ++ place ∷ []);
  each = λ l lt. by_case l lt (list == l + 1) refl;
}
  where
    other : (l : ℕ) → (list == l + 1) ≡ false → list ≡ l + 1 → ⊥
    other l is e = eqb-false list (l + 1) is e

    by_case : (l : ℕ) → l < length old → (same : Bool) → (list == l + 1) ≡ same
        → get_or (slice_set old (list - 1) (get_or old (list - 1) [] ++ place ∷ [])) l [] ≡ get_or old l [] ++ (if same then place ∷ [] else [])
    by_case l lt true is =
        let at : l ≡ list - 1 = omega (arith, eqb-true list (l + 1) is) in
        get_or-set_at old (list - 1) l (get_or old (list - 1) [] ++ place ∷ []) [] at (omega (arith, some, few))
        ∙ ap (λ i. get_or old i [] ++ place ∷ []) (sym at)
    by_case l lt false is =
        get_or-set_other old (list - 1) l (get_or old (list - 1) [] ++ place ∷ []) [] (λ e. other l is (omega (arith, e, some)))
        ∙ sym (append-nil (get_or old l []))

-- the same of what is made of the places of each list
pub listed_in : {V : Type 0} (f : V → List ℕ) (list place i : ℕ) (vs new : List V) (v d : V) → 1 ≤ list → list ≤ length vs → i ≡ list - 1 → new ≡ slice_set vs i v → f v ≡ f (get_or vs i d) ++ place ∷ [] → IsOneMore list place (map f vs) (map f new)
listed_in f list place i vs new v d some few at set_is one =
    let long : list ≤ length (map f vs) = omega (arith, few, length-map vs f) in
    let inside : i < length vs = omega (arith, at, some, few) in
    let value : f v ≡ get_or (map f vs) (list - 1) [] ++ place ∷ [] = one ∙ ap (λ p. p ++ place ∷ []) (sym (get_or-map f vs i d [] inside) ∙ ap (λ j. get_or (map f vs) j []) at) in
    let is : map f new ≡ slice_set (map f vs) (list - 1) (get_or (map f vs) (list - 1) [] ++ place ∷ []) = ap (map f) set_is ∙ map-set f vs i v ∙ ap (λ j. slice_set (map f vs) j (f v)) at ∙ ap (slice_set (map f vs) (list - 1)) value in
    rw is (listed_at list place (map f vs) some long)

-- one list more of which nobody is gone
pub one_more_none : {V : Type 0} (f : V → List ℕ) (vs new : List V) (v : V) (n : ℕ) → new ≡ vs ++ v ∷ [] → map f vs ≡ replicate n [] → f v ≡ [] → map f new ≡ replicate (n + 1) []
one_more_none f vs new v n is before none =
    ap (map f) is
    ∙ map-append f vs (v ∷ [])
    ∙ ap (λ ps. ps ++ f v ∷ []) before
    ∙ ap (λ p. replicate n [] ++ p ∷ []) none
    ∙ sym (replicate_next n [])
