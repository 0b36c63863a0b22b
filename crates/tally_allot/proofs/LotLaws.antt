-- What holds of lots: places, groups, and which lot is to be taken.
use Rattle.std.proofs.Common.{◌≡◌, ℕ, zero, suc, ◌+◌, ◌<◌, ◌≢◌, ◌⊎◌, List, [], ◌∷◌, Bool, true, false, cond, eqb, length, get_or, refl, sym, ap, ◌∙◌, subst, inl, inr, arith}
use Rattle.std.proofs.lemmas.Bool.{cases_Bool, eqb-true, eqb-false, eq-eqb}
use Rattle.std.proofs.lemmas.List.{get_or_default}
use Rattle.std.proofs.lemmas.List.Folds.{Any-from_list_any, list_any_at}
use Rattle.std.specs.Cmp.{both_ways}
use Rattle.tally_law.specs.Poll.{Poll, IsEligible, votes_of}
use Rattle.tally_frac.specs.ListSet.{has_place}
use Rattle.tally_law.specs.Lot.{place_in_lot, place_of, is_named, IsOrderOf}
use Rattle.tally_law.specs.Allotment.{IsAllotmentByVotes}
use Rattle.tally_law.specs.LotNeed.{IsLotNeeded, IsDecidedByVotes, IsNeed, IsLotTaken, IsLotWrong}
use Rattle.tally_allot_award.specs.internal.Race.{IsFair, IsTie}
use Rattle.tally_allot_award.specs.internal.Terms.{Terms, ArePlacedApart, IsProperLot, vote_race}
use Rattle.tally_allot_award.proofs.Vectors.{equal_or_apart}
use Rattle.tally_allot_award.proofs.Ties.{IsMoved, loses, gains, moved, tie_alike, class_differs}
use Rattle.tally_allot_award.proofs.TermsRace.{AreRaces}

-- a list is named in the lot and has that place, or is not named and has the setup's
pub data IsPlaced (n : ℕ) (lot : List ℕ) (l : ℕ) : Type 0 where
  at_name : (i : ℕ) → i < length lot → get_or lot i 0 ≡ l + 1 → place_in_lot n lot l ≡ n + i → IsPlaced n lot l
  at_setup : ((i : ℕ) → i < length lot → get_or lot i 0 ≢ l + 1) → place_in_lot n lot l ≡ l + 1 → IsPlaced n lot l

pub placed_at : (n : ℕ) (lot : List ℕ) (l : ℕ) → IsPlaced n lot l
placed_at n [] l = at_setup (λ i lt. absurd (omega arith)) refl
placed_at n (p ∷ rest) l = by_test (cases_Bool (eqb p (l + 1))) (placed_at (n + 1) rest l)
  where
    here : eqb p (l + 1) ≡ true → place_in_lot n (p ∷ rest) l ≡ n + 0
    here e = ap (λ b. cond b n (place_in_lot (n + 1) rest l)) e ∙ omega arith

    there : eqb p (l + 1) ≡ false → place_in_lot n (p ∷ rest) l ≡ place_in_lot (n + 1) rest l
    there e = ap (λ b. cond b n (place_in_lot (n + 1) rest l)) e

    by_test : (eqb p (l + 1) ≡ true) ⊎ (eqb p (l + 1) ≡ false) → IsPlaced (n + 1) rest l → IsPlaced n (p ∷ rest) l
    by_test (inl e) _ = at_name 0 (omega arith) (eqb-true p (l + 1) e) (here e)
    by_test (inr e) (at_name i lt at place) = at_name (suc i) (omega arith) at (there e ∙ place ∙ omega arith)
    by_test (inr e) (at_setup none place) = at_setup (elim [ zero ↦ (λ lt q. eqb-false p (l + 1) e q) | suc i ↦ (λ lt q. none i (omega arith) q) ]) (there e ∙ place)

-- with no lot, places are the setup's
pub setup_apart : (l m : ℕ) → l ≢ m → place_of [] l ≢ place_of [] m
setup_apart l m ne e = ne (omega (arith, e))

has_place-marked : (group : List Bool) (place l : ℕ) → place ≡ l + 1 → has_place group place ≡ true → get_or group l false ≡ true
has_place-marked group place l e h =
    let e' : place ≡ suc l = omega arith in
    sym (ap (has_place group) e') ∙ h

-- An order of a group gives different places to lists that are both in
-- the group or both outside it.
pub order_apart : (group : List Bool) (lot : List ℕ) → IsOrderOf group lot → (l m : ℕ) → l ≢ m → (get_or group l false ≡ true → get_or group m false ≡ true) → (get_or group m false ≡ true → get_or group l false ≡ true) → place_of lot l ≢ place_of lot m
order_apart group lot o l m ne there back = by_cases (placed_at 1 lot l) (placed_at 1 lot m)
  where
    marked : (x i : ℕ) → i < length lot → get_or lot i 0 ≡ x + 1 → get_or group x false ≡ true
    marked x i lt at = has_place-marked group (get_or lot i 0) x at (o.no_other i lt)

    by_cases : IsPlaced 1 lot l → IsPlaced 1 lot m → place_of lot l ≢ place_of lot m
    by_cases (at_name i li ai pi) (at_name j lj aj pj) e =
        let same : i ≡ j = omega arith in
        let q : get_or lot i 0 ≡ get_or lot j 0 = ap (λ k. get_or lot k 0) same in
        ne (omega arith)
    by_cases (at_setup ni pi) (at_setup nj pj) e = ne (omega arith)
    by_cases (at_name i li ai pi) (at_setup nj pj) e = let w = o.all m (there (marked l i li ai)) in nj w.0 w.1 w.2
    by_cases (at_setup ni pi) (at_name j lj aj pj) e = let w = o.all l (back (marked m j lj aj)) in ni w.0 w.1 w.2

pub decided_not_needed : (terms : Terms) → IsDecidedByVotes terms.rule terms.poll terms.seats → IsLotNeeded terms.rule terms.poll terms.seats → ⊥
decided_not_needed terms d w = w.4 (d.2 w.0 w.2 ∙ sym (d.2 w.1 w.3))

-- the group is not empty
pub some_in_group : (terms : Terms) → AreRaces terms → (group : List Bool) (n : ℕ) → IsNeed terms.rule terms.poll terms.seats group n → (l : ℕ) × (get_or group l false ≡ true)
some_in_group terms r group n need =
    let w = need.needed in
    let fa = r.to_fair w.0 w.2 in
    let fb = r.to_fair w.1 w.3 in
    by_cases w.0 w.1 w.2 w.3 w.4 (equal_or_apart w.0 w.1 (omega (arith, fa.one_each, fb.one_each)))
  where
    by_cases : (a b : List ℕ) → IsAllotmentByVotes terms.rule terms.poll terms.seats a → IsAllotmentByVotes terms.rule terms.poll terms.seats b → a ≢ b → (a ≡ b) ⊎ ((l : ℕ) × (get_or a l 0 ≢ get_or b l 0)) → (l : ℕ) × (get_or group l false ≡ true)
    by_cases a b wa wb ne (inl e) = absurd (ne e)
    by_cases a b wa wb ne (inr d) = (d.0, (need.group_is d.0).1 (a, b, wa, wb, d.1))

pub order_not_empty : (terms : Terms) → AreRaces terms → (group : List Bool) (n : ℕ) → IsNeed terms.rule terms.poll terms.seats group n → (lot : List ℕ) → IsOrderOf group lot → lot ≢ []
order_not_empty terms r group n need lot o e =
    let w = some_in_group terms r group n need in
    let i = o.all w.0 w.1 in
    let none : length lot ≡ 0 = ap length e in
    omega (arith, i.1)

-- an order of one group is one of the other
pub order_same : (terms : Terms) (g h : List Bool) (n k : ℕ) → IsNeed terms.rule terms.poll terms.seats g n → IsNeed terms.rule terms.poll terms.seats h k → (lot : List ℕ) → IsOrderOf h lot → IsOrderOf g lot
order_same terms g h n k need need' lot o = record { all = λ l m. o.all l (to_h l m); no_other = no_other; once = o.once }
  where
    to_h : (l : ℕ) → get_or g l false ≡ true → get_or h l false ≡ true
    to_h l m = (need'.group_is l).1 ((need.group_is l).0 m)

    to_g : (l : ℕ) → get_or h l false ≡ true → get_or g l false ≡ true
    to_g l m = (need.group_is l).1 ((need'.group_is l).0 m)

    carried : (place : ℕ) → has_place h place ≡ true → has_place g place ≡ true
    carried zero e = e
    carried (suc l) e = to_g l e

    no_other : (i : ℕ) → i < length lot → has_place g (get_or lot i 0) ≡ true
    no_other i lt = carried (get_or lot i 0) (o.no_other i lt)

-- all eligible lists of one number of votes are in the group, or none is
pub group_is_class : (terms : Terms) → AreRaces terms → (group : List Bool) (n : ℕ) → IsNeed terms.rule terms.poll terms.seats group n → (l m : ℕ) → IsEligible terms.poll m → votes_of terms.poll l ≡ votes_of terms.poll m → get_or group l false ≡ true → get_or group m false ≡ true
group_is_class terms r group n need l m em same marked =
    let w = (need.group_is l).0 marked in
    let fa = r.to_fair w.0 w.2 in
    let fb = r.to_fair w.1 w.3 in
    by_move w.0 w.1 w.2 fa (moved (vote_race terms) r.by_votes r.within (votes_of terms.poll) r.classes terms.seats w.0 w.1 l fa fb (λ e. w.4 (sym e)))
  where
    from_tie : (a : List ℕ) → IsAllotmentByVotes terms.rule terms.poll terms.seats a → IsFair (vote_race terms) terms.seats a → (x y : ℕ) → IsTie (vote_race terms) a x y → votes_of terms.poll m ≡ votes_of terms.poll x → get_or group m false ≡ true
    from_tie a wa fa x y t e =
        let d = class_differs (vote_race terms) r.by_votes r.within (votes_of terms.poll) r.classes terms.seats a x y m fa t (r.runs_if_eligible m em) e in
        (need.group_is m).1 (d.0, a, r.from_fair d.0 d.1, wa, d.2)

    by_move : (a b : List ℕ) → IsAllotmentByVotes terms.rule terms.poll terms.seats a → IsFair (vote_race terms) terms.seats a → IsMoved (vote_race terms) r.by_votes r.within (votes_of terms.poll) r.classes a b l → get_or group m false ≡ true
    by_move a b wa fa (loses y _ t) = from_tie a wa fa l y t (sym same)
    by_move a b wa fa (gains y _ t) = from_tie a wa fa y l t (sym same ∙ sym (tie_alike (vote_race terms) r.by_votes r.within (votes_of terms.poll) r.classes terms.seats a y l fa t).0)

-- the lot that is to be taken places lists of equal votes apart
pub apart_if_taken : (terms : Terms) → AreRaces terms → IsLotTaken terms.rule terms.poll terms.seats terms.lot → ArePlacedApart terms.poll terms.lot
apart_if_taken terms r taken l m el em ne same = by_cases taken
  where
    by_cases : IsLotTaken terms.rule terms.poll terms.seats terms.lot → place_of terms.lot l ≢ place_of terms.lot m
    by_cases (inl w) = let P : List ℕ → Type 0 = λ lot. place_of lot l ≢ place_of lot m in subst P (sym w.1) (setup_apart l m ne)
    by_cases (inr w) = order_apart w.0 terms.lot w.3 l m ne (group_is_class terms r w.0 w.1 w.2 l m em same) (group_is_class terms r w.0 w.1 w.2 m l el (sym same))

-- a lot names a list exactly where the list is in the group that it orders
pub named-marked : (group : List Bool) (lot : List ℕ) → IsOrderOf group lot → (l : ℕ) → is_named lot l ≡ get_or group l false
named-marked group lot o l = both_ways (is_named lot l) (get_or group l false) there back
  where
    there : is_named lot l ≡ true → get_or group l false ≡ true
    there named =
        let w = Any-from_list_any (λ place. eqb place (l + 1)) lot named in
        let at : get_or lot w.0 0 ≡ l + 1 = get_or_default lot w.0 0 w.1 w.2 ∙ w.3 ∙ eqb-true w.1 (l + 1) w.4 in
        has_place-marked group (get_or lot w.0 0) l at (o.no_other w.0 w.2)

    back : get_or group l false ≡ true → is_named lot l ≡ true
    back marked =
        let w = o.all l marked in
        list_any_at (λ place. eqb place (l + 1)) lot w.0 0 w.1 (eq-eqb (get_or lot w.0 0) (l + 1) w.2)

pub named_if_marked : (group : List Bool) (lot : List ℕ) → IsOrderOf group lot → (l : ℕ) → get_or group l false ≡ true → is_named lot l ≡ true
named_if_marked group lot o l marked = named-marked group lot o l ∙ marked

-- the lot that is to be taken is a proper one, and so is none
pub proper_without_lot : (poll : Poll) → IsProperLot poll []
proper_without_lot poll = record { apart = λ l m _ _ ne _. setup_apart l m ne; together = λ l m _ _ _. refl }

pub proper_if_taken : (terms : Terms) → AreRaces terms → IsLotTaken terms.rule terms.poll terms.seats terms.lot → IsProperLot terms.poll terms.lot
proper_if_taken terms r taken = record { apart = apart_if_taken terms r taken; together = λ l m el em same. by_cases l m el em same taken }
  where
    by_cases : (l m : ℕ) → IsEligible terms.poll l → IsEligible terms.poll m → votes_of terms.poll l ≡ votes_of terms.poll m → IsLotTaken terms.rule terms.poll terms.seats terms.lot → is_named terms.lot l ≡ is_named terms.lot m
    by_cases l m el em same (inl w) = let P : List ℕ → Type 0 = λ lot. is_named lot l ≡ is_named lot m in subst P (sym w.1) refl
    by_cases l m el em same (inr w) =
        let marks : get_or w.0 l false ≡ get_or w.0 m false = both_ways (get_or w.0 l false) (get_or w.0 m false) (group_is_class terms r w.0 w.1 w.2 l m em same) (group_is_class terms r w.0 w.1 w.2 m l el (sym same)) in
        named-marked w.0 terms.lot w.3 l ∙ marks ∙ sym (named-marked w.0 terms.lot w.3 m)

-- a lot that is to be taken is not wrong, and is not missing
pub taken_not_wrong : (terms : Terms) → AreRaces terms → IsLotTaken terms.rule terms.poll terms.seats terms.lot → IsLotWrong terms.rule terms.poll terms.seats terms.lot → ⊥
taken_not_wrong terms r (inl t) (inl w) = w.1 t.1
taken_not_wrong terms r (inl t) (inr w) = decided_not_needed terms t.0 (w.2).needed
taken_not_wrong terms r (inr t) (inl w) = decided_not_needed terms w.0 (t.2).needed
taken_not_wrong terms r (inr t) (inr w) = w.4 (order_same terms w.0 t.0 w.1 t.1 w.2 t.2 terms.lot t.3)

pub taken_not_missing : (terms : Terms) → AreRaces terms → (group : List Bool) (n : ℕ) → IsLotTaken terms.rule terms.poll terms.seats terms.lot → IsNeed terms.rule terms.poll terms.seats group n → terms.lot ≡ [] → ⊥
taken_not_missing terms r group n (inl t) need e = decided_not_needed terms t.0 need.needed
taken_not_missing terms r group n (inr t) need e = order_not_empty terms r t.0 t.1 t.2 terms.lot t.3 e
