-- The pairs of eligible lists have keys, under the setup's places and
-- under a lot that may be taken.
use Rattle.std.proofs.Common.{◌≡◌, ℕ, zero, suc, ◌+◌, ◌-◌, ◌%◌, ◌<◌, ◌≤◌, ◌≢◌, ◌⊎◌, ◌&&◌, List, ◌∷◌, Bool, true, false, cond, eqb, length, get_or, AllPairs, sum, sym, ap, ◌∙◌, inl, inr, arith}
use Rattle.std.proofs.lemmas.Bool.{cases_Bool, eqb-true, false≢true}
use Rattle.std.proofs.lemmas.Bool.Decides.{Decides-eqb}
use Rattle.std.proofs.lemmas.List.{get_or_default}
use Rattle.std.proofs.lemmas.List.Folds.{Any-from_list_any}
use Rattle.std.proofs.lemmas.Map.Made.{IsDistinct-from_AllPairs}
use Rattle.std.proofs.lemmas.Map.Steps.{length-le_from_distinct_below}
use Rattle.std.specs.List.{list_any}
use Rattle.tally_frac.specs.ListSet.{has_place}
use Rattle.tally_law.specs.Lot.{place_of}
use Rattle.tally_allot_award.specs.internal.NextPairs.{HaveKeys}
use Rattle.tally_allot_award.specs.internal.Orders.{MayBeTaken}
use Rattle.tally_allot_award.specs.internal.Pairs.{last_place, turns, place_at}
use Rattle.tally_setup.specs.declared.profile.LotRule.{LotRule}
use Rattle.tally_law.specs.Poll.{Poll}
use Rattle.tally_allot_award.specs.internal.Terms.{AreDivisors, IsClassOf, IsSound, Terms, divisor_under, lot_rule_of}
use Rattle.tally_allot.proofs.LotLaws.{IsPlaced, at_name, at_setup, placed_at}
use Rattle.tally_allot_award.proofs.Vectors.{get_or-le-sum}

-- numbers of which no two are equal, all from 1 to n, are at most n
pub few_distinct : (n : ℕ) (lot : List ℕ) → ((i : ℕ) → i < length lot → (1 ≤ get_or lot i 0) × (get_or lot i 0 ≤ n)) → ((i j : ℕ) → i < j → j < length lot → get_or lot i 0 ≢ get_or lot j 0) → length lot ≤ n
few_distinct n lot range once = omega (arith, length-le_from_distinct_below (0 ∷ lot) (n + 1) (IsDistinct-from_AllPairs Decides-eqb (0 ∷ lot) apart) below)
  where
    same : (i : ℕ) (d : ℕ) → i < length lot → get_or lot i d ≡ get_or lot i 0
    same i d lt = get_or_default lot i d 0 lt

    apart : AllPairs (λ x y. x ≢ y) (0 ∷ lot)
    apart zero zero d lt end = absurd (omega arith)
    apart zero (suc j) d lt end = λ e. omega (arith, e, same j d (omega arith), (range j (omega arith)).0)
    apart (suc i) zero d lt end = absurd (omega arith)
    apart (suc i) (suc j) d lt end = λ e. once i j (omega arith) (omega arith) (sym (same i d (omega arith)) ∙ e ∙ same j d (omega arith))

    by_place : (q k x : ℕ) → k < length (0 ∷ lot) → get_or (0 ∷ lot) k x ≡ x → eqb q x ≡ true → q < n + 1
    by_place q zero x lt at p = omega (arith, at, eqb-true q x p)
    by_place q (suc i) x lt at p = omega (arith, at, same i x (omega arith), (range i (omega arith)).1, eqb-true q x p)

    below : (q : ℕ) → list_any (eqb q) (0 ∷ lot) ≡ true → q < n + 1
    below q t = let w = Any-from_list_any (eqb q) (0 ∷ lot) t in by_place q w.0 w.1 w.2 w.3 w.4

place_listed : (poll : Poll) → IsSound poll → (l : ℕ) (group : List Bool) → IsClassOf poll l group → (place : ℕ) → has_place group place ≡ true → (1 ≤ place) × (place ≤ length poll.votes)
place_listed poll s l group class zero e = absurd (false≢true e)
place_listed poll s l group class (suc x) e = let lt = s.listed x ((class x).0 e).0 in (omega arith, omega (arith, lt))

-- a lot that may be taken names no more lists than there are
pub few_in_lot : (poll : Poll) → IsSound poll → (lot : List ℕ) → MayBeTaken poll lot → length lot ≤ length poll.votes
few_in_lot poll s lot (inl e) = omega (arith, ap length e)
few_in_lot poll s lot (inr w) = few_distinct (length poll.votes) lot (λ i lt. place_listed poll s w.0 w.1 w.3 (get_or lot i 0) (w.4.no_other i lt)) w.4.once

place_from_one : (lot : List ℕ) (l : ℕ) → 1 ≤ place_of lot l
place_from_one lot l = by_cases (placed_at 1 lot l)
  where
    by_cases : IsPlaced 1 lot l → 1 ≤ place_of lot l
    by_cases (at_name i lt at place) = omega (arith, place)
    by_cases (at_setup none place) = omega (arith, place)

place_up_to : (lot : List ℕ) (l n : ℕ) → length lot ≤ n → l < n → place_of lot l ≤ n
place_up_to lot l n few listed = by_cases (placed_at 1 lot l)
  where
    by_cases : IsPlaced 1 lot l → place_of lot l ≤ n
    by_cases (at_name i lt at place) = omega (arith, place)
    by_cases (at_setup none place) = omega (arith, place)

place_at-limits : (lot_rule : LotRule) (lot : List ℕ) (l k : ℕ) → length lot ≤ 60 → 1 ≤ place_of lot l → place_of lot l ≤ 60 → (1 ≤ place_at lot_rule lot l k) × (place_at lot_rule lot l k ≤ 60)
place_at-limits lot_rule lot l k few one last = by_turn (cases_Bool (turns lot_rule lot l && eqb (k % 2) 0))
  where
    by_turn : (turns lot_rule lot l && eqb (k % 2) 0 ≡ true) ⊎ (turns lot_rule lot l && eqb (k % 2) 0 ≡ false) → (1 ≤ place_at lot_rule lot l k) × (place_at lot_rule lot l k ≤ 60)
    by_turn (inl e) =
        let at : place_at lot_rule lot l k ≡ last_place lot + 1 - place_of lot l = ap (λ b. cond b (last_place lot + 1 - place_of lot l) (place_of lot l)) e in
        (omega (arith, at, few, one, last), omega (arith, at, few, one, last))
    by_turn (inr e) =
        let at : place_at lot_rule lot l k ≡ place_of lot l = ap (λ b. cond b (last_place lot + 1 - place_of lot l) (place_of lot l)) e in
        (omega (arith, at, one), omega (arith, at, last))

pub have_keys : (terms : Terms) → AreDivisors (divisor_under terms.rule) → ((k : ℕ) → 1 ≤ k → k ≤ 501 → divisor_under terms.rule k ≤ 5005) → IsSound terms.poll → sum terms.poll.votes ≤ 5000000000 → length terms.poll.votes ≤ 60 → length terms.lot ≤ length terms.poll.votes → HaveKeys terms
have_keys terms d most sound few_votes few_lists few l k e one last =
    let place = place_at-limits (lot_rule_of terms.rule) terms.lot l k (omega (arith, few, few_lists)) (place_from_one terms.lot l) (omega (arith, place_up_to terms.lot l (length terms.poll.votes) few (sound.listed l e), few_lists)) in
    record {
      some_votes = sound.with_votes l e;
      votes_limit = omega (arith, get_or-le-sum terms.poll.votes l, few_votes);
      some_divisor = d.positive k one;
      divisor_limit = most k one last;
      some_place = place.0;
      place_limit = place.1;
    }
