-- Keys that rise are those of a finite map, in order.
use Rattle.std.proofs.Common.{◌≡◌, ◌<◌, ◌≤◌, ◌&&◌, ◌-◌, ◌+◌, ℕ, map, Bool, true, false, T, List, [], ◌∷◌, drop, length, length-drop, get_or, refl, sym, ap, ap₂, subst, ◌∙◌, arith, Ordering, Less, Equal, Greater}
use Rattle.std.specs.Cmp.{IsTotalOrder}
use Rattle.std.specs.Ordering.{MatchOrdering, is_lt, nat_cmp, ordering_then}
use Rattle.std.specs.FinMap.Entries.{is_sorted, below_all}
use Rattle.std.proofs.lemmas.Bool.{and_parts}
use Rattle.std.proofs.lemmas.Cmp.{ranked}
use Rattle.std.proofs.lemmas.List.{drop_more}
use Rattle.tally_returns.specs.GoneCandidate.{GoneCandidate}
use Rattle.tally_returns.specs.View.{is_before}
use Rattle.tally_store_schema.specs.Rows.{text_cmp}
use Rattle.tally_store_schema.proofs.RowsLemmas.{text_total}
use Rattle.tally_store_open.specs.internal.Entries.{rises_on, key_of, rises}
use Rattle.tally_store_open.specs.internal.Found.{gone_places}

-- the order of candidates who are gone is that of their two places
pub before_is : (g h : GoneCandidate) → is_before g h ≡ is_lt (text_cmp (gone_places g) (gone_places h))
before_is g h = by_lists (nat_cmp g.list h.list) (nat_cmp g.place h.place) (ranked g.list h.list (nat_cmp g.list h.list) refl) (ranked g.place h.place (nat_cmp g.place h.place) refl)
  where
    by_lists : (a b : Ordering) → MatchOrdering a (g.list < h.list) (g.list ≡ h.list) (h.list < g.list) → MatchOrdering b (g.place < h.place) (g.place ≡ h.place) (h.place < g.place)
        → is_before g h ≡ is_lt (ordering_then a (ordering_then b Equal))
    by_lists Less b lists places = grind (arith, lists)
    by_lists Equal Less lists places = grind (arith, lists, places)
    by_lists Equal Equal lists places = grind (arith, lists, places)
    by_lists Equal Greater lists places = grind (arith, lists, places)
    by_lists Greater b lists places = grind (arith, lists)

both : (a b : Bool) → T a → T b → T (a && b)
both true b p q = q
both false b p q = absurd p

pub left_of : (a b : Bool) → T (a && b) → T a
left_of true b h = tt
left_of false b h = h

pub right_of : (a b : Bool) → T (a && b) → T b
right_of true b h = h
right_of false b h = absurd h

true_is : (b : Bool) → T b → b ≡ true
true_is true h = refl
true_is false h = absurd h

less_is : (o : Ordering) → T (is_lt o) → o ≡ Less
less_is Less h = refl
less_is Equal h = absurd h
less_is Greater h = absurd h

from_true : (b : Bool) → b ≡ true → T b
from_true b h = subst T (sym h) tt

module _ {X K : Type 0} (R : K → K → Ordering) (key : X → K) where
  -- as the keys of entries
  below_more : {V : Type 0} (value : X → V) (total : IsTotalOrder R) (x y : K) (xs : List X) → R x y ≡ Less → T (below_all R y (map (λ e. (key e, value e)) xs)) → T (below_all R x (map (λ e. (key e, value e)) xs))
  below_more value total x y [] less h = tt
  below_more value total x y (e ∷ xs) less h =
      both _ _ (subst (λ o. T (is_lt o)) (sym (total.trans x y (key e) less (less_is _ (left_of _ _ h)))) tt) (below_more value total x y xs less (right_of _ _ h))

  pub sorted_on : {V : Type 0} (value : X → V) (total : IsTotalOrder R) (xs : List X) → rises_on key R xs ≡ true → T (is_sorted R (map (λ e. (key e, value e)) xs))
  sorted_on value total [] h = tt
  sorted_on value total (a ∷ []) h = tt
  sorted_on value total (a ∷ b ∷ xs) h =
      let parts = and_parts _ _ h in
      let later = sorted_on value total (b ∷ xs) parts.1 in
      let low = from_true _ parts.0 in
      both _ _ (both _ _ low (below_more value total (key a) (key b) xs (less_is _ low) (left_of _ _ later))) later

  pub rises_sorted : {V : Type 0} (value : X → V) (xs : List X) → T (is_sorted R (map (λ e. (key e, value e)) xs)) → rises_on key R xs ≡ true
  rises_sorted value [] h = refl
  rises_sorted value (a ∷ []) h = refl
  rises_sorted value (a ∷ b ∷ xs) h =
      let low = left_of _ _ (left_of _ _ h) in
      ap (λ t. t && rises_on key R (b ∷ xs)) (true_is _ low) ∙ rises_sorted value (b ∷ xs) (right_of _ _ h)

  -- ---- the loop

  pub rises_at : (xs : List X) (i : ℕ) (a b : X) → 1 ≤ i → i < length xs → a ≡ get_or xs (i - 1) a → b ≡ get_or xs i b → rises_on key R (drop (i - 1) xs) ≡ (is_lt (R (key a) (key b)) && rises_on key R (drop i xs))
  rises_at xs i a b from low first second =
      let next : drop i xs ≡ b ∷ drop (i + 1) xs = drop_more xs i b low ∙ ap (λ x. x ∷ drop (i + 1) xs) (sym second) in
      let same : i - 1 + 1 ≡ i = omega arith in
      let before : drop (i - 1) xs ≡ a ∷ drop i xs = drop_more xs (i - 1) a (omega arith) ∙ ap₂ (λ x n. x ∷ drop n xs) (sym first) same in
      ap (rises_on key R) (before ∙ ap (λ l. a ∷ l) next) ∙ ap (λ l. is_lt (R (key a) (key b)) && rises_on key R l) (sym next)

  pub rises_step : (xs : List X) (i : ℕ) (a b : X) → 1 ≤ i → i < length xs → a ≡ get_or xs (i - 1) a → b ≡ get_or xs i b → is_lt (R (key a) (key b)) ≡ true
      → rises_on key R (drop (i + 1 - 1) xs) ≡ rises_on key R (drop (i - 1) xs)
  rises_step xs i a b from low first second less =
      let same : i + 1 - 1 ≡ i = omega arith in
      ap (λ n. rises_on key R (drop n xs)) same ∙ sym (rises_at xs i a b from low first second ∙ ap (λ t. t && rises_on key R (drop i xs)) less)

  pub rises_end : (xs : List X) (i : ℕ) → length xs ≤ i → rises_on key R (drop (i - 1) xs) ≡ true
  rises_end xs i all = short (drop (i - 1) xs) (omega (arith, length-drop (i - 1) xs))
    where
      short : (l : List X) → length l ≤ 1 → rises_on key R l ≡ true
      short [] h = refl
      short (a ∷ []) h = refl
      short (a ∷ b ∷ l) h = absurd (omega arith)

-- ---- entries whose keys are texts

module _ {X : Type 0} where
  same_entries : (es : List (List ℕ × X)) → map (λ e. (e.0, e.1)) es ≡ es
  same_entries [] = refl
  same_entries (e ∷ es) = ap (λ l. e ∷ l) (same_entries es)

  pub sorted_from_rises : (es : List (List ℕ × X)) → rises es ≡ true → T (is_sorted text_cmp es)
  sorted_from_rises es h = subst (λ l. T (is_sorted text_cmp l)) (same_entries es) (sorted_on text_cmp key_of (λ e. e.1) text_total es h)

  pub rises_from_sorted : (es : List (List ℕ × X)) → T (is_sorted text_cmp es) → rises es ≡ true
  rises_from_sorted es h = rises_sorted text_cmp key_of (λ e. e.1) es (subst (λ l. T (is_sorted text_cmp l)) (sym (same_entries es)) h)
