-- The entries of a finite map after an insert.
use Rattle.std.proofs.Common.{◌≡◌, Bool, true, false, not, ◌&&◌, cond, T, List, [], ◌∷◌, filter, Ordering, Less, Equal, Greater, refl, sym, ap, subst, ◌∙◌}
use Rattle.std.specs.List.Sorted.{IsPermutation}
use Rattle.std.proofs.lemmas.List.Sorted.{IsPermutation-refl, IsPermutation-cons, IsPermutation-trans}
use Rattle.std.specs.Cmp.{IsTotalOrder}
use Rattle.std.specs.Ordering.{eq_by_cmp, is_lt, is_eq}
use Rattle.std.specs.FinMap.{FinMap, entries, entries-insert, entries_sorted, insert, put, is_sorted, IsAntisymmetric}
use Rattle.std.specs.FinMap.Entries.{below_all, by_order}
use Rattle.tally_store_schema.proofs.StatementLemmas.{swap_first}

left_of : (a b : Bool) → T (a && b) → T a
left_of true b h = tt
left_of false b h = h

right_of : (a b : Bool) → T (a && b) → T b
right_of true b h = h
right_of false b h = absurd h

is_less : (r : Ordering) → T (is_lt r) → r ≡ Less
is_less Less h = refl
is_less Equal h = absurd h
is_less Greater h = absurd h

module _ {K X : Type 0} {R : K → K → Ordering} (o : IsTotalOrder R) (exact : IsAntisymmetric R) where
  -- the entries of other keys
  abbrev pub other_entries : K → List (K × X) → List (K × X)
  other_entries k = filter (λ e. not (eq_by_cmp R k e.0))

  -- a key below x has no entry among those above x
  all_other : (k x : K) (es : List (K × X)) → ((y : K) → R x y ≡ Less → R k y ≡ Less) → T (below_all R x es) → other_entries k es ≡ es
  all_other k x [] lower h = refl
  all_other k x (e ∷ es) lower h =
      let low = lower e.0 (is_less _ (left_of _ _ h)) in
      ap (λ r. cond (not (is_eq r)) (e ∷ other_entries k es) (other_entries k es)) low ∙ ap (λ l. e ∷ l) (all_other k x es lower (right_of _ _ h))

  put_entries : (k : K) (v : X) (es : List (K × X)) → T (is_sorted R es) → IsPermutation ((k, v) ∷ other_entries k es) (put R k v es)
  put_entries k v [] h = IsPermutation-refl _
  put_entries k v (e ∷ es) h = go (R k e.0) refl (put_entries k v es (right_of _ _ h))
    where
      below : T (below_all R e.0 es)
      below = left_of (below_all R e.0 es) (is_sorted R es) h

      go : (r : Ordering) → R k e.0 ≡ r → IsPermutation ((k, v) ∷ other_entries k es) (put R k v es)
          → IsPermutation ((k, v) ∷ cond (not (is_eq r)) (e ∷ other_entries k es) (other_entries k es)) (by_order r ((k, v) ∷ e ∷ es) ((e.0, v) ∷ es) (e ∷ put R k v es))
      go Less is later = subst (λ l. IsPermutation ((k, v) ∷ e ∷ l) ((k, v) ∷ e ∷ es)) (sym (all_other k e.0 es (λ y low. o.trans k e.0 y is low) below)) (IsPermutation-refl _)
      go Equal is later = rw (all_other k e.0 es (λ y low. o.congr k e.0 y is ∙ low) below) (subst (λ x. IsPermutation ((k, v) ∷ es) ((x, v) ∷ es)) (exact k e.0 is) (IsPermutation-refl _))
      go Greater is later = IsPermutation-trans _ _ _ (swap_first (k, v) e (other_entries k es)) (IsPermutation-cons e _ _ later)

  -- an insert leaves the entries of other keys, and one of this key
  pub inserted : (m : FinMap R X) (k : K) (v : X) → IsPermutation ((k, v) ∷ other_entries k (entries m)) (entries (insert m k v))
  inserted m k v = subst (IsPermutation ((k, v) ∷ other_entries k (entries m))) (sym (entries-insert o m k v)) (put_entries k v (entries m) (entries_sorted m))
