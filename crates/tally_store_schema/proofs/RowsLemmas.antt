-- From the rows of a table to the map whose entries they are.
use Rattle.std.proofs.Common.{◌≡◌, ℕ, Bool, true, false, not, ◌&&◌, cond, T, List, [], ◌∷◌, ◌++◌, map, filter, Option, Some, None, option_to_list, refl, sym, ap, ap₂, subst, ◌∙◌, arith, append-nil, Ordering, Less}
use Rattle.std.specs.List.{AllByRecursion, flat_map}
use Rattle.std.specs.List.Sorted.{IsPermutation}
use Rattle.std.proofs.lemmas.List.Elements.{filter-append}
use Rattle.std.proofs.lemmas.List.Sorted.{IsPermutation-refl, IsPermutation-sym, IsPermutation-cons, IsPermutation-trans, IsPermutation-middle, IsPermutation-append_left, IsPermutation-append_right}
use Rattle.std.specs.Cmp.{IsTotalOrder, eq_by_cmp_equiv}
use Rattle.std.specs.Cmp.Lexicographic.{nat_list_cmp_total}
use Rattle.std.specs.Ordering.{eq_by_cmp, is_eq}
use Rattle.std.specs.FinMap.{FinMap, IsAntisymmetric, entries, get, insert, find, get-entries, get-insert, get_tied, same_map, slice_cmp-IsAntisymmetric, nat_cmp-IsAntisymmetric}
use Rattle.std.specs.FinMap.Entries.{is_sorted, below_all}
use Rattle.sqlite_value.specs.declared.value.Value.TheVariants.{Text}
use Rattle.sqlite_value.specs.Order.{Row, column, value_cmp}
use Rattle.sqlite_value.proofs.OrderLemmas.{value_cmp-Text}
use Rattle.sqlite_trees.specs.Tree.{IsAscending}
use Rattle.sqlite.proofs.Callers.{one_permutation}
use Rattle.sqlite_keyed.proofs.ListLemmas.{IsPermutation-filter, IsPermutation-flat_map, filter_all, filter_none, all_weaker}
use Rattle.tally_store_schema.specs.Rows.{text_cmp, cells, AreRowsOf, has_key, others}
use Rattle.tally_store_schema.proofs.StatementLemmas.{equal_is}
use Rattle.tally_store_schema.proofs.EntryLemmas.{other_entries, inserted}

pub text_total : IsTotalOrder text_cmp
text_total = nat_list_cmp_total

pub text_exact : IsAntisymmetric text_cmp
text_exact = slice_cmp-IsAntisymmetric nat_cmp-IsAntisymmetric

pub text_same : (a : List ℕ) → eq_by_cmp text_cmp a a ≡ true
text_same a = (eq_by_cmp_equiv text_total).refl a

-- ---- lists

-- what passes, and then what does not
pub partitioned : {A : Type 0} (p : A → Bool) (xs : List A) → IsPermutation (filter p xs ++ filter (λ x. not (p x)) xs) xs
partitioned p [] = IsPermutation-refl []
partitioned p (x ∷ xs) = go (p x) (partitioned p xs)
  where
    go : (b : Bool) → IsPermutation (filter p xs ++ filter (λ x. not (p x)) xs) xs
        → IsPermutation (cond b (x ∷ filter p xs) (filter p xs) ++ cond (not b) (x ∷ filter (λ x. not (p x)) xs) (filter (λ x. not (p x)) xs)) (x ∷ xs)
    go true later = IsPermutation-cons x _ _ later
    go false later = IsPermutation-trans _ _ _ (IsPermutation-middle (filter p xs) x (filter (λ x. not (p x)) xs)) (IsPermutation-cons x _ _ later)

pub none_then_all : {A : Type 0} (p : A → Bool) (xs : List A) → filter p xs ≡ [] → filter (λ x. not (p x)) xs ≡ xs
none_then_all p [] none = refl
none_then_all p (x ∷ xs) none = go (p x) none (none_then_all p xs)
  where
    go : (b : Bool) → cond b (x ∷ filter p xs) (filter p xs) ≡ [] → (filter p xs ≡ [] → filter (λ x. not (p x)) xs ≡ xs) → cond (not b) (x ∷ filter (λ x. not (p x)) xs) (filter (λ x. not (p x)) xs) ≡ x ∷ xs
    go true some later = absurd (let e = some in cc)
    go false is later = ap (λ l. x ∷ l) (later is)

-- the rows of entries, where all rows of an entry pass or none does
pub filter-rows : {A B : Type 0} (rows_of : A → List B) (t : B → Bool) (u : A → Bool) → ((e : A) → AllByRecursion (λ c. t c ≡ u e) (rows_of e)) → (es : List A) → filter t (flat_map rows_of es) ≡ flat_map rows_of (filter u es)
filter-rows rows_of t u each [] = refl
filter-rows rows_of t u each (e ∷ es) = filter-append t (rows_of e) (flat_map rows_of es) ∙ go (u e) refl (filter-rows rows_of t u each es)
  where
    go : (b : Bool) → u e ≡ b → filter t (flat_map rows_of es) ≡ flat_map rows_of (filter u es) → filter t (rows_of e) ++ filter t (flat_map rows_of es) ≡ flat_map rows_of (cond b (e ∷ filter u es) (filter u es))
    go true is later = ap₂ ◌++◌ (filter_all t (rows_of e) (all_weaker _ (λ c. t c ≡ true) (λ c h. h ∙ is) (rows_of e) (each e))) later
    go false is later = ap₂ ◌++◌ (filter_none t (rows_of e) (all_weaker _ (λ c. t c ≡ false) (λ c h. h ∙ is) (rows_of e) (each e))) later

-- ---- maps by texts

module _ {X : Type 0} where
  -- a map whose value at a key is this one, with it inserted again
  pub same_again : (s : FinMap text_cmp X) (k : List ℕ) (v : X) → get s k ≡ Some v → insert s k v ≡ s
  same_again s k v is = same_map text_total text_exact _ _ (λ q. get-insert text_total s k v q ∙ go q (eq_by_cmp text_cmp q k) refl)
    where
      go : (q : List ℕ) (b : Bool) → eq_by_cmp text_cmp q k ≡ b → cond b (Some v) (get s q) ≡ get s q
      go q true tied = sym is ∙ get_tied text_total s q k (equal_is _ tied)
      go q false apart = refl

  -- the entries of a key
  abbrev pub with_key : List ℕ → List (List ℕ × X) → List (List ℕ × X)
  with_key k = filter (λ e. eq_by_cmp text_cmp k e.0)

  with_key_none : (k : List ℕ) (es : List (List ℕ × X)) → find text_cmp k es ≡ None → with_key k es ≡ []
  with_key_none k [] none = refl
  with_key_none k (e ∷ es) none = go (eq_by_cmp text_cmp k e.0) none (with_key_none k es)
    where
      go : (b : Bool) → cond b (Some e.1) (find text_cmp k es) ≡ None → (find text_cmp k es ≡ None → with_key k es ≡ []) → cond b (e ∷ with_key k es) (with_key k es) ≡ []
      go true is later = absurd (let h = is in cc)
      go false is later = later is

  with_key_other : (k : List ℕ) (es : List (List ℕ × X)) → with_key k (other_entries text_total text_exact k es) ≡ []
  with_key_other k [] = refl
  with_key_other k (e ∷ es) = go (eq_by_cmp text_cmp k e.0) refl (with_key_other k es)
    where
      go : (b : Bool) → eq_by_cmp text_cmp k e.0 ≡ b → with_key k (other_entries text_total text_exact k es) ≡ [] → with_key k (cond (not b) (e ∷ other_entries text_total text_exact k es) (other_entries text_total text_exact k es)) ≡ []
      go true is later = later
      go false is later = ap (λ b. cond b (e ∷ with_key k (other_entries text_total text_exact k es)) (with_key k (other_entries text_total text_exact k es))) is ∙ later

  with_key_one : (s : FinMap text_cmp X) (k : List ℕ) (v : X) → get s k ≡ Some v → with_key k (entries s) ≡ (k, v) ∷ []
  with_key_one s k v is =
      let first : with_key k ((k, v) ∷ other_entries text_total text_exact k (entries s)) ≡ (k, v) ∷ [] =
      ap (λ b. cond b ((k, v) ∷ with_key k (other_entries text_total text_exact k (entries s))) (with_key k (other_entries text_total text_exact k (entries s)))) (text_same k) ∙ ap (λ l. (k, v) ∷ l) (with_key_other k (entries s)) in
      let all : IsPermutation ((k, v) ∷ other_entries text_total text_exact k (entries s)) (entries s) = subst (λ m. IsPermutation ((k, v) ∷ other_entries text_total text_exact k (entries s)) (entries m)) (same_again s k v is) (inserted text_total text_exact s k v) in
      one_permutation (k, v) _ (subst (λ l. IsPermutation l (with_key k (entries s))) first (IsPermutation-filter (λ e. eq_by_cmp text_cmp k e.0) _ _ all))

  -- the entry that a key has, if any
  abbrev pub entry_at : FinMap text_cmp X → List ℕ → List (List ℕ × X)
  entry_at s k = Rattle.std.proofs.Common.map (λ v. (k, v)) (option_to_list (get s k))

  pub with_key_is : (s : FinMap text_cmp X) (k : List ℕ) → with_key k (entries s) ≡ entry_at s k
  with_key_is s k = go (get s k) refl
    where
      go : (o : Option X) → get s k ≡ o → with_key k (entries s) ≡ Rattle.std.proofs.Common.map (λ v. (k, v)) (option_to_list o)
      go None is = with_key_none k (entries s) (sym (get-entries s k) ∙ is)
      go (Some v) is = with_key_one s k v is

  below_ascends : (x : List ℕ) (es : List (List ℕ × X)) → T (below_all text_cmp x es) → AllByRecursion (λ e. text_cmp x e.0 ≡ Less) es
  below_ascends x [] h = tt
  below_ascends x (e ∷ es) h = (less (text_cmp x e.0) (left_of _ _ h), below_ascends x es (right_of _ _ h))
    where
      left_of : (a b : Bool) → T (a && b) → T a
      left_of true b h = tt
      left_of false b h = h

      right_of : (a b : Bool) → T (a && b) → T b
      right_of true b h = h
      right_of false b h = absurd h

      less : (r : Ordering) → T (Rattle.std.specs.Ordering.is_lt r) → r ≡ Less
      less Less h = refl
      less Rattle.std.proofs.Common.Equal h = absurd h
      less Rattle.std.proofs.Common.Greater h = absurd h

  -- the keys of a map rise
  pub keys_rise : (es : List (List ℕ × X)) → T (is_sorted text_cmp es) → IsAscending (λ a b. text_cmp a.0 b.0 ≡ Less) es
  keys_rise [] h = tt
  keys_rise (e ∷ es) h = (below_ascends e.0 es (left_of _ _ h), keys_rise es (right_of _ _ h))
    where
      left_of : (a b : Bool) → T (a && b) → T a
      left_of true b h = tt
      left_of false b h = h

      right_of : (a b : Bool) → T (a && b) → T b
      right_of true b h = h
      right_of false b h = absurd h

-- ---- tables

-- each row of an entry has its key in the first column
abbrev pub AreKeyedBy : {X : Type 0} → (List ℕ × X → List Row) → Type 0
AreKeyedBy {X} rows_of = (e : List ℕ × X) → AllByRecursion (λ c. column c 0 ≡ Text e.0) (rows_of e)

module _ {X : Type 0} (rows_of : List ℕ × X → List Row) (keyed : AreKeyedBy rows_of) where
  has_key_is : (k : List ℕ) (e : List ℕ × X) → AllByRecursion (λ c. has_key k c ≡ eq_by_cmp text_cmp k e.0) (rows_of e)
  has_key_is k e = all_weaker _ (λ c. has_key k c ≡ eq_by_cmp text_cmp k e.0)
      (λ c is. ap (λ v. is_eq (value_cmp v (Text k))) is ∙ ap is_eq (value_cmp-Text e.0 k) ∙ (eq_by_cmp_equiv text_total).symm e.0 k) (rows_of e) (keyed e)

  others_are : (k : List ℕ) (es : List (List ℕ × X)) → others k (flat_map rows_of es) ≡ flat_map rows_of (other_entries text_total text_exact k es)
  others_are k = filter-rows rows_of (λ c. not (has_key k c)) (λ e. not (eq_by_cmp text_cmp k e.0)) (λ e. all_weaker _ (λ c. not (has_key k c) ≡ not (eq_by_cmp text_cmp k e.0)) (λ c is. ap not is) (rows_of e) (has_key_is k e))

  -- the rows that a key has
  abbrev pub rows_at : FinMap text_cmp X → List ℕ → List Row
  rows_at s k = flat_map rows_of (entry_at s k)

  pub rows_of_key : (s : FinMap text_cmp X) (k : List ℕ) (rows : List Row) → AreRowsOf rows_of s rows → IsPermutation (rows_at s k) (filter (has_key k) (cells rows))
  rows_of_key s k rows h =
      let found : filter (has_key k) (flat_map rows_of (entries s)) ≡ rows_at s k = filter-rows rows_of (has_key k) (λ e. eq_by_cmp text_cmp k e.0) (has_key_is k) (entries s) ∙ ap (flat_map rows_of) (with_key_is s k) in
      subst (λ l. IsPermutation l (filter (has_key k) (cells rows))) found (IsPermutation-filter (has_key k) _ _ h.each)

  -- where these are the rows of the key now, and those of other keys
  -- are as they were, the map has the entry
  pub put_rows : (s : FinMap text_cmp X) (k : List ℕ) (v : X) (old new : List Row) → AreRowsOf rows_of s old → IsPermutation (rows_of (k, v) ++ others k (cells old)) (cells new) → AreRowsOf rows_of (insert s k v) new
  put_rows s k v old new h put =
      let all : IsPermutation (rows_of (k, v) ++ flat_map rows_of (other_entries text_total text_exact k (entries s))) (flat_map rows_of (entries (insert s k v))) = IsPermutation-flat_map rows_of _ _ (inserted text_total text_exact s k v) in
      let kept : IsPermutation (others k (flat_map rows_of (entries s))) (others k (cells old)) = IsPermutation-filter (λ c. not (has_key k c)) _ _ h.each in
      let moved : IsPermutation (rows_of (k, v) ++ flat_map rows_of (other_entries text_total text_exact k (entries s))) (rows_of (k, v) ++ others k (cells old)) =
      IsPermutation-append_right (rows_of (k, v)) _ _ (subst (λ l. IsPermutation l (others k (cells old))) (others_are k (entries s)) kept) in
      record { each = IsPermutation-trans _ _ _ (IsPermutation-sym _ _ all) (IsPermutation-trans _ _ _ moved put) }

  pub no_others : (s : FinMap text_cmp X) (k : List ℕ) (rows : List Row) → get s k ≡ None → AreRowsOf rows_of s rows → others k (cells rows) ≡ cells rows
  no_others s k rows none h =
      let found = subst (λ o. IsPermutation (flat_map rows_of (Rattle.std.proofs.Common.map (λ v. (k, v)) (option_to_list o))) (filter (has_key k) (cells rows))) none (rows_of_key s k rows h) in
      none_then_all (has_key k) (cells rows) (nothing _ found)
    where
      nothing : (xs : List Row) → IsPermutation [] xs → xs ≡ []
      nothing [] h = refl
      nothing (x ∷ xs) h = absurd (omega (arith, Rattle.std.proofs.lemmas.List.Sorted.length_permutation [] (x ∷ xs) h))

  -- where rows were added for a key that was new
  pub add_rows : (s : FinMap text_cmp X) (k : List ℕ) (v : X) (old new : List Row) → get s k ≡ None → AreRowsOf rows_of s old → IsPermutation (rows_of (k, v) ++ cells old) (cells new) → AreRowsOf rows_of (insert s k v) new
  add_rows s k v old new none h added = put_rows s k v old new h (subst (λ l. IsPermutation (rows_of (k, v) ++ l) (cells new)) (sym (no_others s k old none h)) added)

  -- the rows are those of the key and the others
  pub partitioned_rows : (s : FinMap text_cmp X) (k : List ℕ) (v : X) (rows : List Row) → get s k ≡ Some v → AreRowsOf rows_of s rows → IsPermutation (rows_of (k, v) ++ others k (cells rows)) (cells rows)
  partitioned_rows s k v rows is h =
      let found = subst (λ o. IsPermutation (flat_map rows_of (Rattle.std.proofs.Common.map (λ v. (k, v)) (option_to_list o))) (filter (has_key k) (cells rows))) is (rows_of_key s k rows h) in
      let found_for_key : IsPermutation (rows_of (k, v)) (filter (has_key k) (cells rows)) = subst (λ l. IsPermutation l (filter (has_key k) (cells rows))) (append-nil (rows_of (k, v))) found in
      IsPermutation-trans _ _ _ (IsPermutation-append_left (others k (cells rows)) _ _ found_for_key) (partitioned (has_key k) (cells rows))

  -- where the entry changes in what this table does not hold
  pub same_rows : (s : FinMap text_cmp X) (k : List ℕ) (v w : X) (rows : List Row) → get s k ≡ Some v → rows_of (k, w) ≡ rows_of (k, v) → AreRowsOf rows_of s rows → AreRowsOf rows_of (insert s k w) rows
  same_rows s k v w rows is same h = put_rows s k w rows rows h (subst (λ l. IsPermutation (l ++ others k (cells rows)) (cells rows)) (sym same) (partitioned_rows s k v rows is h))
