-- A list that is sorted, and the rows of a table in the order of its key.
use Rattle.std.proofs.Common.{◌≡◌, ◌∙◌, zero, suc, Bool, true, false, cond, List, [], ◌∷◌, Ordering, Less, Equal, Greater, is_lt, is_gt, true≢false, refl, sym, ap, arith, add-one}
use Rattle.std.specs.Cmp.{IsTotalOrder}
use Rattle.std.specs.Ordering.{ordering_reverse}
use Rattle.std.specs.List.Sorted.{IsPermutation, IsSorted}
use Rattle.std.proofs.lemmas.Cmp.{on_total}
use Rattle.std.proofs.lemmas.List.Sorted.{IsPermutation-sym, IsPermutation-trans}
use Rattle.sqlite_keyed.specs.Lists.{insert_sorted, sort_by}
use Rattle.sqlite_keyed.proofs.SortLemmas.{IsPermutation-sort_by, sorted_unique}
use Rattle.sqlite_trees.specs.Tree.{IsAscending}
use Rattle.sqlite_value.proofs.OrderLemmas.{row_cmp_total}
use Rattle.sqlite.specs.State.{State as Seen}
use Rattle.tally_store_schema.specs.declared.table.KeyedTable.{KeyedTable}
use Rattle.tally_store_schema.specs.Office.{ShowsTable, key_cells, rows_in}
use Rattle.tally_store.specs.Content.{by_key, sorted_rows}

module _ {X : Type 0} (cmp : X → X → Ordering) (total : IsTotalOrder cmp) where
  -- the first of the list is not below x
  abbrev Leads : X → List X → Type 0
  Leads x [] = Unit {0}
  Leads x (y ∷ ys) = is_lt (cmp y x) ≡ false

  abbrev IsChain : List X → Type 0
  IsChain [] = Unit {0}
  IsChain (x ∷ xs) = Leads x xs × IsChain xs

  turned : (a b : X) → is_gt (cmp a b) ≡ false → is_lt (cmp b a) ≡ false
  turned a b h = ap is_lt (total.antisymm b a) ∙ go (cmp a b) h
    where
      go : (o : Ordering) → is_gt o ≡ false → is_lt (ordering_reverse o) ≡ false
      go Less h = refl
      go Equal h = refl
      go Greater h = absurd (true≢false h)

  above : (o : Ordering) → is_gt o ≡ true → is_lt o ≡ false
  above Less h = absurd (true≢false (sym h))
  above Equal h = refl
  above Greater h = refl

  leads_insert : (x new : X) (xs : List X) → is_lt (cmp new x) ≡ false → Leads x xs → Leads x (insert_sorted cmp new xs)
  leads_insert x new [] low leads = low
  leads_insert x new (y ∷ ys) low leads = go (is_gt (cmp new y))
    where
      go : (b : Bool) → Leads x (cond b (y ∷ insert_sorted cmp new ys) (new ∷ y ∷ ys))
      go true = leads
      go false = low

  chain_insert : (new : X) (xs : List X) → IsChain xs → IsChain (insert_sorted cmp new xs)
  chain_insert new [] chain = (tt, tt)
  chain_insert new (x ∷ xs) chain = go (is_gt (cmp new x)) refl (chain_insert new xs chain.1)
    where
      go : (b : Bool) → is_gt (cmp new x) ≡ b → IsChain (insert_sorted cmp new xs) → IsChain (cond b (x ∷ insert_sorted cmp new xs) (new ∷ x ∷ xs))
      go true e later = (leads_insert x new xs (above (cmp new x) e) chain.0, later)
      go false e later = (turned new x e, chain)

  chain_sort : (xs : List X) → IsChain (sort_by cmp xs)
  chain_sort [] = tt
  chain_sort (x ∷ xs) = chain_insert x (sort_by cmp xs) (chain_sort xs)

  sorted_chain : (xs : List X) → IsChain xs → IsSorted cmp xs
  sorted_chain [] chain k d low high = absurd (omega (arith, high))
  sorted_chain (x ∷ []) chain k d low high = absurd (omega (arith, high))
  sorted_chain (x ∷ y ∷ ys) chain zero d low high = chain.0
  sorted_chain (x ∷ y ∷ ys) chain (suc k) d low high = rw add-one (rw add-one at (sorted_chain (y ∷ ys) chain.1 k d (omega arith) (omega (arith, high))))

  -- rows that rise, sorted from whatever order
  pub sort_is : (rows xs : List X) → IsAscending (λ a b. cmp a b ≡ Less) rows → IsPermutation rows xs → sort_by cmp xs ≡ rows
  sort_is rows xs up same =
      sorted_unique cmp total rows (sort_by cmp xs) up (IsPermutation-trans _ _ _ same (IsPermutation-sym _ _ (IsPermutation-sort_by cmp total xs)))
      (sorted_chain (sort_by cmp xs) (chain_sort xs))

by_key_total : (t : KeyedTable) → IsTotalOrder (by_key t)
by_key_total t = on_total (key_cells t) row_cmp_total

-- they are what a query of the whole table answers
pub sorted_shows : (t : KeyedTable) (seen : Seen) → ShowsTable t seen (sorted_rows t seen)
sorted_shows t seen = record {
  same = IsPermutation-sym _ _ (IsPermutation-sort_by (by_key t) (by_key_total t) (rows_in t seen));
  in_order = λ rows ordered same. sort_is (by_key t) (by_key_total t) rows (rows_in t seen) ordered.rising same;
}
