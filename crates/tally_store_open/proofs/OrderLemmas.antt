-- The rows of a state are in the order of their tables' keys.
use Rattle.std.proofs.Common.{◌≡◌, ◌<◌, ◌≤◌, ◌+◌, ℕ, pos, T, List, [], ◌∷◌, ◌++◌, length, map, Ordering, Less, Equal, refl, sym, ap, ap₂, subst, ◌∙◌, arith}
use Rattle.std.specs.List.{AllByRecursion, flat_map}
use Rattle.std.specs.Ordering.{ordering_then}
use Rattle.std.specs.FinMap.{FinMap, entries, entries_sorted}
use Rattle.std.specs.Int.Signed.{lt_z_yes}
use Rattle.std.proofs.lemmas.Bool.{lt-ltb}
use Rattle.std.proofs.lemmas.Cmp.{tied_itself}
use Rattle.sqlite_keyed.proofs.KeyedLemmas.{Less-from_lt}
use Rattle.sqlite_keyed.proofs.ListLemmas.{all-append, all_weaker, ascending-append}
use Rattle.sqlite_trees.specs.Tree.{IsAscending}
use Rattle.sqlite_value.specs.declared.value.Value.{Value}
use Rattle.sqlite_value.specs.declared.value.Value.TheVariants.{Int, Text}
use Rattle.sqlite_value.specs.Order.{Row, column, row_cmp, value_cmp}
use Rattle.sqlite_value.proofs.OrderLemmas.{value_cmp-Int, value_cmp-Text, value_cmp_total}
use Rattle.tally_store_schema.specs.Rows.{text_cmp}
use Rattle.tally_store_schema.proofs.RowsLemmas.{AreKeyedBy, keys_rise}
use Rattle.tally_store_schema.specs.declared.table.KeyedTable.{KeyedTable}
use Rattle.tally_store_schema.specs.declared.table.KeyedTable.TheVariants.{Returns, Counts, Cons, Lots, Seats, Gone, Totals, Past}
use Rattle.tally_store_schema.specs.Office.{AreInOrder, all_cells, key_cells}
use Rattle.tally_store_rows.specs.Cells.{item_row, numbers_with_places}

-- the key of a row is below that of another
abbrev pub IsBelow : KeyedTable → Row → Row → Type 0
IsBelow t a b = row_cmp (key_cells t a) (key_cells t b) ≡ Less

-- it has the columns of its table, and no more
abbrev pub IsWhole : KeyedTable → Row → Type 0
IsWhole t r = all_cells t r ≡ r

-- ---- values

pub numbers_below : (m n : ℕ) → m < n → value_cmp (Int (pos m)) (Int (pos n)) ≡ Less
numbers_below m n h = value_cmp-Int (pos m) (pos n) ∙ Less-from_lt (pos m) (pos n) (lt_z_yes (subst T (sym (lt-ltb m n h)) tt))

pub same_then : (v : Value) (o : Ordering) → ordering_then (value_cmp v v) o ≡ o
same_then v o = ap (λ p. ordering_then p o) (tied_itself value_cmp_total v)

pub first_then : (a b : Value) (o : Ordering) → value_cmp a b ≡ Less → ordering_then (value_cmp a b) o ≡ Less
first_then a b o less = ap (λ p. ordering_then p o) less

-- ---- rows of other keys

keys_below : (t : KeyedTable) (a b : Row) (k l : List ℕ) → column a 0 ≡ Text k → column b 0 ≡ Text l → text_cmp k l ≡ Less → IsBelow t a b
keys_below t a b k l a_is b_is less = go t
  where
    firsts : value_cmp (column a 0) (column b 0) ≡ Less
    firsts = ap₂ value_cmp a_is b_is ∙ value_cmp-Text k l ∙ less

    go : (t : KeyedTable) → IsBelow t a b
    go Returns = first_then _ _ _ firsts
    go Counts = first_then _ _ _ firsts
    go Cons = first_then _ _ _ firsts
    go Lots = first_then _ _ _ firsts
    go Seats = first_then _ _ _ firsts
    go Gone = first_then _ _ _ firsts
    go Totals = first_then _ _ _ firsts
    go Past = first_then _ _ _ firsts

module _ {X : Type 0} (t : KeyedTable) (rows_of : List ℕ × X → List Row) (keyed : AreKeyedBy rows_of) where
  row_below : (a : Row) (k : List ℕ) → column a 0 ≡ Text k → (es : List (List ℕ × X)) → AllByRecursion (λ e. text_cmp k e.0 ≡ Less) es → AllByRecursion (IsBelow t a) (flat_map rows_of es)
  row_below a k is [] less = tt
  row_below a k is (e ∷ es) less =
      all-append (IsBelow t a) (rows_of e) (flat_map rows_of es)
      (all_weaker (λ c. column c 0 ≡ Text e.0) (IsBelow t a) (λ c own. keys_below t a c k e.0 is own less.0) (rows_of e) (keyed e)) (row_below a k is es less.1)

  rows_rise : (es : List (List ℕ × X)) → IsAscending (λ a b. text_cmp a.0 b.0 ≡ Less) es → AllByRecursion (λ e. IsAscending (IsBelow t) (rows_of e)) es → IsAscending (IsBelow t) (flat_map rows_of es)
  rows_rise [] rise each = tt
  rows_rise (e ∷ es) rise each =
      ascending-append (IsBelow t) (rows_of e) (flat_map rows_of es) each.0 (rows_rise es rise.1 each.1)
      (all_weaker (λ c. column c 0 ≡ Text e.0) (λ c. AllByRecursion (IsBelow t c) (flat_map rows_of es)) (λ c own. row_below c e.0 own es rise.0) (rows_of e) (keyed e))

  rows_whole : (es : List (List ℕ × X)) → AllByRecursion (λ e. AllByRecursion (IsWhole t) (rows_of e)) es → AllByRecursion (IsWhole t) (flat_map rows_of es)
  rows_whole [] each = tt
  rows_whole (e ∷ es) each = all-append (IsWhole t) (rows_of e) (flat_map rows_of es) each.0 (rows_whole es each.1)

  -- the rows of all entries of a map are in order, where those of each entry are
  pub in_order : (m : FinMap text_cmp X) → AllByRecursion (λ e. AreInOrder t (rows_of e)) (entries m) → AreInOrder t (flat_map rows_of (entries m))
  in_order m each = record {
    whole = rows_whole (entries m) (all_weaker _ (λ e. AllByRecursion (IsWhole t) (rows_of e)) (λ e h. h.whole) (entries m) each);
    rising = rows_rise (entries m) (keys_rise (entries m) (entries_sorted m)) (all_weaker _ (λ e. IsAscending (IsBelow t) (rows_of e)) (λ e h. h.rising) (entries m) each);
  }

-- ---- rows of one key, with an item and a number

-- the tables whose rows have a key, an item and a number
abbrev pub HasItems : KeyedTable → Type 0
HasItems t = ((key : List ℕ) (i j m n : ℕ) → i < j → IsBelow t (item_row key (i, m)) (item_row key (j, n))) × ((key : List ℕ) (item : ℕ × ℕ) → IsWhole t (item_row key item))

items_below : (key : List ℕ) (i j : ℕ) → i < j → row_cmp (Text key ∷ Int (pos i) ∷ []) (Text key ∷ Int (pos j) ∷ []) ≡ Less
items_below key i j less = same_then (Text key) _ ∙ first_then (Int (pos i)) (Int (pos j)) Equal (numbers_below i j less)

pub counts_items : HasItems Counts
counts_items = (λ key i j m n less. items_below key i j less, λ key item. refl)

pub lots_items : HasItems Lots
lots_items = (λ key i j m n less. items_below key i j less, λ key item. refl)

pub seats_items : HasItems Seats
seats_items = (λ key i j m n less. items_below key i j less, λ key item. refl)

pub totals_items : HasItems Totals
totals_items = (λ key i j m n less. items_below key i j less, λ key item. refl)

-- the items of a list rise
abbrev pub ItemsRise : List (ℕ × ℕ) → Type 0
ItemsRise = IsAscending (λ a b. a.0 < b.0)

numbered_from : (low first : ℕ) (ns : List ℕ) → low < first → AllByRecursion (λ (b : ℕ × ℕ). low < b.0) (numbers_with_places first ns)
numbered_from low first [] h = tt
numbered_from low first (n ∷ ns) h = (h, numbered_from low (first + 1) ns (omega (arith, h)))

pub numbered_rise : (first : ℕ) (ns : List ℕ) → ItemsRise (numbers_with_places first ns)
numbered_rise first [] = tt
numbered_rise first (n ∷ ns) = (numbered_from first (first + 1) ns (omega arith), numbered_rise (first + 1) ns)

numbered_below : (first high : ℕ) (ns : List ℕ) → first + length ns ≤ high → AllByRecursion (λ (a : ℕ × ℕ). a.0 < high) (numbers_with_places first ns)
numbered_below first high [] h = tt
numbered_below first high (n ∷ ns) h = (omega (arith, h), numbered_below (first + 1) high ns (omega (arith, h)))

-- those of counts, of at most 60 lists
pub counted_rise : (blank spoiled : ℕ) (votes : List ℕ) → length votes ≤ 60 → ItemsRise ((0, blank) ∷ numbers_with_places 1 votes ++ (61, spoiled) ∷ [])
counted_rise blank spoiled votes few = (
  all-append (λ (b : ℕ × ℕ). 0 < b.0) (numbers_with_places 1 votes) ((61, spoiled) ∷ []) (numbered_from 0 1 votes (omega arith)) (omega arith, tt),
  ascending-append (λ (a b : ℕ × ℕ). a.0 < b.0) (numbers_with_places 1 votes) ((61, spoiled) ∷ []) (numbered_rise 1 votes) (tt, tt)
      (all_weaker (λ (a : ℕ × ℕ). a.0 < 61) (λ a. (a.0 < 61) × Unit {0}) (λ a h. (h, tt)) (numbers_with_places 1 votes) (numbered_below 1 61 votes (omega (arith, few)))),
)

pub items_in_order : (t : KeyedTable) → HasItems t → (key : List ℕ) (items : List (ℕ × ℕ)) → ItemsRise items → AreInOrder t (map (item_row key) items)
items_in_order t has key items rise = record { whole = each items; rising = go items rise }
  where
    each : (items : List (ℕ × ℕ)) → AllByRecursion (IsWhole t) (map (item_row key) items)
    each [] = tt
    each (i ∷ items) = (has.1 key i, each items)

    above : (i : ℕ × ℕ) (items : List (ℕ × ℕ)) → AllByRecursion (λ (b : ℕ × ℕ). i.0 < b.0) items → AllByRecursion (IsBelow t (item_row key i)) (map (item_row key) items)
    above i [] h = tt
    above i (j ∷ items) h = (has.0 key i.0 j.0 i.1 j.1 h.0, above i items h.1)

    go : (items : List (ℕ × ℕ)) → ItemsRise items → IsAscending (IsBelow t) (map (item_row key) items)
    go [] h = tt
    go (i ∷ items) h = (above i items h.0, go items h.1)
