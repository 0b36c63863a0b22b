-- The rows of a constituency are in the order of their tables' keys.
use Rattle.std.proofs.Common.{◌≡◌, ◌<◌, ◌≤◌, ◌&&◌, ℕ, pos, Bool, true, false, cond, nat_lt, T, List, [], ◌∷◌, length, map, Ordering, Less, Equal, Greater, refl, sym, ap, ap₂, subst, ◌∙◌, arith}
use Rattle.std.specs.Prelude.{slice_index, ◌==◌}
use Rattle.std.specs.FinMap.Entries.{is_sorted, below_all}
use Rattle.std.specs.List.{AllByRecursion, flat_map}
use Rattle.std.specs.Ordering.{is_lt, nat_cmp, ordering_then}
use Rattle.std.specs.Int.Signed.{lt_z_yes}
use Rattle.std.proofs.lemmas.Bool.{eqb-true, eq-eqb, lt-ltb, ltb-true, ltb-false}
use Rattle.std.proofs.lemmas.Cmp.{tied_itself}
use Rattle.sqlite_keyed.proofs.KeyedLemmas.{Less-from_lt}
use Rattle.sqlite_keyed.proofs.ListLemmas.{all-append, ascending-append}
use Rattle.sqlite_trees.specs.Tree.{IsAscending}
use Rattle.sqlite_value.specs.declared.value.Value.{Value}
use Rattle.sqlite_value.specs.declared.value.Value.TheVariants.{Int, Text}
use Rattle.sqlite_value.specs.Order.{Row, column, row_cmp, value_cmp}
use Rattle.sqlite_value.proofs.OrderLemmas.{value_cmp-Int, value_cmp_total}
use Rattle.tally_store_schema.specs.Rows.{text_cmp}
use Rattle.tally_machine_law.specs.LawfulState.{IsUnderPlaces}
use Rattle.tally_returns.specs.Counts.{VoteCounts}
use Rattle.tally_store_schema.specs.declared.table.KeyedTable.{KeyedTable}
use Rattle.tally_store_schema.specs.declared.table.KeyedTable.TheVariants.{Lots, Seats, Gone, Totals, Past}
use Rattle.tally_store_schema.specs.Office.{AreInOrder, all_cells, key_cells}
use Rattle.tally_store_rows.specs.Cells.{gone_row, item_row, items_of, numbers_with_places, past_row, record_rows}
use Rattle.tally_store_entries.proofs.FindLemmas.{items_rise, numbered_rise}

-- the key of a row is below that of another
abbrev pub IsBelow : KeyedTable → Row → Row → Type 0
IsBelow t a b = row_cmp (key_cells t a) (key_cells t b) ≡ Less

-- it has the columns of its table, and no more
abbrev pub IsWhole : KeyedTable → Row → Type 0
IsWhole t r = all_cells t r ≡ r

-- ---- values

numbers_below : (m n : ℕ) → m < n → value_cmp (Int (pos m)) (Int (pos n)) ≡ Less
numbers_below m n h = value_cmp-Int (pos m) (pos n) ∙ Less-from_lt (pos m) (pos n) (lt_z_yes (subst T (sym (lt-ltb m n h)) tt))

same_then : (v : Value) (o : Ordering) → ordering_then (value_cmp v v) o ≡ o
same_then v o = ap (λ p. ordering_then p o) (tied_itself value_cmp_total v)

first_then : (a b : Value) (o : Ordering) → value_cmp a b ≡ Less → ordering_then (value_cmp a b) o ≡ Less
first_then a b o less = ap (λ p. ordering_then p o) less

-- ---- rows of one key, with an item and a number

-- the tables whose rows have a key, an item and a number
abbrev pub HasItems : KeyedTable → Type 0
HasItems t = ((key : List ℕ) (i j m n : ℕ) → i < j → IsBelow t (item_row key (i, m)) (item_row key (j, n))) × ((key : List ℕ) (item : ℕ × ℕ) → IsWhole t (item_row key item))

items_below : (key : List ℕ) (i j : ℕ) → i < j → row_cmp (Text key ∷ Int (pos i) ∷ []) (Text key ∷ Int (pos j) ∷ []) ≡ Less
items_below key i j less = same_then (Text key) _ ∙ first_then (Int (pos i)) (Int (pos j)) Equal (numbers_below i j less)

pub lots_items : HasItems Lots
lots_items = (λ key i j m n less. items_below key i j less, λ key item. refl)

pub seats_items : HasItems Seats
seats_items = (λ key i j m n less. items_below key i j less, λ key item. refl)

pub totals_items : HasItems Totals
totals_items = (λ key i j m n less. items_below key i j less, λ key item. refl)

items_in_order : (t : KeyedTable) → HasItems t → (key : List ℕ) (items : List (ℕ × ℕ)) → IsAscending (λ (a b : ℕ × ℕ). a.0 < b.0) items → AreInOrder t (map (item_row key) items)
items_in_order t has key items rise = record { whole = each items; rising = go items rise }
  where
    each : (items : List (ℕ × ℕ)) → AllByRecursion (IsWhole t) (map (item_row key) items)
    each [] = tt
    each (i ∷ items) = (has.1 key i, each items)

    over : (i : ℕ × ℕ) (items : List (ℕ × ℕ)) → AllByRecursion (λ (b : ℕ × ℕ). i.0 < b.0) items → AllByRecursion (IsBelow t (item_row key i)) (map (item_row key) items)
    over i [] h = tt
    over i (j ∷ items) h = (has.0 key i.0 j.0 i.1 j.1 h.0, over i items h.1)

    go : (items : List (ℕ × ℕ)) → IsAscending (λ (a b : ℕ × ℕ). a.0 < b.0) items → IsAscending (IsBelow t) (map (item_row key) items)
    go [] h = tt
    go (i ∷ items) h = (over i items h.0, go items h.1)

pub numbers_in_order : (t : KeyedTable) → HasItems t → (key ns : List ℕ) → AreInOrder t (map (item_row key) (numbers_with_places 1 ns))
numbers_in_order t has key ns = items_in_order t has key (numbers_with_places 1 ns) (numbered_rise 1 ns)

pub totals_in_order : (key : List ℕ) (c : VoteCounts) → length c.votes ≤ 60 → AreInOrder Totals (map (item_row key) (items_of c))
totals_in_order key c few = items_in_order Totals totals_items key (items_of c) (items_rise c few)

-- ---- numbers in the order of a map

numbers_same : (m n : ℕ) → value_cmp (Int (pos m)) (Int (pos n)) ≡ nat_cmp m n
numbers_same m n = value_cmp-Int (pos m) (pos n) ∙ go (nat_lt m n) (nat_lt n m) (m == n) refl refl refl
  where
    go : (a b c : Bool) → nat_lt m n ≡ a → nat_lt n m ≡ b → (m == n) ≡ c → cond a Less (cond b Greater Equal) ≡ cond a Less (cond c Equal Greater)
    go true b c p q r = refl
    go false true true p q r = absurd (omega (arith, ltb-true n m q, eqb-true m n r))
    go false true false p q r = refl
    go false false true p q r = refl
    go false false false p q r =
        let same : m ≡ n = omega (arith, ltb-false m n p, ltb-false n m q) in
        let e : true ≡ false = sym (eq-eqb m n same) ∙ r in
        absurd cc

is_less : (r : Ordering) → T (is_lt r) → r ≡ Less
is_less Less h = refl
is_less Equal h = absurd h
is_less Greater h = absurd h

left_of : (a b : Bool) → T (a && b) → T a
left_of true b h = tt
left_of false b h = h

right_of : (a b : Bool) → T (a && b) → T b
right_of true b h = h
right_of false b h = absurd h

module _ {K X : Type 0} (R : K → K → Ordering) where
  below_rise : (k : K) (es : List (K × X)) → T (below_all R k es) → AllByRecursion (λ e. R k e.0 ≡ Less) es
  below_rise k [] h = tt
  below_rise k (e ∷ es) h = (is_less (R k e.0) (left_of _ _ h), below_rise k es (right_of _ _ h))

  pub sorted_rise : (es : List (K × X)) → T (is_sorted R es) → IsAscending (λ a b. R a.0 b.0 ≡ Less) es
  sorted_rise [] h = tt
  sorted_rise (e ∷ es) h = (below_rise e.0 es (left_of _ _ h), sorted_rise es (right_of _ _ h))

-- ---- the candidates who are gone, by two places

pub gone_keyed : (key : List ℕ) (es : List (List ℕ × List ℕ)) → AllByRecursion (λ c. column c 0 ≡ Text key) (map (gone_row key) es)
gone_keyed key [] = tt
gone_keyed key (e ∷ es) = (refl, gone_keyed key es)

gone_below : (key : List ℕ) (a b : List ℕ × List ℕ) → IsUnderPlaces a → IsUnderPlaces b → text_cmp a.0 b.0 ≡ Less → IsBelow Gone (gone_row key a) (gone_row key b)
gone_below key a b a_is b_is less =
    let l = slice_index a.0 0 in
    let p = slice_index a.0 1 in
    let m = slice_index b.0 0 in
    let q = slice_index b.0 1 in
    let places : ordering_then (nat_cmp l m) (ordering_then (nat_cmp p q) Equal) ≡ Less = sym (ap₂ text_cmp a_is b_is) ∙ less in
    same_then (Text key) _ ∙ ap₂ (λ x y. ordering_then x (ordering_then y Equal)) (numbers_same l m) (numbers_same p q) ∙ places

pub gone_in_order : (key : List ℕ) (es : List (List ℕ × List ℕ)) → IsAscending (λ a b. text_cmp a.0 b.0 ≡ Less) es → AllByRecursion IsUnderPlaces es → AreInOrder Gone (map (gone_row key) es)
gone_in_order key es rise under = record { whole = each es; rising = go es rise under }
  where
    each : (es : List (List ℕ × List ℕ)) → AllByRecursion (IsWhole Gone) (map (gone_row key) es)
    each [] = tt
    each (e ∷ es) = (refl, each es)

    over : (a : List ℕ × List ℕ) (es : List (List ℕ × List ℕ)) → IsUnderPlaces a → AllByRecursion (λ b. text_cmp a.0 b.0 ≡ Less) es → AllByRecursion IsUnderPlaces es → AllByRecursion (IsBelow Gone (gone_row key a)) (map (gone_row key) es)
    over a [] own less under = tt
    over a (b ∷ es) own less under = (gone_below key a b own under.0 less.0, over a es own less.1 under.1)

    go : (es : List (List ℕ × List ℕ)) → IsAscending (λ a b. text_cmp a.0 b.0 ≡ Less) es → AllByRecursion IsUnderPlaces es → IsAscending (IsBelow Gone) (map (gone_row key) es)
    go [] rise under = tt
    go (e ∷ es) rise under = (over e es under.0 rise.0 under.1, go es rise.1 under.1)

-- ---- the certificates on record, by edition and list

record_keyed : (key : List ℕ) (edition : ℕ) (items : List (ℕ × ℕ)) → AllByRecursion (λ c. column c 0 ≡ Text key) (map (past_row key edition) items)
record_keyed key edition [] = tt
record_keyed key edition (i ∷ items) = (refl, record_keyed key edition items)

pub past_keyed : (key : List ℕ) (es : List (ℕ × List ℕ)) → AllByRecursion (λ c. column c 0 ≡ Text key) (flat_map (record_rows key) es)
past_keyed key [] = tt
past_keyed key (e ∷ es) = all-append (λ c. column c 0 ≡ Text key) (record_rows key e) (flat_map (record_rows key) es) (record_keyed key e.0 (numbers_with_places 1 e.1)) (past_keyed key es)

past_then : (key : List ℕ) (c d i j m n : ℕ) → value_cmp (Int (pos c)) (Int (pos d)) ≡ Less → IsBelow Past (past_row key c (i, m)) (past_row key d (j, n))
past_then key c d i j m n less = same_then (Text key) _ ∙ first_then (Int (pos c)) (Int (pos d)) _ less

past_same : (key : List ℕ) (c i j m n : ℕ) → i < j → IsBelow Past (past_row key c (i, m)) (past_row key c (j, n))
past_same key c i j m n less = same_then (Text key) _ ∙ same_then (Int (pos c)) _ ∙ first_then (Int (pos i)) (Int (pos j)) Equal (numbers_below i j less)

pub past_in_order : (key : List ℕ) (es : List (ℕ × List ℕ)) → IsAscending (λ a b. nat_cmp a.0 b.0 ≡ Less) es → AreInOrder Past (flat_map (record_rows key) es)
past_in_order key es rise = record { whole = each es; rising = go es rise }
  where
    each_of : (c : ℕ) (items : List (ℕ × ℕ)) → AllByRecursion (IsWhole Past) (map (past_row key c) items)
    each_of c [] = tt
    each_of c (i ∷ items) = (refl, each_of c items)

    each : (es : List (ℕ × List ℕ)) → AllByRecursion (IsWhole Past) (flat_map (record_rows key) es)
    each [] = tt
    each (e ∷ es) = all-append (IsWhole Past) (record_rows key e) (flat_map (record_rows key) es) (each_of e.0 (numbers_with_places 1 e.1)) (each es)

    over_items : (c d : ℕ) (i : ℕ × ℕ) (items : List (ℕ × ℕ)) → value_cmp (Int (pos c)) (Int (pos d)) ≡ Less → AllByRecursion (IsBelow Past (past_row key c i)) (map (past_row key d) items)
    over_items c d i [] less = tt
    over_items c d i (j ∷ items) less = (past_then key c d i.0 j.0 i.1 j.1 less, over_items c d i items less)

    over : (c : ℕ) (i : ℕ × ℕ) (es : List (ℕ × List ℕ)) → AllByRecursion (λ b. nat_cmp c b.0 ≡ Less) es → AllByRecursion (IsBelow Past (past_row key c i)) (flat_map (record_rows key) es)
    over c i [] less = tt
    over c i (e ∷ es) less =
        all-append (IsBelow Past (past_row key c i)) (record_rows key e) (flat_map (record_rows key) es)
        (over_items c e.0 i (numbers_with_places 1 e.1) (numbers_same c e.0 ∙ less.0)) (over c i es less.1)

    over_each : (c : ℕ) (items : List (ℕ × ℕ)) (es : List (ℕ × List ℕ)) → AllByRecursion (λ b. nat_cmp c b.0 ≡ Less) es
        → AllByRecursion (λ r. AllByRecursion (IsBelow Past r) (flat_map (record_rows key) es)) (map (past_row key c) items)
    over_each c [] es less = tt
    over_each c (i ∷ items) es less = (over c i es less, over_each c items es less)

    own_above : (c : ℕ) (i : ℕ × ℕ) (items : List (ℕ × ℕ)) → AllByRecursion (λ (j : ℕ × ℕ). i.0 < j.0) items → AllByRecursion (IsBelow Past (past_row key c i)) (map (past_row key c) items)
    own_above c i [] h = tt
    own_above c i (j ∷ items) h = (past_same key c i.0 j.0 i.1 j.1 h.0, own_above c i items h.1)

    own : (c : ℕ) (items : List (ℕ × ℕ)) → IsAscending (λ (a b : ℕ × ℕ). a.0 < b.0) items → IsAscending (IsBelow Past) (map (past_row key c) items)
    own c [] h = tt
    own c (i ∷ items) h = (own_above c i items h.0, own c items h.1)

    go : (es : List (ℕ × List ℕ)) → IsAscending (λ a b. nat_cmp a.0 b.0 ≡ Less) es → IsAscending (IsBelow Past) (flat_map (record_rows key) es)
    go [] rise = tt
    go (e ∷ es) rise =
        ascending-append (IsBelow Past) (record_rows key e) (flat_map (record_rows key) es) (own e.0 (numbers_with_places 1 e.1) (numbered_rise 1 e.1)) (go es rise.1)
        (over_each e.0 (numbers_with_places 1 e.1) es rise.0)
