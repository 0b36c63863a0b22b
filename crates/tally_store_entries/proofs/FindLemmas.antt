-- The rows of the return of a station, as a SELECT finds them.
use Rattle.std.proofs.Common.{◌≡◌, ℕ, ℤ, T, ◌+◌, ◌<◌, ◌≤◌, pos, List, [], ◌∷◌, ◌++◌, map, filter, length, Option, None, Some, Ok, Err, Result, IfOk, IfSome, true, Less, Equal, refl, sym, ap, subst, ◌∙◌, arith, append-nil}
use Rattle.std.specs.Prelude.{◌<ℤ◌}
use Rattle.std.specs.FinMap.{get}
use Rattle.std.specs.Option.{option_to_list}
use Rattle.std.specs.List.{AllByRecursion, flat_map}
use Rattle.std.specs.List.Sorted.{IsPermutation}
use Rattle.std.specs.Ordering.{ordering_then}
use Rattle.std.proofs.lemmas.Bool.{lt-ltb}
use Rattle.std.proofs.lemmas.Cmp.{tied_itself}
use Rattle.sqlite_keyed.proofs.KeyedLemmas.{Less-from_lt}
use Rattle.sqlite_value.specs.declared.value.Value.TheVariants.{Int, Text}
use Rattle.sqlite_value.specs.Order.{Row, value_cmp, row_cmp}
use Rattle.sqlite_value.proofs.OrderLemmas.{value_cmp-Int, value_cmp_total}
use Rattle.sqlite_trees.specs.Tree.{IsAscending}
use Rattle.sqlite_keyed.proofs.ListLemmas.{all-append, all_weaker, ascending-append, ascending-map, ascending_weaker}
use Rattle.sqlite.specs.declared.error.Error.{Error}
use Rattle.sqlite.specs.Effect.{IsDatabase}
use Rattle.sqlite.specs.State.{State, IsUnchanged}
use Rattle.tally_store_schema.specs.Rows.{cells, has_key, HaveDistinctRowids}
use Rattle.tally_store_schema.proofs.RowsLemmas.{rows_of_key}
use Rattle.tally_setup.specs.Code.{is_code}
use Rattle.tally_setup.specs.Constituency.{Constituency}
use Rattle.tally_returns.specs.Counts.{VoteCounts}
use Rattle.tally_returns.specs.Return.{StationReturn, Returns as StationReturns}
use Rattle.tally_store_schema.specs.declared.table.KeyedTable.{KeyedTable}
use Rattle.tally_store_schema.specs.declared.table.KeyedTable.TheVariants.{Returns, Counts}
use Rattle.tally_store_schema.specs.Office.{tree_of, rows_in, key_cells, all_cells, AreInOrder, IsFound, IsInside}
use Rattle.tally_store_rows.specs.Cells.{item_row, items_of, numbers_with_places, spoiled_item, return_rows, count_rows}
use Rattle.tally_returns.specs.Lawful.{IsLawfulAt}
use Rattle.tally_store_rows.specs.Reading.{entries_in}
use Rattle.tally_store_rows.proofs.EntryLemmas.{entries_again}
use Rattle.tally_store_rows.proofs.LawfulLemmas.{lawful_is_placed}
use Rattle.tally_store_entries.specs.internal.Entries.{AreReturnsIn, FindsReturn, stored_in}
use Rattle.tally_store_entries.proofs.ReturnLemmas.{heads_keyed, counts_keyed}

-- ---- the items of counts rise

pub all_above : (m first : ℕ) (ns : List ℕ) → m < first → AllByRecursion (λ (b : ℕ × ℕ). m < b.0) (numbers_with_places first ns)
all_above m first [] h = tt
all_above m first (n ∷ ns) h = (h, all_above m (first + 1) ns (omega (arith, h)))

pub all_below : (m first : ℕ) (ns : List ℕ) → first + length ns ≤ m → AllByRecursion (λ (b : ℕ × ℕ). b.0 < m) (numbers_with_places first ns)
all_below m first [] h = tt
all_below m first (n ∷ ns) h = (omega (arith, h), all_below m (first + 1) ns (omega (arith, h)))

pub numbered_rise : (first : ℕ) (ns : List ℕ) → IsAscending (λ (a b : ℕ × ℕ). a.0 < b.0) (numbers_with_places first ns)
numbered_rise first [] = tt
numbered_rise first (n ∷ ns) = (all_above first (first + 1) ns (omega arith), numbered_rise (first + 1) ns)

pub items_rise : (c : VoteCounts) → length c.votes ≤ 60 → IsAscending (λ (a b : ℕ × ℕ). a.0 < b.0) (items_of c)
items_rise c few =
    let last : List (ℕ × ℕ) = (spoiled_item, c.spoiled) ∷ [] in
    let low = all_below spoiled_item 1 c.votes (omega (arith, few)) in (
      all-append (λ (b : ℕ × ℕ). 0 < b.0) (numbers_with_places 1 c.votes) last (all_above 0 1 c.votes (omega arith)) (omega arith, tt),
      ascending-append (λ (a b : ℕ × ℕ). a.0 < b.0) (numbers_with_places 1 c.votes) last (numbered_rise 1 c.votes) (tt, tt)
          (all_weaker _ (λ (a : ℕ × ℕ). AllByRecursion (λ (b : ℕ × ℕ). a.0 < b.0) last) (λ a h. (h, tt)) (numbers_with_places 1 c.votes) low),
    )

pub int_less : (m n : ℤ) → m <ℤ n → value_cmp (Int m) (Int n) ≡ Less
int_less m n h = value_cmp-Int m n ∙ Less-from_lt m n h

row_less : (key : List ℕ) (a b : ℕ × ℕ) → a.0 < b.0 → row_cmp (key_cells Counts (item_row key a)) (key_cells Counts (item_row key b)) ≡ Less
row_less key a b h =
    ap (λ o. ordering_then (value_cmp (Text key) (Text key)) (ordering_then o Equal)) (int_less (pos a.0) (pos b.0) (record { lt = subst T (sym (lt-ltb a.0 b.0 h)) tt }))
    ∙ ap (λ o. ordering_then o (ordering_then Less Equal)) (tied_itself value_cmp_total (Text key))

whole_items : (key : List ℕ) (items : List (ℕ × ℕ)) → AllByRecursion (λ r. all_cells Counts r ≡ r) (map (item_row key) items)
whole_items key [] = tt
whole_items key (i ∷ items) = (refl, whole_items key items)

counts_in_order : (e : List ℕ × StationReturn) → length e.1.counts.votes ≤ 60 → AreInOrder Counts (count_rows e)
counts_in_order e few = record {
  whole = whole_items e.0 (items_of e.1.counts);
  rising = ascending-map (λ a b. row_cmp (key_cells Counts a) (key_cells Counts b) ≡ Less) (item_row e.0) (items_of e.1.counts)
      (ascending_weaker _ (λ (a b : ℕ × ℕ). row_cmp (key_cells Counts (item_row e.0 a)) (key_cells Counts (item_row e.0 b)) ≡ Less) (row_less e.0) (items_of e.1.counts) (items_rise e.1.counts few));
}

-- ---- the rows that are found

abbrev entry_list : List ℕ → Option StationReturn → List (List ℕ × StationReturn)
entry_list station found = map (λ r. (station, r)) (option_to_list found)

module _ (setup : List Constituency) (returns : StationReturns) (station : List ℕ) (s : State) (held : AreReturnsIn setup returns s) where
  heads_are : (o : Option StationReturn) (heads : List Row) → get returns station ≡ o → IsFound Returns station s heads → heads ≡ flat_map (return_rows setup) (entry_list station o)
  heads_are None heads is found =
      found [] (record { whole = tt; rising = tt }) (subst (λ o. IsPermutation (flat_map (return_rows setup) (entry_list station o)) (filter (has_key station) (rows_in Returns s))) is (rows_of_key (return_rows setup) (heads_keyed setup) returns station (stored_in Returns s) held.heads))
  heads_are (Some r) heads is found =
      found (return_rows setup (station, r)) (record { whole = (refl, tt); rising = (tt, tt) }) (subst (λ o. IsPermutation (flat_map (return_rows setup) (entry_list station o)) (filter (has_key station) (rows_in Returns s))) is (rows_of_key (return_rows setup) (heads_keyed setup) returns station (stored_in Returns s) held.heads))

  counts_are : (o : Option StationReturn) (counts : List Row) → get returns station ≡ o → IfSome o (λ r. length r.counts.votes ≤ 60) → IsFound Counts station s counts → counts ≡ flat_map count_rows (entry_list station o)
  counts_are None counts is few found =
      found [] (record { whole = tt; rising = tt }) (subst (λ o. IsPermutation (flat_map count_rows (entry_list station o)) (filter (has_key station) (rows_in Counts s))) is (rows_of_key count_rows counts_keyed returns station (stored_in Counts s) held.counts))
  counts_are (Some r) counts is few found =
      let all : IsPermutation (count_rows (station, r) ++ []) (filter (has_key station) (rows_in Counts s)) = subst (λ o. IsPermutation (flat_map count_rows (entry_list station o)) (filter (has_key station) (rows_in Counts s))) is (rows_of_key count_rows counts_keyed returns station (stored_in Counts s) held.counts) in
      found (count_rows (station, r)) (counts_in_order (station, r) few) (subst (λ l. IsPermutation l (filter (has_key station) (rows_in Counts s))) (append-nil (count_rows (station, r))) all) ∙ sym (append-nil (count_rows (station, r)))

found_is : (setup : List Constituency) (station : List ℕ) (s : State) (heads counts : List Row) (found : Option StationReturn) → is_code station ≡ true → IsFound Returns station s heads → IsFound Counts station s counts
    → (entries_in setup heads counts ≡ Some [] → found ≡ None) → ((e : List ℕ × StationReturn) → entries_in setup heads counts ≡ Some (e ∷ []) → found ≡ Some e.1) → FindsReturn setup station s found
found_is setup station s heads counts found code with_heads with_counts none one returns held lawful = go (get returns station) refl lawful
  where
    go : (o : Option StationReturn) → get returns station ≡ o → IfSome o (λ standing. IsLawfulAt setup station standing × (length standing.counts.votes ≤ 60)) → found ≡ o
    go None is fine = none (rw (heads_are setup returns station s held None heads is with_heads, counts_are setup returns station s held None counts is tt with_counts))
    go (Some r) is fine =
        let own = heads_are setup returns station s held (Some r) heads is with_heads in
        let numbers = counts_are setup returns station s held (Some r) counts is fine.1 with_counts in
        let placed = lawful_is_placed setup (station, r) fine.0.0 code fine.0.1 fine.0.2 in
        one (station, r) ((λ i. entries_in setup (own i) (numbers i)) ∙ entries_again setup ((station, r) ∷ []) (placed, tt))

pub finds_return : (setup : List Constituency) (station : List ℕ) (s : State) (heads counts : List Row) (result : Result (Option StationReturn) Error) → is_code station ≡ true → IsFound Returns station s heads → IsFound Counts station s counts
    → (entries_in setup heads counts ≡ Some [] → IfOk result (λ found. found ≡ None)) → ((e : List ℕ × StationReturn) → entries_in setup heads counts ≡ Some (e ∷ []) → IfOk result (λ found. found ≡ Some e.1)) → IfOk result (FindsReturn setup station s)
finds_return setup station s heads counts (Err e) code with_heads with_counts none one = tt
finds_return setup station s heads counts (Ok found) code with_heads with_counts none one = found_is setup station s heads counts found code with_heads with_counts none one

-- a station without a row of `returns` has no return
pub finds_none : (setup : List Constituency) (station : List ℕ) (s : State) (heads : List Row) → length heads ≡ 0 → IsFound Returns station s heads → FindsReturn setup station s None
finds_none setup station s heads none with_heads returns held lawful = go (get returns station) refl
  where
    go : (o : Option StationReturn) → get returns station ≡ o → None ≡ o
    go None is = refl
    go (Some r) is =
        let one : length heads ≡ 1 = ap length (heads_are setup returns station s held (Some r) heads is with_heads) in
        absurd (omega (arith, none, one))

-- ---- what a look-up leaves

pub inside_still : (old new : State) → IsUnchanged old new → IsInside old → IsInside new
inside_still old new same inside = record {
  schema = ap (λ d. d.schema) same.0.now_is ∙ inside.schema;
  sound = subst IsDatabase (sym same.0.now_is) inside.sound;
  distinct = λ t. subst (λ d. HaveDistinctRowids (d.trees (tree_of t))) (sym same.0.now_is) (inside.distinct t);
  inside = same.0.mode ∙ inside.inside;
}

pub found_before : (t : KeyedTable) (key : List ℕ) (old new : State) (answer : List Row) → IsUnchanged old new → IsFound t key new answer → IsFound t key old answer
found_before t key old new answer same found rows order perm = found rows order (subst (λ d. IsPermutation rows (filter (has_key key) (cells (d.trees (tree_of t))))) (sym same.0.now_is) perm)
