-- What is found of a constituency is what its entry has.
use Rattle.std.proofs.Common.{◌≡◌, ℕ, Bool, true, false, List, [], ◌∷◌, ◌++◌, map, filter, Option, None, Some, Ok, Err, Result, IfOk, refl, sym, ap, subst, ◌∙◌, arith, append-nil}
use Rattle.std.specs.Prelude.{IsSome}
use Rattle.std.specs.FinMap.{FinMap, get}
use Rattle.std.specs.Option.{option_to_list}
use Rattle.std.specs.List.{AllByRecursion, flat_map}
use Rattle.std.specs.List.Sorted.{IsPermutation}
use Rattle.sqlite_value.specs.Order.{Row}
use Rattle.sqlite.specs.declared.error.Error.{Error}
use Rattle.sqlite.specs.State.{State}
use Rattle.tally_store_schema.specs.Values.{wide_number_of}
use Rattle.tally_store_schema.specs.Rows.{text_cmp, has_key, AreRowsOf}
use Rattle.tally_store_schema.proofs.RowsLemmas.{AreKeyedBy, rows_of_key}
use Rattle.tally_returns.specs.Counts.{VoteCounts}
use Rattle.tally_returns.specs.State.{ConState}
use Rattle.tally_store_schema.specs.Cells.{flag}
use Rattle.tally_store_schema.specs.declared.table.KeyedTable.{KeyedTable}
use Rattle.tally_store_schema.specs.declared.table.KeyedTable.TheVariants.{Cons, Totals}
use Rattle.tally_store_schema.specs.Office.{AreInOrder, IsFound, rows_in}
use Rattle.tally_store_rows.specs.Cells.{con_rows, item_row, items_of, total_rows, totals_of}
use Rattle.tally_store_rows.specs.Reading.{standing_of, sums_of}
use Rattle.tally_store_rows.proofs.ConLemmas.{standing_is, standing_row}
use Rattle.tally_store_rows.proofs.EntryLemmas.{AreRead, counts_again}
use Rattle.tally_store_rows.proofs.ItemLemmas.{IsRead, map_some}
use Rattle.tally_store_entries.specs.internal.Constituencies.{FindsCertified, FindsSums}
use Rattle.tally_store_entries.specs.internal.Entries.{stored_in}
use Rattle.tally_store_entries.specs.internal.Found.{certified_in}
use Rattle.tally_store_entries.proofs.OrderLemmas.{totals_in_order}
use Rattle.tally_store_entries.proofs.ReturnLemmas.{items_keyed}

-- ---- the rows of an entry

module _ {X : Type 0} (t : KeyedTable) (rows_of : List ℕ × X → List Row) (keyed : AreKeyedBy rows_of) (m : FinMap text_cmp X) (key : List ℕ) (s : State) (answer : List Row) where
  pub found_rows : (x : X) → get m key ≡ Some x → AreRowsOf rows_of m (stored_in t s) → AreInOrder t (rows_of (key, x)) → IsFound t key s answer → answer ≡ rows_of (key, x)
  found_rows x is held order found =
      let all : IsPermutation (rows_of (key, x) ++ []) (filter (has_key key) (rows_in t s)) =
      subst (λ o. IsPermutation (flat_map rows_of (map (λ v. (key, v)) (option_to_list o))) (filter (has_key key) (rows_in t s))) is (rows_of_key rows_of keyed m key (stored_in t s) held) in
      found (rows_of (key, x)) order (subst (λ l. IsPermutation l (filter (has_key key) (rows_in t s))) (append-nil (rows_of (key, x))) all)

  pub found_none : get m key ≡ None → AreRowsOf rows_of m (stored_in t s) → IsFound t key s answer → answer ≡ []
  found_none is held found =
      found [] (record { whole = tt; rising = tt }) (subst (λ o. IsPermutation (flat_map rows_of (map (λ v. (key, v)) (option_to_list o))) (filter (has_key key) (rows_in t s))) is (rows_of_key rows_of keyed m key (stored_in t s) held))

pub cons_keyed : AreKeyedBy con_rows
cons_keyed e = (refl, tt)

-- ---- whether it is certified

same_flag : (a b : Bool) → flag a ≡ flag b → a ≡ b
same_flag true true h = refl
same_flag true false h = absurd (omega (arith, h))
same_flag false true h = absurd (omega (arith, h))
same_flag false false h = refl

pub con_row_is : (con : List ℕ) (c : ConState) (s : ℕ × Bool × List ℕ) (row : Row) → row ∷ [] ≡ con_rows (con, c) → standing_of con row ≡ Some s → (s.0 ≡ c.edition) × (s.1 ≡ c.certified) × (s.2 ≡ c.note)
con_row_is con c s row is read =
    let same : row ≡ standing_row con s = standing_is con row s read in
    let own : row ≡ standing_row con (c.edition, c.certified, c.note) = (let e = is in cc) in
    let both : standing_row con s ≡ standing_row con (c.edition, c.certified, c.note) = sym same ∙ own in
    let flags : flag s.1 ≡ flag c.certified = (let e = both in cc) in
    ((let e = both in cc), same_flag s.1 c.certified flags, (let e = both in cc))

certified_one : (con : List ℕ) (c : ConState) (rows : List Row) (found : Bool) → rows ≡ con_rows (con, c) → certified_in con rows ≡ Some found → found ≡ c.certified
certified_one con c [] found is read = absurd (let e = is in cc)
certified_one con c (row ∷ []) found is read =
    let standing = map_some (λ (s : ℕ × Bool × List ℕ). s.1) (standing_of con row) found read in
    sym standing.2 ∙ (con_row_is con c standing.0 row is standing.1).1
certified_one con c (row ∷ other ∷ rows) found is read = absurd (let e = is in cc)

certified_is : (con : List ℕ) (s : State) (rows : List Row) (found : Bool) → IsFound Cons con s rows → certified_in con rows ≡ Some found → FindsCertified con s found
certified_is con s rows found looked read cons standing is held = certified_one con standing rows found (found_rows Cons con_rows cons_keyed cons con s rows standing is held (record { whole = (refl, tt); rising = (tt, tt) }) looked) read

pub finds_certified : (con : List ℕ) (s : State) (rows : List Row) (result : Result Bool Error) → IsFound Cons con s rows → IfOk result (λ found. certified_in con rows ≡ Some found) → IfOk result (FindsCertified con s)
finds_certified con s rows (Err e) looked read = tt
finds_certified con s rows (Ok found) looked read = certified_is con s rows found looked read

-- ---- its sums

wide_again : (c : VoteCounts) → AreRead wide_number_of c
wide_again c = record { votes = all c.votes; blank = refl; spoiled = refl }
  where
    all : (ns : List ℕ) → AllByRecursion (IsRead wide_number_of) ns
    all [] = tt
    all (n ∷ ns) = (refl, all ns)

pub one_sums : (con : List ℕ) (a b : VoteCounts) (rows : List Row) → rows ≡ map (item_row con) (items_of b) → sums_of con rows ≡ Some a → a ≡ b
one_sums con a b rows is read = let both : Some a ≡ Some b = sym read ∙ ap (sums_of con) is ∙ counts_again wide_number_of con b (wide_again b) in (let e = both in cc)

sums_is : (con : List ℕ) (s : State) (rows : List Row) (found : VoteCounts) → IsFound Totals con s rows → sums_of con rows ≡ Some found → FindsSums con s found
sums_is con s rows found looked read setup returns cons some few held = go (get cons con) refl some
  where
    go : (o : Option ConState) → get cons con ≡ o → IsSome o → found ≡ totals_of setup returns con
    go None is none = absurd (let e = none in cc)
    go (Some c) is there =
        let sums = totals_of setup returns con in
        one_sums con found sums rows (found_rows Totals (total_rows setup returns) (λ e. items_keyed e.0 (items_of (totals_of setup returns e.0))) cons con s rows c is held (totals_in_order con sums few) looked) read

pub finds_sums : (con : List ℕ) (s : State) (rows : List Row) (result : Result VoteCounts Error) → IsFound Totals con s rows → IfOk result (λ found. sums_of con rows ≡ Some found) → IfOk result (FindsSums con s)
finds_sums con s rows (Err e) looked read = tt
finds_sums con s rows (Ok found) looked read = sums_is con s rows found looked read
