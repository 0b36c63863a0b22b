-- The return of a station in its two tables.
use Rattle.std.proofs.Common.{◌≡◌, ◌≢◌, ℕ, List, [], ◌∷◌, ◌++◌, map, filter, None, Some, refl, sym, ap, subst, ◌∙◌, arith}
use Rattle.std.specs.FinMap.{get, insert}
use Rattle.std.specs.Option.{option_to_list}
use Rattle.std.specs.List.{AllByRecursion, flat_map}
use Rattle.std.specs.List.Sorted.{IsPermutation}
use Rattle.sqlite_value.specs.declared.value.Value.TheVariants.{Text}
use Rattle.sqlite_value.specs.Order.{Row, column}
use Rattle.sqlite.specs.State.{State}
use Rattle.sqlite.proofs.Callers.{one_permutation}
use Rattle.tally_store_schema.specs.Rows.{cells, has_key, others, AreRowsOf}
use Rattle.tally_store_schema.proofs.RowsLemmas.{AreKeyedBy, add_rows, put_rows, same_rows, rows_of_key}
use Rattle.tally_setup.specs.Constituency.{Constituency}
use Rattle.tally_returns.specs.Return.{StationReturn, Returns as StationReturns}
use Rattle.tally_store_schema.specs.declared.table.KeyedTable.TheVariants.{Returns, Counts}
use Rattle.tally_store_schema.specs.Office.{tree_of, rows_in, HasRows}
use Rattle.tally_store_rows.specs.Cells.{item_row, items_of, return_row, return_rows, count_rows, constituency_of}
use Rattle.tally_store_entries.specs.internal.Entries.{AreReturnsIn, PutsReturn, stored_in}
use Rattle.tally_store_entries.specs.internal.Written.{Adds}

pub heads_keyed : (setup : List Constituency) → AreKeyedBy (return_rows setup)
heads_keyed setup e = (refl, tt)

pub items_keyed : (key : List ℕ) (items : List (ℕ × ℕ)) → AllByRecursion (λ c. column c 0 ≡ Text key) (map (item_row key) items)
items_keyed key [] = tt
items_keyed key (i ∷ items) = (refl, items_keyed key items)

pub counts_keyed : AreKeyedBy count_rows
counts_keyed e = items_keyed e.0 (items_of e.1.counts)

pub counts_apart : tree_of Counts ≢ tree_of Returns
counts_apart e = omega arith

pub heads_apart : tree_of Returns ≢ tree_of Counts
heads_apart e = omega arith

pub return_added : (con station : List ℕ) (standing : StationReturn) (old mid new : State) → Adds Returns (return_row con (station, standing) ∷ []) old mid → Adds Counts (map (item_row station) (items_of standing.counts)) mid new
    → (setup : List Constituency) (returns : StationReturns) → constituency_of setup station ≡ con → get returns station ≡ None → AreReturnsIn setup returns old → PutsReturn setup returns station standing old new
return_added con station standing old mid new head counts setup returns is none held =
    let own : return_rows setup (station, standing) ≡ return_row con (station, standing) ∷ [] = ap (λ c. return_row c (station, standing) ∷ []) is in
    let added : IsPermutation (return_rows setup (station, standing) ++ cells (stored_in Returns old)) (cells (stored_in Returns mid)) = subst (λ l. IsPermutation (l ++ cells (stored_in Returns old)) (cells (stored_in Returns mid))) (sym own) head.rows in
    let same : stored_in Counts mid ≡ stored_in Counts old = head.others Counts counts_apart in
    record {
      inside = counts.inside;
      returns_are = record {
        heads = subst (AreRowsOf (return_rows setup) (insert returns station standing)) (sym (counts.others Returns heads_apart)) (add_rows (return_rows setup) (heads_keyed setup) returns station standing (stored_in Returns old) (stored_in Returns mid) none held.heads added);
        counts = add_rows count_rows counts_keyed returns station standing (stored_in Counts old) (stored_in Counts new) none held.counts (subst (λ rows. IsPermutation (count_rows (station, standing) ++ cells rows) (cells (stored_in Counts new))) same counts.rows);
      };
      others = λ u apart apart_too. counts.others u apart_too ∙ head.others u apart;
      setup_is = counts.setup ∙ head.setup;
    }

-- the one row of a return
pub only_head : (setup : List Constituency) (returns : StationReturns) (station : List ℕ) (before : StationReturn) (rows : List Row) → get returns station ≡ Some before → AreRowsOf (return_rows setup) returns rows
    → filter (has_key station) (cells rows) ≡ return_row (constituency_of setup station) (station, before) ∷ []
only_head setup returns station before rows is held =
    one_permutation (return_row (constituency_of setup station) (station, before)) (filter (has_key station) (cells rows))
    (subst (λ o. IsPermutation (flat_map (return_rows setup) (map (λ v. (station, v)) (option_to_list o))) (filter (has_key station) (cells rows))) is (rows_of_key (return_rows setup) (heads_keyed setup) returns station rows held))

pub return_changed : (setup : List Constituency) (returns : StationReturns) (station : List ℕ) (before standing : StationReturn) (old new : State) → get returns station ≡ Some before → before.counts ≡ standing.counts → AreReturnsIn setup returns old
    → HasRows Returns (return_row (constituency_of setup station) (station, standing) ∷ others station (rows_in Returns old)) old new → PutsReturn setup returns station standing old new
return_changed setup returns station before standing old new is same held put = record {
  inside = put.inside;
  returns_are = record {
    heads = put_rows (return_rows setup) (heads_keyed setup) returns station standing (stored_in Returns old) (stored_in Returns new) held.heads put.rows;
    counts = subst (AreRowsOf count_rows (insert returns station standing)) (sym (put.others Counts counts_apart)) (same_rows count_rows counts_keyed returns station before standing (stored_in Counts old) is (ap (λ c. map (item_row station) (items_of c)) (sym same)) held.counts);
  };
  others = λ u apart apart_too. put.others u apart;
  setup_is = put.setup;
}
