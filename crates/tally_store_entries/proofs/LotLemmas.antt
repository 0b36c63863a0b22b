-- The numbers of a constituency in place of those it had.
use Rattle.std.proofs.Common.{◌≡◌, ℕ, List, ◌++◌, map, sym, subst, ◌∙◌}
use Rattle.std.specs.FinMap.{FinMap, insert}
use Rattle.std.specs.List.Sorted.{IsPermutation}
use Rattle.std.proofs.lemmas.List.Sorted.{IsPermutation-trans, IsPermutation-append_right}
use Rattle.sqlite_value.specs.Order.{Row}
use Rattle.sqlite.specs.State.{State}
use Rattle.tally_store_schema.specs.Rows.{others, AreRowsOf}
use Rattle.tally_store_schema.proofs.RowsLemmas.{AreKeyedBy, put_rows}
use Rattle.tally_setup.specs.Code.{code_cmp}
use Rattle.tally_returns.specs.State.{ConState}
use Rattle.tally_store_schema.specs.declared.table.KeyedTable.{KeyedTable}
use Rattle.tally_store_schema.specs.declared.table.KeyedTable.TheVariants.{Lots}
use Rattle.tally_store_schema.specs.Office.{rows_in, HasRows}
use Rattle.tally_store_rows.specs.Cells.{item_row, numbers_with_places, lot_rows}
use Rattle.tally_store_entries.specs.internal.Entries.{stored_in}
use Rattle.tally_store_entries.specs.internal.Written.{Adds}
use Rattle.tally_store_entries.proofs.ReturnLemmas.{items_keyed}

pub added_beside : (t : KeyedTable) (rows rest : List Row) (old mid new : State) → HasRows t rest old mid → Adds t rows mid new → HasRows t (rows ++ rest) old new
added_beside t rows rest old mid new was now = record {
  inside = now.inside;
  rows = IsPermutation-trans _ _ _ (IsPermutation-append_right rows _ _ was.rows) now.rows;
  others = λ u apart. now.others u apart ∙ was.others u apart;
  setup = now.setup ∙ was.setup;
}

lots_keyed : AreKeyedBy lot_rows
lots_keyed e = items_keyed e.0 (numbers_with_places 1 e.1.lot)

pub lot_put : (con lot : List ℕ) (cons : FinMap code_cmp ConState) (standing : ConState) (old new : State) → standing.lot ≡ lot → AreRowsOf lot_rows cons (stored_in Lots old)
    → HasRows Lots (map (item_row con) (numbers_with_places 1 lot) ++ others con (rows_in Lots old)) old new → AreRowsOf lot_rows (insert cons con standing) (stored_in Lots new)
lot_put con lot cons standing old new is held put =
    put_rows lot_rows lots_keyed cons con standing (stored_in Lots old) (stored_in Lots new) held (subst (λ l. IsPermutation (map (item_row con) (numbers_with_places 1 l) ++ others con (rows_in Lots old)) (rows_in Lots new)) (sym is) put.rows)
