-- The tables of the office without rows.
use Rattle.std.proofs.Common.{◌≡◌, [], subst, sym}
use Rattle.sqlite.specs.Effect.{IsDatabase}
use Rattle.sqlite.specs.State.{State as Seen}
use Rattle.tally_store_schema.specs.Rows.{HaveDistinctRowids}
use Rattle.tally_store_schema.specs.Made.{HasEmptyTables}
use Rattle.tally_store_schema.specs.Tables.{setup_tree}
use Rattle.tally_store_schema.specs.declared.table.KeyedTable.{KeyedTable}
use Rattle.tally_store_schema.specs.declared.table.KeyedTable.TheVariants.{Returns, Counts, Cons, Lots, Seats, Gone, Totals, Past}
use Rattle.tally_store_schema.specs.Office.{IsInside, tree_of}

pub setup_empty : (s : Seen) → HasEmptyTables 9 s → s.now.trees setup_tree ≡ []
setup_empty s h = h.empty.0

pub tree_empty : (s : Seen) → HasEmptyTables 9 s → (t : KeyedTable) → s.now.trees (tree_of t) ≡ []
tree_empty s h Returns = h.empty.1.0
tree_empty s h Counts = h.empty.1.1.0
tree_empty s h Cons = h.empty.1.1.1.0
tree_empty s h Lots = h.empty.1.1.1.1.0
tree_empty s h Seats = h.empty.1.1.1.1.1.0
tree_empty s h Gone = h.empty.1.1.1.1.1.1.0
tree_empty s h Totals = h.empty.1.1.1.1.1.1.1.0
tree_empty s h Past = h.empty.1.1.1.1.1.1.1.1.0

pub empty_inside : (s : Seen) → HasEmptyTables 9 s → IsDatabase s.now → IsInside s
empty_inside s h sound = record {
  schema = h.tables.schema;
  sound = sound;
  distinct = λ t. subst HaveDistinctRowids (sym (tree_empty s h t)) tt;
  inside = h.tables.inside;
}
