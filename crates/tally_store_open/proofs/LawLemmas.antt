-- The rowids of tables differ, by the order that the trees of a store have.
use Rattle.std.proofs.Common.{◌≡◌, ◌∙◌, ℕ, List, [], ◌∷◌, false, IsTrue, Less, ap, refl, subst}
use Rattle.std.specs.List.{AllByRecursion}
use Rattle.std.specs.Ordering.{is_eq}
use Rattle.std.specs.Cmp.{eq_by_cmp_equiv}
use Rattle.std.proofs.lemmas.Bool.{or_from}
use Rattle.sqlite_value.specs.Order.{Row, value_cmp}
use Rattle.sqlite_value.proofs.OrderLemmas.{value_cmp_total}
use Rattle.sqlite_trees.specs.Tree.{IsTable, rowid}
use Rattle.sqlite_trees.specs.View.{IsOrdered, IsShaped, View, is_int}
use Rattle.sqlite_trees.specs.Objects.{IsListed, catalog_tree}
use Rattle.sqlite_trees.specs.declared.store.Shape.{Shape}
use Rattle.sqlite_trees.specs.declared.store.Shape.TheVariants.{Table}
use Rattle.sqlite_rules.specs.Edit.{is_taken}
use Rattle.sqlite_schema.specs.declared.schema.Schema.{Schema}
use Rattle.sqlite_schema.specs.Rules.{IsLaidOut}
use Rattle.sqlite_catalog.specs.Listing.{AreListed, IsSound}
use Rattle.sqlite_catalog.proofs.LayoutLemmas.{laid_out, objects_rise}
use Rattle.tally_store_schema.specs.Rows.{HaveDistinctRowids}
use Rattle.tally_store_schema.specs.Tables.{former_schema, office_schema}
use Rattle.tally_store_schema.specs.Office.{tree_of}
use Rattle.tally_store_schema.specs.declared.table.KeyedTable.{KeyedTable}
use Rattle.tally_store_schema.specs.declared.table.KeyedTable.TheVariants.{Returns, Counts, Cons, Lots, Seats, Gone, Totals, Past}
use Rattle.tally_store_open.specs.Open.{tables_taken_over}

free : (r : Row) (rows : List Row) → AllByRecursion (λ x. value_cmp (rowid r) (rowid x) ≡ Less) rows → is_taken rows r ≡ false
free r [] h = refl
free r (x ∷ rows) h = or_from _ _ ((eq_by_cmp_equiv value_cmp_total).symm (rowid x) (rowid r) ∙ ap is_eq h.0) (free r rows h.1)

-- rowids that rise differ
distinct_rising : (rows : List Row) → IsTable rows → AllByRecursion (λ r. IsTrue (is_int (rowid r))) rows → HaveDistinctRowids rows
distinct_rising [] h k = tt
distinct_rising (r ∷ rows) h k = (k.0, free r rows h.0, distinct_rising rows h.1 k.1)

-- The trees of a store that is not broken, where they are those of a schema.
module _ (v : View) (schema : Schema) (sound : IsSound schema v.trees) (listed : IsListed (v.trees catalog_tree) v.shape v.reals) (ordered : IsOrdered v.shape v.trees) where
  laid_as : (known : Schema) → schema ≡ known → IsLaidOut known v.shape
  laid_as known is = laid_out listed (objects_rise v listed ordered) (subst (AreListed (v.trees catalog_tree)) is sound.lists.listed)

  of_table : (tree : ℕ) → v.shape tree ≡ Table → HaveDistinctRowids (v.trees tree)
  of_table tree is =
      let shaped : IsShaped Table (v.trees tree) = subst (λ (s : Shape). IsShaped s (v.trees tree)) is (ordered tree) in
      distinct_rising (v.trees tree) shaped.0 shaped.1

  pub today_by_law : schema ≡ office_schema → (t : KeyedTable) → HaveDistinctRowids (v.trees (tree_of t))
  today_by_law is t = of_table (tree_of t) (each t)
    where
      tables : AllByRecursion (λ t. v.shape t.tree ≡ Table) office_schema.tables
      tables = (laid_as office_schema is).tables

      each : (t : KeyedTable) → v.shape (tree_of t) ≡ Table
      each Returns = tables.1.0
      each Counts = tables.1.1.0
      each Cons = tables.1.1.1.0
      each Lots = tables.1.1.1.1.0
      each Seats = tables.1.1.1.1.1.0
      each Gone = tables.1.1.1.1.1.1.0
      each Totals = tables.1.1.1.1.1.1.1.0
      each Past = tables.1.1.1.1.1.1.1.1.0

  pub former_by_law : schema ≡ former_schema → (text : List ℕ) (t : KeyedTable) → HaveDistinctRowids (tables_taken_over text v.trees (tree_of t))
  former_by_law is text = each
    where
      tables : AllByRecursion (λ t. v.shape t.tree ≡ Table) former_schema.tables
      tables = (laid_as former_schema is).tables

      each : (t : KeyedTable) → HaveDistinctRowids (tables_taken_over text v.trees (tree_of t))
      each Returns = of_table _ tables.1.0
      each Counts = of_table _ tables.1.1.0
      each Cons = of_table _ tables.1.1.1.0
      each Lots = of_table _ tables.1.1.1.1.0
      each Seats = of_table _ tables.1.1.1.1.1.0
      each Gone = of_table _ tables.1.1.1.1.1.1.0
      each Totals = of_table _ tables.1.1.1.1.1.1.1.0
      each Past = tt
