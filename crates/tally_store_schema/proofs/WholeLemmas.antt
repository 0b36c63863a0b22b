-- What the SELECTs of whole tables answer.
use Rattle.std.proofs.Common.{◌≡◌, Some, ℕ, List, [], ◌∷◌, None, map, drop, filter, true, false, Less, refl, sym, ap, ap₂, subst, ◌∙◌}
use Rattle.std.specs.List.{AllByRecursion}
use Rattle.std.specs.List.Sorted.{IsPermutation}
use Rattle.std.proofs.lemmas.Bool.{and_parts}
use Rattle.sqlite_value.specs.declared.value.Value.TheVariants.{Null}
use Rattle.sqlite_value.specs.declared.keys.Key.{Key}
use Rattle.sqlite_value.specs.Order.{Row}
use Rattle.sqlite_trees.specs.Tree.{Trees}
use Rattle.sqlite_sql.specs.Term.{Term}
use Rattle.sqlite_sql.specs.Query.{IsAnswer, output_cmp}
use Rattle.sqlite_sql.specs.Program.{overlay}
use Rattle.sqlite_schema.specs.declared.command.Command.{Command}
use Rattle.sqlite_schema.specs.declared.command.Command.TheVariants.{Select}
use Rattle.sqlite_schema.specs.declared.schema.Column.{Column}
use Rattle.sqlite_schema.specs.declared.schema.Schema.{Schema}
use Rattle.sqlite_schema.specs.declared.schema.Table.{Table}
use Rattle.sqlite_schema.specs.declared.schema.Constraint.TheVariants.{Datatype, NotNull}
use Rattle.sqlite_schema.specs.Rules.{Keeps, passes, are_typed, has_computed}
use Rattle.sqlite_resolve.specs.Compile.{compiled}
use Rattle.sqlite.specs.Effect.{IsDatabase, Database}
use Rattle.sqlite.specs.Listing.{reads_listing}
use Rattle.sqlite.specs.State.{State, Shown}
use Rattle.sqlite.proofs.Callers.{reads_as}
use Rattle.sqlite_keyed.proofs.ListLemmas.{all_both, ascending_weaker}
use Rattle.sqlite_tied.specs.Compute.{everything}
use Rattle.tally_store_schema.specs.Rows.{cells}
use Rattle.tally_store_schema.proofs.AnswerLemmas.{from_table, passes_all, shows, answer_is, answer_in_order}
use Rattle.tally_store_schema.proofs.ColumnLemmas.{values_from, whole_row_is}
use Rattle.tally_store_schema.proofs.ReadLemmas.{shown_open}
use Rattle.tally_store_schema.specs.Tables.{office_schema}
use Rattle.tally_store_schema.specs.declared.table.KeyedTable.{KeyedTable}
use Rattle.tally_store_schema.specs.declared.table.KeyedTable.TheVariants.{Returns, Counts, Cons, Lots, Seats, Gone, Totals, Past}
use Rattle.tally_store_schema.specs.Office.{table_of, tree_of, HasTables, ShowsTable}
use Rattle.tally_store_schema.specs.internal.StatementTexts.{all_rows_text}
use Rattle.tally_store_schema.proofs.WriteLemmas.{Means, plain_command, understood_as}
use Rattle.tally_store_schema.proofs.SelectLemmas.{columns_of, order_of, names_of, plain, out_of, outputs_at, compared_at, shown_whole}

-- ---- rows that obey their table have its columns and no more

module _ (table : Table) (db : Trees) (not_null : AllByRecursion (λ (c : Column). c.not_null ≡ true) table.columns) (schema : Schema) where
  row_whole : (row : Row) → passes Datatype schema db (record table { key = None }) row ≡ true → passes NotNull schema db (record table { key = None }) row ≡ true → drop 1 row ≡ values_from 0 table.columns row
  row_whole row typed there = whole_row_is table.columns 0 row (drop 1 row) refl not_null (and_parts (are_typed None 0 table.columns (drop 1 row)) (has_computed table row) typed).0 there

module _ (db : Database) (is : db.schema ≡ office_schema) (sound : IsDatabase db) where
  pub typed : Keeps Datatype office_schema db.trees
  typed = subst (λ s. Keeps Datatype s db.trees) is (sound.obeys.rules Datatype)

  pub present : Keeps NotNull office_schema db.trees
  present = subst (λ s. Keeps NotNull s db.trees) is (sound.obeys.rules NotNull)

  whole_table : (t : KeyedTable) → AllByRecursion (λ row. drop 1 row ≡ values_from 0 (table_of t).columns row) (db.trees (tree_of t))
  whole_table Returns =
      all_both (λ row. passes Datatype office_schema db.trees (table_of Returns) row ≡ true) (λ row. passes NotNull office_schema db.trees (table_of Returns) row ≡ true) _
      (λ row p q. row_whole (table_of Returns) db.trees (refl, (refl, (refl, (refl, (refl, (refl, tt)))))) office_schema row p q) (db.trees (tree_of Returns)) typed.1.0 present.1.0
  whole_table Counts =
      all_both (λ row. passes Datatype office_schema db.trees (table_of Counts) row ≡ true) (λ row. passes NotNull office_schema db.trees (table_of Counts) row ≡ true) _
      (λ row p q. row_whole (table_of Counts) db.trees (refl, (refl, (refl, tt))) office_schema row p q) (db.trees (tree_of Counts)) typed.1.1.0 present.1.1.0
  whole_table Cons =
      all_both (λ row. passes Datatype office_schema db.trees (table_of Cons) row ≡ true) (λ row. passes NotNull office_schema db.trees (table_of Cons) row ≡ true) _
      (λ row p q. row_whole (table_of Cons) db.trees (refl, (refl, (refl, (refl, tt)))) office_schema row p q) (db.trees (tree_of Cons)) typed.1.1.1.0 present.1.1.1.0
  whole_table Lots =
      all_both (λ row. passes Datatype office_schema db.trees (table_of Lots) row ≡ true) (λ row. passes NotNull office_schema db.trees (table_of Lots) row ≡ true) _
      (λ row p q. row_whole (table_of Lots) db.trees (refl, (refl, (refl, tt))) office_schema row p q) (db.trees (tree_of Lots)) typed.1.1.1.1.0 present.1.1.1.1.0
  whole_table Seats =
      all_both (λ row. passes Datatype office_schema db.trees (table_of Seats) row ≡ true) (λ row. passes NotNull office_schema db.trees (table_of Seats) row ≡ true) _
      (λ row p q. row_whole (table_of Seats) db.trees (refl, (refl, (refl, tt))) office_schema row p q) (db.trees (tree_of Seats)) typed.1.1.1.1.1.0 present.1.1.1.1.1.0
  whole_table Gone =
      all_both (λ row. passes Datatype office_schema db.trees (table_of Gone) row ≡ true) (λ row. passes NotNull office_schema db.trees (table_of Gone) row ≡ true) _
      (λ row p q. row_whole (table_of Gone) db.trees (refl, (refl, (refl, (refl, tt)))) office_schema row p q) (db.trees (tree_of Gone)) typed.1.1.1.1.1.1.0 present.1.1.1.1.1.1.0
  whole_table Totals =
      all_both (λ row. passes Datatype office_schema db.trees (table_of Totals) row ≡ true) (λ row. passes NotNull office_schema db.trees (table_of Totals) row ≡ true) _
      (λ row p q. row_whole (table_of Totals) db.trees (refl, (refl, (refl, tt))) office_schema row p q) (db.trees (tree_of Totals)) typed.1.1.1.1.1.1.1.0 present.1.1.1.1.1.1.1.0
  whole_table Past =
      all_both (λ row. passes Datatype office_schema db.trees (table_of Past) row ≡ true) (λ row. passes NotNull office_schema db.trees (table_of Past) row ≡ true) _
      (λ row p q. row_whole (table_of Past) db.trees (refl, (refl, (refl, (refl, tt)))) office_schema row p q) (db.trees (tree_of Past)) typed.1.1.1.1.1.1.1.1.0 present.1.1.1.1.1.1.1.1.0

-- the columns that are shown are all of them
shown_is : (t : KeyedTable) (row : Row) → values_from 0 (table_of t).columns row ≡ shows [] (columns_of t) row
shown_is Returns row = refl
shown_is Counts row = refl
shown_is Cons row = refl
shown_is Lots row = refl
shown_is Seats row = refl
shown_is Gone row = refl
shown_is Totals row = refl
shown_is Past row = refl

shown_cells : (t : KeyedTable) (rows : List Row) → AllByRecursion (λ row. drop 1 row ≡ values_from 0 (table_of t).columns row) rows → map (shows [] (columns_of t)) rows ≡ cells rows
shown_cells t [] h = refl
shown_cells t (r ∷ rows) h = ap₂ (λ x l. x ∷ l) (sym (h.0 ∙ shown_is t r)) (shown_cells t rows h.1)

-- ---- what the texts mean

abbrev all_rows_query : KeyedTable → Command
all_rows_query t = Select (record { lets = []; body = from_table (tree_of t) [] (columns_of t) (order_of t) }) (names_of t)

all_rows_compiled : (t : KeyedTable) → plain_command (compiled office_schema (all_rows_text t)) ≡ Some (all_rows_query t)
unfolding everything
all_rows_compiled Returns = refl
all_rows_compiled Counts = refl
all_rows_compiled Cons = refl
all_rows_compiled Lots = refl
all_rows_compiled Seats = refl
all_rows_compiled Gone = refl
all_rows_compiled Totals = refl
all_rows_compiled Past = refl

pub all_rows_mean : (t : KeyedTable) → Means (all_rows_text t) (all_rows_query t)
all_rows_mean t = (understood_as (all_rows_text t) (all_rows_query t) (all_rows_compiled t)).0

all_unlisted : (t : KeyedTable) → reads_listing office_schema (all_rows_text t) ≡ false
all_unlisted t = (understood_as (all_rows_text t) (all_rows_query t) (all_rows_compiled t)).1

-- ---- with no WHERE all rows are shown

all_there : (rows : List Row) → filter (λ x. true) rows ≡ rows
all_there [] = refl
all_there (r ∷ rows) = ap (λ l. r ∷ l) (all_there rows)

pub all_shown : (t : ℕ) (project : List Term) (order : List (Term × Key)) (db : Trees) (rows : List Row) → IsAnswer (from_table t [] project order) (overlay db []) [] rows → overlay db [] t ≡ db t
    → IsPermutation (map (shows [] project) (db t)) rows
all_shown t project order db rows a same = subst (λ l. IsPermutation (map (shows [] project) l) rows) (all_there (db t)) (answer_is [] [] t project order db rows a same)

pub shows_table : (t : KeyedTable) (old new : State) (answer : List Row) → HasTables old → Shown (all_rows_text t) [] old new answer → ShowsTable t old answer
unfolding out_of
shows_table t old new answer has shown =
    let read = reads_as (all_rows_text t) [] old new office_schema has.schema _ (all_rows_mean t).command (all_rows_mean t).plain (all_unlisted t) answer shown in
    let was_open = shown_open (all_rows_text t) [] old new answer shown in
    record {
      same = subst (λ l. IsPermutation l answer) (shown_cells t (old.now.trees (tree_of t)) (whole_table old.now has.schema (has.sound was_open) t)) (all_shown (tree_of t) (columns_of t) (order_of t) old.now.trees answer (read.answer Null) (plain t old.now.trees));
      in_order = λ rows order perm.
          let here : IsPermutation rows (map (drop 1) (filter (passes_all [] []) (old.now.trees (tree_of t)))) = subst (λ l. IsPermutation rows (cells l)) (sym (all_there (old.now.trees (tree_of t)))) perm in
          answer_in_order [] [] (tree_of t) (columns_of t) (order_of t) (out_of t) old.now.trees answer rows (read.answer Null) (plain t old.now.trees) (outputs_at [] t []) here
          (ascending_weaker _ (λ a b. output_cmp (from_table (tree_of t) [] (columns_of t) (order_of t)) (out_of t a) (out_of t b) ≡ Less) (compared_at [] t) rows order.rising)
          ∙ shown_whole t rows order.whole;
    }
