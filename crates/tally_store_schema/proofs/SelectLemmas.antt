-- What the SELECTs of a key answer.
use Rattle.std.proofs.Common.{◌≡◌, Some, ℕ, List, [], ◌∷◌, map, drop, filter, codes, false, Less, refl, sym, ap, subst, ◌∙◌}
use Rattle.std.specs.List.{AllByRecursion}
use Rattle.std.specs.List.Sorted.{IsPermutation}
use Rattle.sqlite_value.specs.declared.value.Value.TheVariants.{Null, Text}
use Rattle.sqlite_value.specs.declared.keys.Collation.TheVariants.{Binary}
use Rattle.sqlite_value.specs.declared.keys.Key.{Key}
use Rattle.sqlite_value.specs.Keys.{ascending}
use Rattle.sqlite_value.specs.Order.{Row, row_cmp}
use Rattle.sqlite_trees.specs.Tree.{Trees}
use Rattle.sqlite_sql.specs.Term.{Term, col}
use Rattle.sqlite_sql.specs.Query.{Output, output, output_cmp}
use Rattle.sqlite_sql.specs.Program.{overlay}
use Rattle.sqlite_schema.specs.declared.command.Command.{Command}
use Rattle.sqlite_schema.specs.declared.command.Command.TheVariants.{Select}
use Rattle.sqlite_resolve.specs.Compile.{compiled}
use Rattle.sqlite.specs.Listing.{reads_listing}
use Rattle.sqlite.specs.State.{State, Shown}
use Rattle.sqlite.proofs.Callers.{reads_as}
use Rattle.sqlite_keyed.proofs.ListLemmas.{filter-map, filter_same, ascending_weaker}
use Rattle.sqlite_tied.specs.Compute.{everything}
use Rattle.tally_store_schema.specs.Rows.{cells, has_key}
use Rattle.tally_store_schema.proofs.AnswerLemmas.{from_table, passes_all, answer_in_order}
use Rattle.tally_store_schema.proofs.UpdateLemmas.{by_text, by_text_is, next_column}
use Rattle.tally_store_schema.specs.Tables.{office_schema}
use Rattle.tally_store_schema.specs.declared.table.KeyedTable.{KeyedTable}
use Rattle.tally_store_schema.specs.declared.table.KeyedTable.TheVariants.{Returns, Counts, Cons, Lots, Seats, Gone, Totals, Past}
use Rattle.tally_store_schema.specs.Office.{tree_of, rows_in, IsInside, key_cells, all_cells, IsFound}
use Rattle.tally_store_schema.specs.internal.StatementTexts.{rows_of_text}
use Rattle.tally_store_schema.proofs.WriteLemmas.{Means, plain_command, understood_as}

-- the columns that are shown
abbrev pub columns_of : KeyedTable → List Term
columns_of Returns = col 1 1 ∷ col 1 2 ∷ col 1 3 ∷ col 1 4 ∷ col 1 5 ∷ col 1 6 ∷ []
columns_of Counts = col 1 1 ∷ col 1 2 ∷ col 1 3 ∷ []
columns_of Cons = col 1 1 ∷ col 1 2 ∷ col 1 3 ∷ col 1 4 ∷ []
columns_of Lots = col 1 1 ∷ col 1 2 ∷ col 1 3 ∷ []
columns_of Seats = col 1 1 ∷ col 1 2 ∷ col 1 3 ∷ []
columns_of Gone = col 1 1 ∷ col 1 2 ∷ col 1 3 ∷ col 1 4 ∷ []
columns_of Totals = col 1 1 ∷ col 1 2 ∷ col 1 3 ∷ []
columns_of Past = col 1 1 ∷ col 1 2 ∷ col 1 3 ∷ col 1 4 ∷ []

-- the order in which they are
abbrev pub order_of : KeyedTable → List (Term × Key)
order_of Returns = (col 1 1, ascending Binary) ∷ []
order_of Counts = (col 1 1, ascending Binary) ∷ (col 1 2, ascending Binary) ∷ []
order_of Cons = (col 1 1, ascending Binary) ∷ []
order_of Lots = (col 1 1, ascending Binary) ∷ (col 1 2, ascending Binary) ∷ []
order_of Seats = (col 1 1, ascending Binary) ∷ (col 1 2, ascending Binary) ∷ []
order_of Gone = (col 1 1, ascending Binary) ∷ (col 1 2, ascending Binary) ∷ (col 1 3, ascending Binary) ∷ []
order_of Totals = (col 1 1, ascending Binary) ∷ (col 1 2, ascending Binary) ∷ []
order_of Past = (col 1 1, ascending Binary) ∷ (col 1 2, ascending Binary) ∷ (col 1 3, ascending Binary) ∷ []

abbrev pub names_of : KeyedTable → List (List ℕ)
names_of Returns = codes "station" ∷ codes "con" ∷ codes "rev" ∷ codes "slip" ∷ codes "status" ∷ codes "note" ∷ []
names_of Counts = codes "station" ∷ codes "item" ∷ codes "n" ∷ []
names_of Cons = codes "con" ∷ codes "edition" ∷ codes "certified" ∷ codes "note" ∷ []
names_of Lots = codes "con" ∷ codes "place" ∷ codes "list" ∷ []
names_of Seats = codes "con" ∷ codes "list" ∷ codes "n" ∷ []
names_of Gone = codes "con" ∷ codes "list" ∷ codes "place" ∷ codes "note" ∷ []
names_of Totals = codes "con" ∷ codes "item" ∷ codes "n" ∷ []
names_of Past = codes "con" ∷ codes "edition" ∷ codes "list" ∷ codes "n" ∷ []

abbrev rows_of_query : KeyedTable → Command
rows_of_query t = Select (record { lets = []; body = from_table (tree_of t) by_text (columns_of t) (order_of t) }) (names_of t)

rows_of_compiled : (t : KeyedTable) → plain_command (compiled office_schema (rows_of_text t)) ≡ Some (rows_of_query t)
unfolding everything
rows_of_compiled Returns = refl
rows_of_compiled Counts = refl
rows_of_compiled Cons = refl
rows_of_compiled Lots = refl
rows_of_compiled Seats = refl
rows_of_compiled Gone = refl
rows_of_compiled Totals = refl
rows_of_compiled Past = refl

pub rows_of_means : (t : KeyedTable) → Means (rows_of_text t) (rows_of_query t)
rows_of_means t = (understood_as (rows_of_text t) (rows_of_query t) (rows_of_compiled t)).0

unlisted : (t : KeyedTable) → reads_listing office_schema (rows_of_text t) ≡ false
unlisted t = (understood_as (rows_of_text t) (rows_of_query t) (rows_of_compiled t)).1

pub plain : (t : KeyedTable) (trees : Trees) → overlay trees [] (tree_of t) ≡ trees (tree_of t)
plain Returns trees = refl
plain Counts trees = refl
plain Cons trees = refl
plain Lots trees = refl
plain Seats trees = refl
plain Gone trees = refl
plain Totals trees = refl
plain Past trees = refl

unfoldable pub out_of : KeyedTable → Row → Output
out_of t c = (key_cells t c, all_cells t c)

pub outputs_at : (where_all : List Term) (t : KeyedTable) (params r : Row) → output (from_table (tree_of t) where_all (columns_of t) (order_of t)) (params ∷ r ∷ []) ≡ out_of t (drop 1 r)
unfolding out_of
outputs_at where_all Returns params r = λ i. (next_column r 0 i ∷ [], next_column r 0 i ∷ next_column r 1 i ∷ next_column r 2 i ∷ next_column r 3 i ∷ next_column r 4 i ∷ next_column r 5 i ∷ [])
outputs_at where_all Counts params r = λ i. (next_column r 0 i ∷ next_column r 1 i ∷ [], next_column r 0 i ∷ next_column r 1 i ∷ next_column r 2 i ∷ [])
outputs_at where_all Cons params r = λ i. (next_column r 0 i ∷ [], next_column r 0 i ∷ next_column r 1 i ∷ next_column r 2 i ∷ next_column r 3 i ∷ [])
outputs_at where_all Lots params r = λ i. (next_column r 0 i ∷ next_column r 1 i ∷ [], next_column r 0 i ∷ next_column r 1 i ∷ next_column r 2 i ∷ [])
outputs_at where_all Seats params r = λ i. (next_column r 0 i ∷ next_column r 1 i ∷ [], next_column r 0 i ∷ next_column r 1 i ∷ next_column r 2 i ∷ [])
outputs_at where_all Gone params r = λ i. (next_column r 0 i ∷ next_column r 1 i ∷ next_column r 2 i ∷ [], next_column r 0 i ∷ next_column r 1 i ∷ next_column r 2 i ∷ next_column r 3 i ∷ [])
outputs_at where_all Totals params r = λ i. (next_column r 0 i ∷ next_column r 1 i ∷ [], next_column r 0 i ∷ next_column r 1 i ∷ next_column r 2 i ∷ [])
outputs_at where_all Past params r = λ i. (next_column r 0 i ∷ next_column r 1 i ∷ next_column r 2 i ∷ [], next_column r 0 i ∷ next_column r 1 i ∷ next_column r 2 i ∷ next_column r 3 i ∷ [])

pub compared_at : (where_all : List Term) (t : KeyedTable) (a b : Row) → row_cmp (key_cells t a) (key_cells t b) ≡ Less → output_cmp (from_table (tree_of t) where_all (columns_of t) (order_of t)) (out_of t a) (out_of t b) ≡ Less
unfolding out_of
compared_at where_all Returns a b h = h
compared_at where_all Counts a b h = h
compared_at where_all Cons a b h = h
compared_at where_all Lots a b h = h
compared_at where_all Seats a b h = h
compared_at where_all Gone a b h = h
compared_at where_all Totals a b h = h
compared_at where_all Past a b h = h

pub shown_whole : (t : KeyedTable) (rows : List Row) → AllByRecursion (λ r. all_cells t r ≡ r) rows → map (all_cells t) rows ≡ rows
shown_whole t [] h = refl
shown_whole t (r ∷ rows) h = rw (h.0, shown_whole t rows h.1)

pub finds : (t : KeyedTable) (key : List ℕ) (old new : State) (answer : List Row) → IsInside old → Shown (rows_of_text t) (Text key ∷ []) old new answer → IsFound t key old answer
unfolding out_of
finds t key old new answer inside shown rows order same =
    let params : Row = Text key ∷ [] in
    let q = from_table (tree_of t) by_text (columns_of t) (order_of t) in
    let read = reads_as (rows_of_text t) params old new office_schema inside.schema _ (rows_of_means t).command (rows_of_means t).plain (unlisted t) answer shown in
    let cut : filter (has_key key) (rows_in t old) ≡ cells (filter (passes_all params by_text) (old.now.trees (tree_of t))) = filter-map (has_key key) (drop 1) (old.now.trees (tree_of t)) ∙ ap cells (sym (filter_same _ _ (by_text_is key []) (old.now.trees (tree_of t)))) in
    answer_in_order params by_text (tree_of t) (columns_of t) (order_of t) (out_of t) old.now.trees answer rows (read.answer Null) (plain t old.now.trees) (outputs_at by_text t params) (subst (IsPermutation rows) cut same)
    (ascending_weaker _ (λ a b. output_cmp q (out_of t a) (out_of t b) ≡ Less) (compared_at by_text t) rows order.rising)
    ∙ shown_whole t rows order.whole
