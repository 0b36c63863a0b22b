-- What an INSERT, an UPDATE and a DELETE do to the tables of the office.
use Rattle.std.proofs.Common.{◌≡◌, ℕ, ◌/◌, ℤ, pos, List, [], ◌∷◌, ◌++◌, length, drop, filter, not, ◌&&◌, cond, true, false, Option, Some, None, Result, Ok, Err, refl, sym, ap, ap₂, subst, ◌∙◌}
use Rattle.std.specs.List.{AllByRecursion}
use Rattle.std.specs.List.Sorted.{IsPermutation}
use Rattle.std.proofs.lemmas.List.Sorted.{IsPermutation-refl, IsPermutation-cons, IsPermutation-trans}
use Rattle.std.proofs.lemmas.Cmp.{tied_itself}
use Rattle.std.specs.Ordering.{is_eq}
use Rattle.sqlite_value.specs.declared.value.Value.{Value}
use Rattle.sqlite_value.specs.declared.value.Value.TheVariants.{Null, Int, Text}
use Rattle.sqlite_value.specs.declared.keys.Collation.TheVariants.{Binary}
use Rattle.sqlite_value.specs.Order.{Row, column, value_cmp}
use Rattle.sqlite_value.proofs.OrderLemmas.{value_cmp_total}
use Rattle.sqlite_sql.specs.declared.ops.BinaryOp.TheVariants.{Compare}
use Rattle.sqlite_sql.specs.declared.ops.CompareOp.TheVariants.{Eq}
use Rattle.sqlite_sql.specs.Term.{Term, col, op2}
use Rattle.sqlite_sql.specs.Program.{overlay}
use Rattle.sqlite_schema.specs.declared.command.Command.{Command}
use Rattle.sqlite_schema.specs.declared.command.Command.TheVariants.{Insert, Update, Delete}
use Rattle.sqlite_schema.specs.declared.command.Source.TheVariants.{Values}
use Rattle.sqlite_resolve.specs.declared.compiled.Compiled.{Compiled}
use Rattle.sqlite_resolve.specs.declared.error.CompileError.{CompileError}
use Rattle.sqlite_resolve.specs.Compile.{compiled}
use Rattle.sqlite_rules.specs.Cast.{cast_all}
use Rattle.sqlite.specs.Does.{Does}
use Rattle.sqlite.specs.Effect.{value_rows}
use Rattle.sqlite.specs.Listing.{understood, reads_listing, listing_schema, misses_table, if_select}
use Rattle.sqlite.specs.State.{State, Writes, mode_of, ExecutesInside}
use Rattle.sqlite.proofs.Callers.{IsPlain, command_of, statement_of, runs_as, one_permutation}
use Rattle.sqlite_keyed.proofs.ListLemmas.{IsPermutation-filter}
use Rattle.tally_store_schema.specs.Rows.{has_key, others, without}
use Rattle.tally_store_schema.proofs.AnswerLemmas.{from_table, passes_all, shows}
use Rattle.tally_store_schema.proofs.RowsLemmas.{none_then_all}
use Rattle.tally_store_schema.proofs.InsertLemmas.{inserts_one}
use Rattle.tally_store_schema.proofs.ManyLemmas.{unnumbered, inserts_many}
use Rattle.tally_store_schema.proofs.UpdateLemmas.{by_text, by_text_is, equals_text, equals_int, next_column, and_true_right, updates_one, only_row}
use Rattle.tally_store_schema.proofs.DeleteLemmas.{deletes_all}
use Rattle.tally_store_schema.specs.Tables.{office_schema, setup_tree}
use Rattle.tally_store_schema.specs.declared.table.KeyedTable.{KeyedTable}
use Rattle.tally_store_schema.specs.Office.{table_of, tree_of, rows_in, IsInside, HasRows, item_cells, is_item}
use Rattle.tally_store_schema.proofs.TableLemmas.{table_number, ordinary, no_index, no_index_setup, not_setup, still_inside}

-- the text means this command
pub record Means (sql : List ℕ) (meant : Command) : Type 0 where
  pub command : command_of (understood office_schema sql) ≡ meant
  pub plain : IsPlain (understood office_schema sql)

-- what a text is compiled to, if it has no RETURNING and does not read the time
abbrev if_plain : {R F : Type 0} → Option R → List F → Command → Option Command
if_plain None [] command = Some command
if_plain None (format ∷ formats) command = None
if_plain (Some returned) formats command = None

abbrev pub plain_command : Result Compiled CompileError → Option Command
plain_command (Ok c) = if_plain c.returning c.formats c.command
plain_command (Err e) = None

plain_is : {R F : Type 0} (returning : Option R) (formats : List F) (command meant : Command) → if_plain returning formats command ≡ Some meant → (command ≡ meant) × (returning ≡ None) × (formats ≡ [])
plain_is None [] command meant is = (let e = is in cc, refl, refl)
plain_is None (format ∷ formats) command meant is = absurd (let e = is in cc)
plain_is (Some returned) formats command meant is = absurd (let e = is in cc)

-- What a text is understood as. One equation on what it is compiled to is cheap: each part of a
-- record or a product of several would compile the text again.
pub understood_as : (sql : List ℕ) (meant : Command) → plain_command (compiled office_schema sql) ≡ Some meant → Means sql meant × (reads_listing office_schema sql ≡ false)
unfolding understood
understood_as sql meant is =
    let parts = go (compiled office_schema sql) (if_select (compiled listing_schema sql)) is in
    (record { command = parts.0; plain = parts.1 }, parts.2)
  where
    go : (u other : Result Compiled CompileError) → plain_command u ≡ Some meant → (command_of (cond (misses_table u) other u) ≡ meant) × IsPlain (cond (misses_table u) other u) × (misses_table u ≡ false)
    go (Ok c) other it = let parts = plain_is c.returning c.formats c.command meant it in (parts.0, (parts.1, parts.2), refl)
    go (Err e) other it = absurd (let k = it in cc)

-- what a write did, under the schema of the office
pub does : (sql : List ℕ) (params : Row) (command : Command) (old new : State) (count : ℕ) → old.now.schema ≡ office_schema → (w : Writes old new None command (statement_of sql (understood office_schema sql)) params count)
    → Does old.step_limit (mode_of old) params (record old.now { schema = office_schema }) (statement_of sql (understood office_schema sql)) None command (Ok (w.tally, new.now))
does sql params command old new count has w = subst (λ s. Does old.step_limit (mode_of old) params (record old.now { schema = s }) (statement_of sql (understood office_schema sql)) None command (Ok (w.tally, new.now))) has w.changed

module _ (t : KeyedTable) (sql : List ℕ) (params row : Row) where
  pub inserts : (terms : List Term) (width : ℕ) → Means sql (Insert (table_number t) (Values terms width)) → value_rows params width (length terms / width) terms ≡ (Null ∷ row) ∷ [] → cast_all (table_of t).columns row ≡ row
      → (old new : State) (count : ℕ) → IsInside old → ExecutesInside 0 sql params old new (Ok count) → HasRows t (row ∷ rows_in t old) old new
  inserts terms width means is casts old new count inside ran =
      let w = runs_as sql params old new office_schema inside.schema (Insert (table_number t) (Values terms width)) means.command means.plain count ran.0 in
      let made = inserts_one office_schema (table_number t) (table_of t) (ordinary t) terms width params row is casts old.step_limit (mode_of old) (statement_of sql (understood office_schema sql)) old.now.trees w.tally new.now (does sql params (Insert (table_number t) (Values terms width)) old new count inside.schema w) in
      record {
        inside = still_inside t old new inside made.0 w.sound (made.1.keyed (inside.distinct t)) made.1.others ran.1.mode;
        rows = made.1.added;
        others = λ u apart. made.1.others (tree_of u) apart (no_index u);
        setup = made.1.others setup_tree (not_setup t) no_index_setup;
      }

module _ (t : KeyedTable) (sql : List ℕ) (params : Row) (rows : List Row) where
  pub inserts_all : (terms : List Term) (width : ℕ) → Means sql (Insert (table_number t) (Values terms width)) → value_rows params width (length terms / width) terms ≡ unnumbered rows → AllByRecursion (λ r. cast_all (table_of t).columns r ≡ r) rows
      → (old new : State) (count : ℕ) → IsInside old → ExecutesInside 0 sql params old new (Ok count) → HasRows t (rows ++ rows_in t old) old new
  inserts_all terms width means is casts old new count inside ran =
      let w = runs_as sql params old new office_schema inside.schema (Insert (table_number t) (Values terms width)) means.command means.plain count ran.0 in
      let made = inserts_many office_schema (table_number t) (table_of t) (ordinary t) terms width params rows is casts old.step_limit (mode_of old) (statement_of sql (understood office_schema sql)) old.now.trees w.tally new.now (does sql params (Insert (table_number t) (Values terms width)) old new count inside.schema w) in
      record {
        inside = still_inside t old new inside made.0 w.sound (made.1.keyed (inside.distinct t)) made.1.others ran.1.mode;
        rows = made.1.added;
        others = λ u apart. made.1.others (tree_of u) apart (no_index u);
        setup = made.1.others setup_tree (not_setup t) no_index_setup;
      }

-- WHERE the first column is the first parameter
module _ (t : KeyedTable) (sql key : List ℕ) (more row : Row) where
  pub replaces : (project : List Term) → Means sql (Update (table_number t) (record { lets = []; body = from_table (tree_of t) by_text project [] })) → cast_all (table_of t).columns row ≡ row
      → (v : Value) (rest : Row) → ((i : ℤ) → shows (Text key ∷ more) project (Int i ∷ v ∷ rest) ≡ Int i ∷ Int i ∷ row) → ((trees : _) → overlay trees [] (tree_of t) ≡ trees (tree_of t))
      → (old new : State) (count : ℕ) → IsInside old → ExecutesInside 0 sql (Text key ∷ more) old new (Ok count) → filter (has_key key) (rows_in t old) ≡ (v ∷ rest) ∷ []
      → HasRows t (row ∷ others key (rows_in t old)) old new
  replaces project means casts v rest shown plain old new count inside ran one =
      let params : Row = Text key ∷ more in
      let found = only_row (old.now.trees (tree_of t)) (has_key key) v rest one (inside.distinct t) in
      let w = runs_as sql params old new office_schema inside.schema (Update (table_number t) (record { lets = []; body = from_table (tree_of t) by_text project [] })) means.command means.plain count ran.0 in
      let made = updates_one office_schema (table_number t) (table_of t) (ordinary t) by_text project params (has_key key) (by_text_is key more) found.0 row found.1 (ap (shows params project) found.3 ∙ shown found.1) casts old.step_limit (mode_of old) (statement_of sql (understood office_schema sql)) old.now.trees w.tally new.now (plain old.now.trees) (inside.distinct t) found.2 (does sql params (Update (table_number t) (record { lets = []; body = from_table (tree_of t) by_text project [] })) old new count inside.schema w) in
      record {
        inside = still_inside t old new inside made.0 w.sound made.1.keyed made.1.others ran.1.mode;
        rows = made.1.put;
        others = λ u apart. made.1.others (tree_of u) apart (no_index u);
        setup = made.1.others setup_tree (not_setup t) no_index_setup;
      }

-- WHERE the first two columns are the first two parameters
abbrev pub by_item : List Term
by_item = op2 (Compare Eq Binary) (col 1 1) (col 0 0) ∷ op2 (Compare Eq Binary) (col 1 2) (col 0 1) ∷ []

by_item_is : (key : List ℕ) (item : ℕ) (more r : Row) → passes_all (Text key ∷ Int (pos item) ∷ more) by_item r ≡ is_item key item (drop 1 r)
by_item_is key item more r = ap₂ ◌&&◌ (equals_text (column r 1) key ∙ ap (λ v. is_eq (value_cmp v (Text key))) (next_column r 0)) (and_true_right _ ∙ equals_int (column r 2) (pos item) ∙ ap (λ v. is_eq (value_cmp v (Int (pos item)))) (next_column r 1))

same_value : (v : Value) → is_eq (value_cmp v v) ≡ true
same_value v = ap is_eq (tied_itself value_cmp_total v)

own_item : (key : List ℕ) (item n : ℕ) → is_item key item (item_cells key item n) ≡ true
own_item key item n = ap₂ ◌&&◌ (same_value (Text key)) (same_value (Int (pos item)))

-- the row of an item before rows none of which is
at_first : (key : List ℕ) (item n : ℕ) (rest : List Row) → filter (is_item key item) rest ≡ [] → filter (is_item key item) (item_cells key item n ∷ rest) ≡ item_cells key item n ∷ []
at_first key item n rest none = ap (λ b. cond b (item_cells key item n ∷ filter (is_item key item) rest) (filter (is_item key item) rest)) (own_item key item n) ∙ ap (λ l. item_cells key item n ∷ l) none

without_first : (key : List ℕ) (item n : ℕ) (rest : List Row) → filter (is_item key item) rest ≡ [] → without (is_item key item) (item_cells key item n ∷ rest) ≡ rest
without_first key item n rest none = ap (λ b. cond (not b) (item_cells key item n ∷ without (is_item key item) rest) (without (is_item key item) rest)) (own_item key item n) ∙ none_then_all (is_item key item) rest none

abbrev pub item_set : List Term
item_set = col 1 0 ∷ col 1 0 ∷ col 1 1 ∷ col 1 2 ∷ col 0 2 ∷ []

module _ (t : KeyedTable) (sql key : List ℕ) (item n : ℕ) where
  pub sets_item : Means sql (Update (table_number t) (record { lets = []; body = from_table (tree_of t) by_item item_set [] })) → cast_all (table_of t).columns (item_cells key item n) ≡ item_cells key item n
      → ((trees : _) → overlay trees [] (tree_of t) ≡ trees (tree_of t))
      → (old new : State) (count : ℕ) → IsInside old → ExecutesInside 0 sql (item_cells key item n) old new (Ok count)
      → (before : ℕ) (rest : List Row) → filter (is_item key item) rest ≡ [] → IsPermutation (item_cells key item before ∷ rest) (rows_in t old) → HasRows t (item_cells key item n ∷ rest) old new
  sets_item means casts plain old new count inside ran before rest none held =
      let params : Row = item_cells key item n in
      let cut : filter (is_item key item) (rows_in t old) ≡ item_cells key item before ∷ [] =
      one_permutation _ _ (subst (λ l. IsPermutation l (filter (is_item key item) (rows_in t old))) (at_first key item before rest none) (IsPermutation-filter (is_item key item) _ _ held)) in
      let found = only_row (old.now.trees (tree_of t)) (is_item key item) _ _ cut (inside.distinct t) in
      let w = runs_as sql params old new office_schema inside.schema (Update (table_number t) (record { lets = []; body = from_table (tree_of t) by_item item_set [] })) means.command means.plain count ran.0 in
      let made = updates_one office_schema (table_number t) (table_of t) (ordinary t) by_item item_set params (is_item key item) (by_item_is key item (Int (pos n) ∷ [])) found.0 params found.1 (ap (shows params item_set) found.3) casts old.step_limit (mode_of old) (statement_of sql (understood office_schema sql)) old.now.trees w.tally new.now (plain old.now.trees) (inside.distinct t) found.2 (does sql params (Update (table_number t) (record { lets = []; body = from_table (tree_of t) by_item item_set [] })) old new count inside.schema w) in
      let left : IsPermutation rest (without (is_item key item) (rows_in t old)) =
      subst (λ l. IsPermutation l (without (is_item key item) (rows_in t old))) (without_first key item before rest none) (IsPermutation-filter (λ x. not (is_item key item x)) _ _ held) in
      record {
        inside = still_inside t old new inside made.0 w.sound made.1.keyed made.1.others ran.1.mode;
        rows = IsPermutation-trans _ _ _ (IsPermutation-cons params _ _ left) made.1.put;
        others = λ u apart. made.1.others (tree_of u) apart (no_index u);
        setup = made.1.others setup_tree (not_setup t) no_index_setup;
      }

module _ (t : KeyedTable) (sql key : List ℕ) where
  pub deletes : Means sql (Delete (table_number t) (record { lets = []; body = from_table (tree_of t) by_text (col 1 0 ∷ []) [] })) → ((trees : _) → overlay trees [] (tree_of t) ≡ trees (tree_of t))
      → (old new : State) (count : ℕ) → IsInside old → ExecutesInside 0 sql (Text key ∷ []) old new (Ok count) → HasRows t (others key (rows_in t old)) old new
  deletes means plain old new count inside ran =
      let params : Row = Text key ∷ [] in
      let w = runs_as sql params old new office_schema inside.schema (Delete (table_number t) (record { lets = []; body = from_table (tree_of t) by_text (col 1 0 ∷ []) [] })) means.command means.plain count ran.0 in
      let made = deletes_all office_schema (table_number t) (table_of t) (ordinary t) by_text params (has_key key) (by_text_is key []) old.step_limit (mode_of old) (statement_of sql (understood office_schema sql)) old.now.trees w.tally new.now (plain old.now.trees) (inside.distinct t) (does sql params (Delete (table_number t) (record { lets = []; body = from_table (tree_of t) by_text (col 1 0 ∷ []) [] })) old new count inside.schema w) in
      record {
        inside = still_inside t old new inside made.0 w.sound made.1.keyed made.1.others ran.1.mode;
        rows = subst (λ l. IsPermutation (others key (rows_in t old)) l) (sym made.1.left) (IsPermutation-refl _);
        others = λ u apart. made.1.others (tree_of u) apart (no_index u);
        setup = made.1.others setup_tree (not_setup t) no_index_setup;
      }
