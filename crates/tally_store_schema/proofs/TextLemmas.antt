-- What each text makes, as sqlite reads it.
use Rattle.std.proofs.Common.{◌≡◌, ◌<◌, ℕ, zero, suc, ◌+◌, arith, List, [], ◌∷◌, ◌++◌, Result, Ok, Err, OnOk, false, refl, sym, ap, subst, ◌∙◌}
use Rattle.std.specs.List.{AllByRecursion}
use Rattle.sqlite_keyed.proofs.ListLemmas.{all-append}
use Rattle.sqlite_schema.specs.declared.command.Command.TheVariants.{CreateTable}
use Rattle.sqlite_schema.specs.declared.schema.Table.{Table}
use Rattle.sqlite_trees.specs.Tree.{Trees}
use Rattle.sqlite.specs.Change.{created, next_tree}
use Rattle.sqlite.specs.Compile.{table_defined_by}
use Rattle.sqlite.specs.Does.{lacks_sequence}
use Rattle.sqlite.specs.Effect.{IsDatabase}
use Rattle.sqlite.specs.Listing.{understood}
use Rattle.sqlite.specs.State.{State, ExecutesInside}
use Rattle.sqlite.specs.declared.error.Error.{Error}
use Rattle.sqlite.proofs.Callers.{IsPlain, command_of, statement_of, runs_as}
use Rattle.sqlite_tied.specs.Compute.{everything}
use Rattle.tally_store_schema.proofs.CreateLemmas.{made_by}
use Rattle.tally_store_schema.specs.Tables.{schema_with, past_tree, setup_table, returns_table, counts_table, cons_table, lots_table, seats_table, gone_table, totals_table, past_table}
use Rattle.tally_store_schema.specs.internal.Texts.{create_setup_text, create_returns_text, create_counts_text, create_cons_text, create_lots_text, create_seats_text, create_gone_text, create_totals_text, create_past_text, create_text}
use Rattle.tally_store_schema.specs.Made.{HasFirstTables, AddsTable, HasEmptyTables, Makes, MakesPast}
use Rattle.tally_store_schema.specs.Office.{RunsWithValues}

-- the text was run as a statement of a transaction, without parameters
abbrev HasRun : List ℕ → State → State → Type 0
HasRun sql old new = (count : ℕ) × ExecutesInside 0 sql [] old new (Ok count)

-- The text is that of a CREATE TABLE, which makes this table after the first `n` ones.
record IsTextOf (n : ℕ) (table : ℕ → Table) (sql : List ℕ) : Type 0 where
  command : command_of (understood (schema_with n) sql) ≡ CreateTable
  text : statement_of sql (understood (schema_with n) sql) ≡ sql
  defined : table_defined_by sql ≡ Ok (table 0)
  made : created (schema_with n) (table 0) ≡ schema_with (n + 1)
  sequence : lacks_sequence (schema_with (n + 1)) ≡ false
  plain : IsPlain (understood (schema_with n) sql)
  tables : (schema_with (n + 1)).tables ≡ (schema_with n).tables ++ table (next_tree (schema_with n)) ∷ []
  tree : (table (next_tree (schema_with n))).tree ≡ next_tree (schema_with n)

adds : (n : ℕ) (table : ℕ → Table) (sql : List ℕ) (old new : State) → IsTextOf n table sql → HasFirstTables n old → HasRun sql old new → AddsTable n (next_tree (schema_with n)) old new
adds n table sql old new is has ran =
    let made = made_by (schema_with n) (schema_with (n + 1)) (table 0) sql old new ran.0 has.schema is.command is.text is.defined is.made is.sequence is.plain ran.1 in
    let wrote = runs_as sql [] old new (schema_with n) has.schema CreateTable is.command is.plain ran.0 ran.1.0 in
    record { tables = record { schema = made.0; inside = ran.1.1.mode }; empty = made.1; others = made.2; sound = wrote.sound }

still_empty : (tables : List Table) (old new : Trees) → AllByRecursion (λ (t : Table). new t.tree ≡ old t.tree) tables → AllByRecursion (λ (t : Table). old t.tree ≡ []) tables → AllByRecursion (λ (t : Table). new t.tree ≡ []) tables
still_empty [] old new same empty = tt
still_empty (t ∷ tables) old new same empty = (same.0 ∙ empty.0, still_empty tables old new same.1 empty.1)

makes : (n : ℕ) (table : ℕ → Table) (sql : List ℕ) (old new : State) → IsTextOf n table sql → HasEmptyTables n old → HasRun sql old new → HasEmptyTables (n + 1) new
makes n table sql old new is has ran =
    let added = adds n table sql old new is has.tables ran in
    let IsEmpty : Table → Type 0 = λ t. new.now.trees t.tree ≡ [] in
    let before = still_empty (schema_with n).tables old.now.trees new.now.trees added.others has.empty in
    let last : IsEmpty (table (next_tree (schema_with n))) = ap new.now.trees is.tree ∙ added.empty in
    record { tables = added.tables; empty = subst (AllByRecursion IsEmpty) (sym is.tables) (all-append IsEmpty (schema_with n).tables (table (next_tree (schema_with n)) ∷ []) before (last, tt)) }

made_where_run : (n : ℕ) (table : ℕ → Table) (sql : List ℕ) (old new : State) (r : Result Unit Error) → IsTextOf n table sql → RunsWithValues sql [] old new r → Makes n (n + 1) old new r
made_where_run n table sql old new (Ok done) is ran clean has = makes n table sql old new is has (ran clean has.tables.inside)
made_where_run n table sql old new (Err e) is ran clean has = tt

setup_is : IsTextOf 0 setup_table create_setup_text
unfolding understood everything
setup_is = record { command = refl; text = refl; defined = refl; made = refl; sequence = refl; plain = (refl, refl); tables = refl; tree = refl }

returns_is : IsTextOf 1 returns_table create_returns_text
unfolding understood everything
returns_is = record { command = refl; text = refl; defined = refl; made = refl; sequence = refl; plain = (refl, refl); tables = refl; tree = refl }

counts_is : IsTextOf 2 counts_table create_counts_text
unfolding understood everything
counts_is = record { command = refl; text = refl; defined = refl; made = refl; sequence = refl; plain = (refl, refl); tables = refl; tree = refl }

cons_is : IsTextOf 3 cons_table create_cons_text
unfolding understood everything
cons_is = record { command = refl; text = refl; defined = refl; made = refl; sequence = refl; plain = (refl, refl); tables = refl; tree = refl }

lots_is : IsTextOf 4 lots_table create_lots_text
unfolding understood everything
lots_is = record { command = refl; text = refl; defined = refl; made = refl; sequence = refl; plain = (refl, refl); tables = refl; tree = refl }

seats_is : IsTextOf 5 seats_table create_seats_text
unfolding understood everything
seats_is = record { command = refl; text = refl; defined = refl; made = refl; sequence = refl; plain = (refl, refl); tables = refl; tree = refl }

gone_is : IsTextOf 6 gone_table create_gone_text
unfolding understood everything
gone_is = record { command = refl; text = refl; defined = refl; made = refl; sequence = refl; plain = (refl, refl); tables = refl; tree = refl }

totals_is : IsTextOf 7 totals_table create_totals_text
unfolding understood everything
totals_is = record { command = refl; text = refl; defined = refl; made = refl; sequence = refl; plain = (refl, refl); tables = refl; tree = refl }

-- the table of a place, after those before it
pub makes_next : (n : ℕ) → n < 8 → (old new : State) (r : Result Unit Error) → RunsWithValues (create_text n) [] old new r → Makes n (n + 1) old new r
makes_next zero low old new r = made_where_run 0 setup_table create_setup_text old new r setup_is
makes_next (suc zero) low old new r = made_where_run 1 returns_table create_returns_text old new r returns_is
makes_next (suc (suc zero)) low old new r = made_where_run 2 counts_table create_counts_text old new r counts_is
makes_next (suc (suc (suc zero))) low old new r = made_where_run 3 cons_table create_cons_text old new r cons_is
makes_next (suc (suc (suc (suc zero)))) low old new r = made_where_run 4 lots_table create_lots_text old new r lots_is
makes_next (suc (suc (suc (suc (suc zero))))) low old new r = made_where_run 5 seats_table create_seats_text old new r seats_is
makes_next (suc (suc (suc (suc (suc (suc zero)))))) low old new r = made_where_run 6 gone_table create_gone_text old new r gone_is
makes_next (suc (suc (suc (suc (suc (suc (suc zero))))))) low old new r = made_where_run 7 totals_table create_totals_text old new r totals_is
makes_next (suc (suc (suc (suc (suc (suc (suc (suc n)))))))) low old new r = absurd (omega (arith, low))

past_is : IsTextOf 8 past_table create_past_text
unfolding understood everything
past_is = record { command = refl; text = refl; defined = refl; made = refl; sequence = refl; plain = (refl, refl); tables = refl; tree = refl }

pub makes_past : (old new : State) (r : Result Unit Error) → RunsWithValues create_past_text [] old new r → Makes 8 9 old new r
makes_past old new r = made_where_run 8 past_table create_past_text old new r past_is

pub past_sound : (old new : State) (r : Result Unit Error) → OnOk r (AddsTable 8 past_tree old new) → OnOk r (IsDatabase new.now)
past_sound old new (Ok done) added = added.sound
past_sound old new (Err e) added = tt

pub adds_past : (old new : State) (r : Result Unit Error) → RunsWithValues create_past_text [] old new r → MakesPast old new r
adds_past old new (Ok done) ran clean has = adds 8 past_table create_past_text old new past_is has (ran clean has.inside)
adds_past old new (Err e) ran clean has = tt
