-- What the steps of an opening see in a transaction. No public contract speaks of this.
use Rattle.std.specs.Prelude.{◌≡◌, ◌≢◌, ◌⊎◌, ◌==◌, if◌then◌else◌, List, [], ◌∷◌, ℕ, Option, None}
use Rattle.std.specs.Prelude.{Some, Result, Ok, Err, IfOk, IsTrue, OnOk, codes, false}
use Rattle.std.specs.Prelude.{length, option_and_then, option_map, slice_index_or, true}
use Rattle.std.specs.BTreeMap.{BTreeMap}
use Rattle.sqlite.specs.declared.error.Error.{Error}
use Rattle.sqlite.specs.declared.transaction.Transaction.{Transaction}
use Rattle.sqlite.specs.Effect.{Database, IsDatabase}
use Rattle.sqlite.specs.Held.{state}
use Rattle.sqlite.specs.State.{State as Seen, HasCleanDisk, IsRolledBack, Shows, Survives}
use Rattle.sqlite_schema.specs.declared.schema.Schema.{Schema}
use Rattle.sqlite_trees.specs.declared.store.Store.{Ghosts}
use Rattle.sqlite_trees.specs.Tree.{Trees}
use Rattle.tally_setup.specs.Constituency.{Constituency}
use Rattle.tally_returns.specs.State.{State}
use Rattle.tally_machine_law.specs.LawfulState.{IsLawfulState}
use Rattle.tally_store_schema.specs.declared.table.KeyedTable.TheVariants.{Returns, Counts, Cons}
use Rattle.tally_store_schema.specs.declared.table.KeyedTable.TheVariants.{Lots, Seats, Gone}
use Rattle.tally_store_schema.specs.declared.table.KeyedTable.TheVariants.{Totals}
use Rattle.tally_store_schema.specs.declared.table.KeyedTable.TheVariants.{Past}
use Rattle.sqlite_value.specs.Order.{Row, column}
use Rattle.tally_store_schema.specs.Values.{number_of, text_of}
use Rattle.tally_rules.specs.Fault.{IsFaultIn}
use Rattle.tally_rules.specs.Reading.{setup_of_text}
use Rattle.tally_rules.specs.declared.fault.SetupFault.TheVariants as setup_fault
use Rattle.tally_keeper.specs.declared.fault.OpenFault.{OpenFault}
use Rattle.tally_keeper.specs.declared.fault.OpenFault.TheVariants.{BadTables, Memory, NoTables}
use Rattle.tally_keeper.specs.declared.fault.OpenFault.TheVariants.{Setup, Store}
use Rattle.tally_store_schema.specs.Rows.{HaveDistinctRowids}
use Rattle.tally_store_schema.specs.Cells.{setup_row}
use Rattle.tally_store_schema.specs.Made.{HasFirstTables, has_former_tables, has_table}
use Rattle.tally_store_schema.specs.Tables.{former_schema, office_schema, setup_tree}
use Rattle.tally_store_schema.specs.declared.table.KeyedTable.{KeyedTable}
use Rattle.tally_store_schema.specs.Office.{HasTables, IsInside, ShowsTable, tree_of}
use Rattle.tally_store_rows.specs.TablesOfState.{AreTables, version}
use Rattle.tally_store_rows.specs.declared.views.Statuses.{Statuses}
use Rattle.tally_store_open.specs.Open.{AreFormerTables, HasSetup, IsTakenOver, former_version}
use Rattle.tally_store_open.specs.Open.{tables_taken_over}
use Rattle.tally_store_open.specs.declared.judging.FoundRows.{FoundRows}
use Rattle.tally_store_open.specs.Numbers.{HasNumbers, numbers_of}
use Rattle.tally_store_open.specs.OfficeRows.{RowsInOrder}

-- ---- what a call in a transaction says, where the disk returned what was written

-- how the tables of the office before it and after it and its answer belong together
abbrev pub Sees : {S X : Type 0} (g : Ghosts S)
    → (Seen → Seen → X → Type 0) → Transaction S → Transaction S → Result X Error → Type 0
Sees g Saw old new result =
    HasCleanDisk (state g new.conn.now) → HasTables (state g old.conn.now)
    → IfOk result (Saw (state g old.conn.now) (state g new.conn.now))

-- the rows of a table have rowids that differ
abbrev pub HasDistinctRows : Database → KeyedTable → Type 0
HasDistinctRows db t = HaveDistinctRowids (db.trees (tree_of t))

-- so do those of each table of version 1 once it is taken over
abbrev pub HasFormerRowids : Database → Type 0
HasFormerRowids db =
    (text : List ℕ) (t : KeyedTable)
    → HaveDistinctRowids (tables_taken_over text db.trees (tree_of t))

-- The tables of version 1 are there in a transaction. On a connection that is open, no two rows of
-- one of them have the same rowid.
pub record HasFormerTables (s : Seen) : Type 0 where
  pub first : HasFirstTables 8 s
  pub distinct : IsTrue s.is_open → HasFormerRowids s.now

-- the same of the tables of version 1
abbrev pub SeesFormer : {S X : Type 0} (g : Ghosts S)
    → (Seen → Seen → X → Type 0) → Transaction S → Transaction S → Result X Error → Type 0
SeesFormer g Saw old new result =
    HasCleanDisk (state g new.conn.now) → HasFormerTables (state g old.conn.now)
    → IfOk result (Saw (state g old.conn.now) (state g new.conn.now))

-- On a connection that is open, the rowids of tables of today's form, or of version 1, differ.
pub record HasRowids (s : Seen) : Type 0 where
  pub today : IsTrue s.is_open → s.now.schema ≡ office_schema
      → (t : KeyedTable) → HasDistinctRows s.now t
  pub former : IsTrue s.is_open → s.now.schema ≡ former_schema → HasFormerRowids s.now

-- ---- the rows of tables

-- these rows were answered of the whole tables
pub record ShowsOffice (seen : Seen) (rows : RowsInOrder) : Type 0 where
  pub returns : ShowsTable Returns seen rows.returns
  pub counts : ShowsTable Counts seen rows.counts
  pub cons : ShowsTable Cons seen rows.cons
  pub lots : ShowsTable Lots seen rows.tables.lots
  pub seats : ShowsTable Seats seen rows.tables.seats
  pub gone : ShowsTable Gone seen rows.tables.gone
  pub totals : ShowsTable Totals seen rows.tables.totals
  pub past : ShowsTable Past seen rows.tables.past

-- The tables are those of one lawful state over the setup, with this text, and of no other one.
pub record AreOfOne (setup : List Constituency) (text : List ℕ) (db : Trees) : Type 0 where
  pub state : State
  pub lawful : IsLawfulState setup state
  pub tables : AreTables setup text state db
  pub alone : (other : State) → IsLawfulState setup other
      → AreTables setup text other db → other ≡ state

-- the rows that were read of all tables
abbrev pub rows_found : FoundRows → RowsInOrder
rows_found rows = record {
  returns = rows.returns.items;
  counts = rows.counts.items;
  cons = rows.cons.items;
  tables = record {
    lots = rows.lots.items;
    seats = rows.seats.items;
    gone = rows.gone.items;
    totals = rows.totals.items;
    past = rows.past.items;
  };
}

-- the tables with the one row of `setup`, of today's version and this text
abbrev pub trees_with : List ℕ → Trees → Trees
trees_with text db tree = if tree == setup_tree then setup_row version text ∷ [] else db tree

-- the tables are, with whatever text, those of one lawful state
abbrev pub IsJudged : List Constituency → Database → Type 0
IsJudged setup db = (text : List ℕ) → AreOfOne setup text (trees_with text db.trees)

-- the tables are those of no lawful state over this setup, with whatever text
abbrev pub AreTablesOfNone : List Constituency → Database → Type 0
AreTablesOfNone setup db =
    (text : List ℕ) (s : State) → IsLawfulState setup s
    → AreTables setup text s (trees_with text db.trees) → ⊥

-- the fault is that they are the tables of no lawful state over this setup
abbrev pub IsUnlawful : List Constituency → Database → OpenFault → Type 0
IsUnlawful setup db fault = (fault ≡ BadTables) × AreTablesOfNone setup db

-- the numbers of every lawful state over this setup whose tables they are, with whatever text
abbrev pub CountsTables : BTreeMap (List ℕ) Statuses → List Constituency → Database → Type 0
CountsTables known setup db =
    (text : List ℕ) (s : State) → IsLawfulState setup s
    → AreTables setup text s (trees_with text db.trees) → HasNumbers setup s (numbers_of known)

-- ---- the table `setup`

-- the version and the text of a row of `setup` as it is shown, where its id is 1
abbrev pub shown_of_row : Row → Option (ℕ × List ℕ)
shown_of_row row =
    option_and_then (λ id. if id == 1
    then option_and_then (λ number. option_map (λ text. (number, text)) (text_of (column row 2)))
    (number_of (column row 1))
    else None) (number_of (column row 0))

-- the same where it is the one row
abbrev pub setup_shown : List Row → Option (ℕ × List ℕ)
setup_shown rows = if length rows == 1 then shown_of_row (slice_index_or rows 0 []) else None

-- `setup` has its one row, of this version and this text: as it is shown, and as it is stored
abbrev pub HasShownRow : List Row → ℕ → List ℕ → Type 0
HasShownRow rows number text = setup_shown rows ≡ Some (number, text)

abbrev pub HasStoredRow : Database → ℕ → List ℕ → Type 0
HasStoredRow db number text = HasSetup number text db.trees

-- the setup of this version that is shown
abbrev pub IsShownSetup : ℕ → List Row → List Constituency → Type 0
IsShownSetup number rows setup =
    (text : List ℕ) × HasShownRow rows number text × (setup_of_text text ≡ Ok setup)

-- The text that is stored, in this version, is that of this setup.
pub record HasSetupRow (number : ℕ) (setup : List Constituency) (db : Database) : Type 0 where
  pub text : List ℕ
  pub reads : setup_of_text text ≡ Ok setup
  pub row : HasSetup number text db.trees

-- ---- why tables are not taken

-- `setup` does not have its one row, of this version
abbrev pub Lacks : (ℕ → List ℕ → Type 0) → ℕ → Type 0
Lacks HasRow number = (text : List ℕ) → HasRow number text → ⊥

-- why a stored text is not taken: its first fault, or out of memory
abbrev pub IsTextFault : List ℕ → OpenFault → Type 0
IsTextFault text (Setup fault) = IsFaultIn (setup_of_text text) fault × (fault ≢ setup_fault.Memory)
IsTextFault text Memory = Unit {0}
IsTextFault text other = ⊥

-- Why tables are not taken that should be of this version: the row is of today's version instead;
-- there is none of either version, or the tables are those of no lawful state; or the text is at
-- fault.
abbrev pub IsTablesFault : ℕ → (ℕ → List ℕ → Type 0) → Type 0 → OpenFault → Type 0
IsTablesFault number HasRow Unlawful NoTables =
    (number ≢ version) × (text : List ℕ) × HasRow version text
IsTablesFault number HasRow Unlawful BadTables =
    (Lacks HasRow number × Lacks HasRow version) ⊎ Unlawful
IsTablesFault number HasRow Unlawful fault =
    (text : List ℕ) × HasRow number text × IsTextFault text fault

-- or the database failed, or was out of memory, at any place
abbrev pub OrFails : (OpenFault → Type 0) → OpenFault → Type 0
OrFails IsFault Memory = Unit {0}
OrFails IsFault Store = Unit {0}
OrFails IsFault fault = IsFault fault

-- the tables are those of no lawful state over the setup that is stored
abbrev pub AreOfNoStored : ℕ → Database → Type 0
AreOfNoStored number db =
    (setup : List Constituency) × HasSetupRow number setup db × AreTablesOfNone setup db

-- why no setup is read, of what is shown of `setup` and of the table itself
abbrev pub IsShownFault : ℕ → List Row → OpenFault → Type 0
IsShownFault number rows = IsTablesFault number (HasShownRow rows) ⊥

abbrev pub IsSetupFault : ℕ → Database → OpenFault → Type 0
IsSetupFault number db = IsTablesFault number (HasStoredRow db) ⊥

-- why tables of today's form are not taken, in a transaction and by an opening
abbrev pub IsJudgedFault : ℕ → Database → OpenFault → Type 0
IsJudgedFault number db = IsTablesFault number (HasStoredRow db) (AreOfNoStored number db)

abbrev pub IsTodayFault : Database → OpenFault → Type 0
IsTodayFault db = OrFails (IsJudgedFault version db)

-- this is answered of what a call in a transaction gave: its answer, or that it failed
abbrev pub IsAnswerOf : {X : Type 0} → Result (Result X OpenFault) Error → Result X OpenFault
    → Type 0
IsAnswerOf (Ok answer) result = result ≡ answer
IsAnswerOf (Err error) result = (result ≡ Err Memory) ⊎ (result ≡ Err Store)

-- ---- version 1

-- The tables of version 1 are those of no lawful state over the setup that is stored.
pub record AreFormerOfNone (db : Database) : Type 0 where
  pub setup : List Constituency
  pub text : List ℕ
  pub reads : setup_of_text text ≡ Ok setup
  pub row : HasSetup former_version text db.trees
  pub none : (s : State) → IsLawfulState setup s
      → AreTables setup text s (tables_taken_over text db.trees) → ⊥

-- why tables of version 1 are not taken over
abbrev pub IsFormerFault : Database → OpenFault → Type 0
IsFormerFault db =
    OrFails (IsTablesFault former_version (HasStoredRow db) (AreFormerOfNone db))

-- the numbers of every lawful state whose tables of version 1 they are
abbrev pub CountsFormer : BTreeMap (List ℕ) Statuses → List Constituency → Database → Type 0
CountsFormer known setup db =
    (text : List ℕ) (s : State) → IsLawfulState setup s
    → AreFormerTables setup text s db.trees → HasNumbers setup s (numbers_of known)

-- Beside the tables of version 1, whose rows stay, there is a table `past` without rows.
pub record AddsPast (old new : Seen) : Type 0 where
  pub has : HasTables new
  pub sound : IsDatabase new.now
  pub setup : new.now.trees setup_tree ≡ old.now.trees setup_tree
  pub each : (text : List ℕ) (t : KeyedTable)
      → new.now.trees (tree_of t) ≡ tables_taken_over text old.now.trees (tree_of t)

-- The tables of version 1 are those of one lawful state, and `past` is there. The connection was
-- open.
pub record IsReady (setup : List Constituency) (old new : Seen) : Type 0 where
  pub was_open : IsTrue old.is_open
  pub stored : HasSetupRow former_version setup old.now
  pub judged : IsJudged setup new.now
  pub past : AddsPast old new

-- They are taken over, and were those of one lawful state.
pub record AreTablesTakenOver (setup : List Constituency) (old new : Seen) : Type 0 where
  pub state : State
  pub text : List ℕ
  pub lawful : IsLawfulState setup state
  pub reads : setup_of_text text ≡ Ok setup
  pub former : AreFormerTables setup text state old.now.trees
  pub alone : (other : State) → IsLawfulState setup other
      → AreFormerTables setup text other old.now.trees → other ≡ state
  pub inside : IsInside new
  pub left : IsTakenOver text old.now.trees new.now.trees
  pub tables : AreTables setup text state new.now.trees

-- ---- the end of the transaction in which they are taken over

-- What was taken over is committed, and the setup is the answer.
pub record CommitsTakeover {X : Type 0} (got : Result (Result X OpenFault) Error) (last new : Seen)
    (r : Result X OpenFault) : Type 0 where
  pub setup : X
  pub taken : got ≡ Ok (Ok setup)
  pub is : r ≡ Ok setup
  pub shown : HasCleanDisk new → Shows last new last.now last.now false

-- What was written is undone; after a takeover that is said only of a transaction that had not
-- ended before. The fault is the one that was got, or that of the database.
pub record UndoesTakeover {X : Type 0} (got : Result (Result X OpenFault) Error) (last new : Seen)
    (r : Result X OpenFault) : Type 0 where
  pub why : OpenFault
  pub is : r ≡ Err why
  pub own : (got ≡ Ok (Err why)) ⊎ ((why ≡ Memory) ⊎ (why ≡ Store))
  pub undone : HasCleanDisk new → IfOk got (λ answer. OnOk answer (IsTrue last.in_transaction))
      → IsRolledBack last new

-- One of the two. A crash leaves what it could leave before, or what was taken over.
pub record EndsTakeover {X : Type 0} (got : Result (Result X OpenFault) Error) (last new : Seen)
    (r : Result X OpenFault) : Type 0 where
  pub ended : new.in_transaction ≡ false
  pub survives : Survives last new
      (λ db. (setup : X) × (got ≡ Ok (Ok setup)) × (db ≡ last.now.trees))
  pub how : CommitsTakeover got last new r ⊎ UndoesTakeover got last new r

-- ---- the schema

-- the tables of today, or of version 1, by their names and by all that defines them
abbrev pub IsTodaySchema : Schema → Type 0
IsTodaySchema schema =
    (schema ≡ office_schema) × (has_former_tables schema ≡ true)
    × (has_table schema (codes "past") ≡ true)

abbrev pub IsFormerSchema : Schema → Type 0
IsFormerSchema schema =
    (schema ≡ former_schema) × (has_former_tables schema ≡ true)
    × (has_table schema (codes "past") ≡ false)

-- why a schema is not one of them: a table of version 1 is missing; the database or out of memory
-- may be the reason at any place
abbrev pub IsSchemaFault : Schema → OpenFault → Type 0
IsSchemaFault schema NoTables = has_former_tables schema ≡ false
IsSchemaFault schema Memory = Unit {0}
IsSchemaFault schema Store = Unit {0}
IsSchemaFault schema fault = ⊥
