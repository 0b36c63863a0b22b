-- The opening of a database: which tables are those of an office, and why a database is not opened.
use Rattle.std.specs.Prelude.{◌≡◌, ◌≢◌, ◌⊎◌, ◌==◌, if◌then◌else◌, ℕ, List, [], ◌∷◌, Ok, IsOk}
use Rattle.std.specs.Prelude.{IsTrue, false, codes}
use Rattle.std.specs.BTreeMap.{BTreeMap}
use Rattle.sqlite_trees.specs.Tree.{Trees}
use Rattle.sqlite.specs.Effect.{Database}
use Rattle.sqlite.specs.State.{State as Seen}
use Rattle.tally_setup.specs.Constituency.{Constituency}
use Rattle.tally_rules.specs.Fault.{IsFaultIn}
use Rattle.tally_rules.specs.Reading.{setup_of_text}
use Rattle.tally_rules.specs.declared.fault.SetupFault.TheVariants as setup_fault
use Rattle.tally_store_open.specs.Numbers.{HasNumbers, numbers_of}
use Rattle.tally_machine_law.specs.LawfulState.{IsLawfulState}
use Rattle.tally_returns.specs.State.{State}
use Rattle.tally_store_schema.specs.Cells.{setup_row}
use Rattle.tally_store_schema.specs.Made.{has_former_tables, has_table}
use Rattle.tally_store_schema.specs.Tables.{former_schema, office_schema, past_tree, setup_tree}
use Rattle.tally_store_rows.specs.TablesOfState.{AreTables, version}
use Rattle.tally_store_rows.specs.declared.views.Statuses.{Statuses}
use Rattle.tally_store_schema.specs.declared.table.KeyedTable.{KeyedTable}
use Rattle.tally_store_schema.specs.Office.{tree_of}
use Rattle.tally_store_open.specs.Office.{HasState}
use Rattle.tally_keeper.specs.declared.fault.OpenFault.{OpenFault}
use Rattle.tally_keeper.specs.declared.fault.OpenFault.TheVariants.{NoTables, BadTables, Setup}
use Rattle.tally_keeper.specs.declared.fault.OpenFault.TheVariants.{Memory, Store}

-- the version of the tables that had no `past`
abbrev pub former_version : ℕ
former_version = 1

-- `setup` has one row, of this version and this text
abbrev pub HasSetup : ℕ → List ℕ → Trees → Type 0
HasSetup number text db = db setup_tree ≡ setup_row number text ∷ []

-- the tables of version 1 once they are taken over: `setup` has the version of today, and `past` is
-- there without rows
abbrev pub tables_taken_over : List ℕ → Trees → Trees
tables_taken_over text db tree =
    if tree == setup_tree then setup_row version text ∷ []
    else (if tree == past_tree then [] else db tree)

-- each table is that of version 1 once it is taken over
pub record IsTakenOver (text : List ℕ) (found db : Trees) : Type 0 where
  pub setup : db setup_tree ≡ tables_taken_over text found setup_tree
  pub tables : (t : KeyedTable) → db (tree_of t) ≡ tables_taken_over text found (tree_of t)

-- the tables of version 1 of a state, which has no records
abbrev pub AreFormerTables : List Constituency → List ℕ → State → Trees → Type 0
AreFormerTables setup text s db =
    HasSetup former_version text db × AreTables setup text s (tables_taken_over text db)

-- The tables that were found are those of a state over the setup that their text is: in the version
-- of today, or in version 1.
abbrev pub AreFound : List Constituency → List ℕ → State → Database → Type 0
AreFound setup text s db =
    (setup_of_text text ≡ Ok setup)
    × (((db.schema ≡ office_schema) × AreTables setup text s db.trees)
    ⊎ ((db.schema ≡ former_schema) × AreFormerTables setup text s db.trees))

-- The tables that were found are those of a lawful state over this setup with this text, and of no
-- other one.
pub record AreOfOneState (setup : List Constituency) (text : List ℕ) (s : State) (db : Database)
    : Type 0 where
  pub lawful : IsLawfulState setup s
  pub found : AreFound setup text s db
  pub alone : (other : State) → IsLawfulState setup other → AreFound setup text other db → other ≡ s

-- no lawful state over any setup has these tables
abbrev pub AreOfNoState : Database → Type 0
AreOfNoState db =
    (setup : List Constituency) (text : List ℕ) (s : State) → IsLawfulState setup s
    → AreFound setup text s db → ⊥

-- a table of version 1 is missing; or the version is that of today, and `past` is missing
abbrev pub LacksTable : Database → Type 0
LacksTable db =
    (has_former_tables db.schema ≡ false)
    ⊎ ((has_table db.schema (codes "past") ≡ false) × (text : List ℕ)
    × HasSetup version text db.trees)

-- `setup` has its one row, of the version that goes with the tables
abbrev pub IsOfKnownVersion : List ℕ → Database → Type 0
IsOfKnownVersion text db =
    ((db.schema ≡ office_schema) × HasSetup version text db.trees)
    ⊎ ((db.schema ≡ former_schema) × HasSetup former_version text db.trees)

-- the setup that is stored there, in a version that goes with the tables
abbrev pub IsSetupOf : Database → List Constituency → Type 0
IsSetupOf db setup = (text : List ℕ) × IsOfKnownVersion text db × (setup_of_text text ≡ Ok setup)

-- no fault of the text comes before the others: where the version is known, the text is a setup
abbrev pub HasNoTextFault : Database → Type 0
HasNoTextFault db = (text : List ℕ) → IsOfKnownVersion text db → IsOk (setup_of_text text)

-- the tables of an office, in the version of today or in version 1, and no others
abbrev pub HasOfficeTables : Database → Type 0
HasOfficeTables db = (db.schema ≡ office_schema) ⊎ (db.schema ≡ former_schema)

-- Why a database is not opened: a table is missing; none is, and the rows are those of no state,
-- and the text is not at fault; the text of a known version is not a setup. The database or out of
-- memory may be the reason at any place.
abbrev pub IsOpenFault : Database → OpenFault → Type 0
IsOpenFault db NoTables = LacksTable db
IsOpenFault db BadTables =
    AreOfNoState db × HasNoTextFault db × HasOfficeTables db × (LacksTable db → ⊥)
IsOpenFault db (Setup fault) =
    (text : List ℕ) × IsOfKnownVersion text db × IsFaultIn (setup_of_text text) fault
    × (fault ≢ setup_fault.Memory)
IsOpenFault db Memory = Unit {0}
IsOpenFault db Store = Unit {0}

-- the numbers of every lawful state over this setup whose tables were found
abbrev pub CountsFound : BTreeMap (List ℕ) Statuses → List Constituency → Database → Type 0
CountsFound known setup db =
    (text : List ℕ) (s : State) → IsLawfulState setup s → AreFound setup text s db
    → HasNumbers setup s (numbers_of known)

-- the tables hold what was found, in the version of today
abbrev pub AreLeft : List ℕ → Database → Trees → Type 0
AreLeft text found db =
    ((found.schema ≡ office_schema) × (db ≡ found.trees))
    ⊎ ((found.schema ≡ former_schema) × IsTakenOver text found.trees db)

-- What an opening leaves: the tables that were found are those of one lawful state; they were left
-- as they are, or taken over; and the database is that of this state, with the same text.
pub record IsOpened (setup : List Constituency) (old new : Seen) : Type 0 where
  pub state : State
  pub text : List ℕ
  pub found : AreOfOneState setup text state old.now
  pub left : IsTrue new.is_open → AreLeft text old.now new.now.trees
  pub has : IsTrue new.is_open → HasState setup text state new
