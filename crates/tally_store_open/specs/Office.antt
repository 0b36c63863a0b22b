-- Whether the database of an office is that of a state, between transactions.
use Rattle.std.specs.Prelude.{◌≡◌, List, ℕ, Ok}
use Rattle.sqlite.specs.Effect.{IsDatabase}
use Rattle.sqlite.specs.State.{State as Seen}
use Rattle.sqlite_trees.specs.Tree.{Trees}
use Rattle.tally_store_schema.specs.Rows.{HaveDistinctRowids}
use Rattle.tally_setup.specs.Constituency.{Constituency}
use Rattle.tally_rules.specs.Reading.{setup_of_text}
use Rattle.tally_returns.specs.State.{State}
use Rattle.tally_store_schema.specs.Tables.{office_schema}
use Rattle.tally_store_schema.specs.declared.table.KeyedTable.{KeyedTable}
use Rattle.tally_store_schema.specs.Office.{tree_of}
use Rattle.tally_store_rows.specs.TablesOfState.{AreTables}

-- the catalogue that is stored lists the tables of the office and no others, and the rows obey them
abbrev pub HasOfficeSchema : Trees → Type 0
HasOfficeSchema db = IsDatabase (record { schema = office_schema; trees = db })

-- Stored are the tables of a state, over the setup that this text is, and no others.
pub record IsWholeOffice (setup : List Constituency) (text : List ℕ) (s : State) (db : Trees)
    : Type 0 where
  pub reads : setup_of_text text ≡ Ok setup
  pub tables : AreTables setup text s db
  pub schema : HasOfficeSchema db

-- Between transactions the database is that of a state, over a setup that has this text. Its tables
-- are those of the state. It has no others, in its catalogue either, and all of it was committed.
-- The rowids of a table differ, of which a state says nothing.
pub record HasState (setup : List Constituency) (text : List ℕ) (s : State) (seen : Seen)
    : Type 0 where
  pub tables : AreTables setup text s seen.now.trees
  pub schema : seen.now.schema ≡ office_schema
  pub sound : IsDatabase seen.now
  pub distinct : (t : KeyedTable) → HaveDistinctRowids (seen.now.trees (tree_of t))
  pub settled : seen.committed ≡ seen.now

-- the same of a setup, by whichever text
pub record IsOffice (setup : List Constituency) (s : State) (seen : Seen) : Type 0 where
  pub text : List ℕ
  pub reads : setup_of_text text ≡ Ok setup
  pub has : HasState setup text s seen
