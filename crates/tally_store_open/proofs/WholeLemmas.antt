-- From the tables in a transaction to what a commit of them leaves.
use Rattle.std.proofs.Common.{◌≡◌, ℕ, List, Ok, subst, sym}
use Rattle.sqlite.specs.Effect.{Database, IsDatabase}
use Rattle.sqlite.specs.State.{State as Seen}
use Rattle.sqlite_schema.specs.declared.schema.Schema.{Schema}
use Rattle.sqlite_trees.specs.Tree.{Trees}
use Rattle.tally_setup.specs.Constituency.{Constituency}
use Rattle.tally_rules.specs.Reading.{setup_of_text}
use Rattle.tally_returns.specs.State.{State}
use Rattle.tally_store_schema.specs.Tables.{office_schema}
use Rattle.tally_store_schema.specs.Office.{IsInside}
use Rattle.tally_store_rows.specs.TablesOfState.{AreTables}
use Rattle.tally_store_open.specs.Office.{HasOfficeSchema, IsWholeOffice}

-- a database of this schema lists its tables
pub listed : (d : Database) → d.schema ≡ office_schema → IsDatabase d → HasOfficeSchema d.trees
listed d schema sound =
    subst (λ (s : Schema). let at : Database = record { schema = s; trees = d.trees } in IsDatabase at) schema sound

pub whole_inside : (setup : List Constituency) (text : List ℕ) (s : State) (seen : Seen) → setup_of_text text ≡ Ok setup → IsInside seen → AreTables setup text s seen.now.trees → IsWholeOffice setup text s seen.now.trees
whole_inside setup text s seen reads inside tables = record { reads = reads; tables = tables; schema = listed seen.now inside.schema inside.sound }

pub whole_left : (setup : List Constituency) (text : List ℕ) (s : State) (seen : Seen) (db : Trees) → setup_of_text text ≡ Ok setup → IsInside seen → AreTables setup text s seen.now.trees → db ≡ seen.now.trees → IsWholeOffice setup text s db
whole_left setup text s seen db reads inside tables is = subst (IsWholeOffice setup text s) (sym is) (whole_inside setup text s seen reads inside tables)
