-- What the judgement of rows says of the tables that answered them.
use Rattle.std.proofs.Common.{◌≡◌, ℕ, List, [], ◌∷◌}
use Rattle.sqlite.specs.State.{State as Seen}
use Rattle.tally_setup.specs.Constituency.{Constituency}
use Rattle.tally_setup.specs.Limits.{IsSetup}
use Rattle.tally_returns.specs.State.{State}
use Rattle.tally_machine_law.specs.LawfulState.{IsLawfulState}
use Rattle.tally_store_schema.specs.Cells.{setup_row}
use Rattle.tally_store_schema.specs.Tables.{setup_tree}
use Rattle.tally_store_rows.specs.TablesOfState.{AreTables, version}
use Rattle.tally_store_open.specs.OfficeRows.{AreLawfulRows, AreRowsOfOneState, RowsInOrder}
use Rattle.tally_store_open.specs.internal.Opening.{AreOfOne, ShowsOffice}
use Rattle.tally_store_open.proofs.TableLemmas.{rows_of_tables, tables_of_rows}

-- rows that were accepted: the tables are those of one lawful state
pub accepted : (setup : List Constituency) (text : List ℕ) (seen : Seen) (rows : RowsInOrder) → IsSetup setup → ShowsOffice seen rows → seen.now.trees setup_tree ≡ setup_row version text ∷ [] → AreRowsOfOneState setup rows → AreOfOne setup text seen.now.trees
accepted setup text seen rows limits shown own h = record {
  state = h.state;
  lawful = h.lawful;
  tables = tables_of_rows setup text h.state seen rows shown own h.rows_are;
  alone = λ other lawful tables. h.alone other lawful (rows_of_tables setup other limits lawful text seen rows shown tables);
}

-- rows that were refused: no lawful state over the setup has these tables
pub refused : (setup : List Constituency) (seen : Seen) (rows : RowsInOrder) → IsSetup setup → ShowsOffice seen rows → (AreLawfulRows setup rows → ⊥) → (text : List ℕ) (s : State) → IsLawfulState setup s → AreTables setup text s seen.now.trees → ⊥
refused setup seen rows limits shown none text s lawful tables = none (s, lawful, rows_of_tables setup s limits lawful text seen rows shown tables)
