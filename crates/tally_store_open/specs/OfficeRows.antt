-- The rows of all tables but `setup`, those of each table in the order of its key.
use Rattle.std.specs.Prelude.{◌≡◌, ℕ, List}
use Rattle.std.specs.FinMap.{entries}
use Rattle.std.specs.List.{flat_map}
use Rattle.sqlite_value.specs.Order.{Row}
use Rattle.tally_setup.specs.Constituency.{Constituency}
use Rattle.tally_machine_law.specs.LawfulState.{IsLawfulState}
use Rattle.tally_returns.specs.State.{State}
use Rattle.tally_store_rows.specs.Cells.{return_rows, count_rows, con_rows, lot_rows, seat_rows}
use Rattle.tally_store_rows.specs.Cells.{gone_rows, total_rows, past_rows}
use Rattle.tally_store_rows.specs.TablesOfState.{AreSeats}
use Rattle.tally_store_rows.specs.Views.{Tables, tables_in}
use Rattle.tally_store_open.specs.declared.office.OfficeRows.{OfficeRows}

pub record RowsInOrder : Type 0 where
  pub returns : List Row
  pub counts : List Row
  pub cons : List Row
  pub tables : Tables

abbrev pub rows_in_order : OfficeRows → RowsInOrder
rows_in_order rows = record {
  returns = rows.returns.now;
  counts = rows.counts.now;
  cons = rows.cons.now;
  tables = tables_in rows.tables;
}

-- These are the rows of the tables of a state over a setup, as `AreTables` has them, without their
-- rowids and in the order of the keys.
pub record AreOfficeRows (setup : List Constituency) (s : State) (rows : RowsInOrder) : Type 0 where
  pub given : List ℕ → List ℕ
  pub allotted : AreSeats setup s given
  pub returns : rows.returns ≡ flat_map (return_rows setup) (entries s.returns)
  pub counts : rows.counts ≡ flat_map count_rows (entries s.returns)
  pub cons : rows.cons ≡ flat_map con_rows (entries s.cons)
  pub lots : rows.tables.lots ≡ flat_map lot_rows (entries s.cons)
  pub seats : rows.tables.seats ≡ flat_map (seat_rows given) (entries s.cons)
  pub gone : rows.tables.gone ≡ flat_map gone_rows (entries s.cons)
  pub totals : rows.tables.totals ≡ flat_map (total_rows setup s.returns) (entries s.cons)
  pub past : rows.tables.past ≡ flat_map past_rows (entries s.cons)

-- These are the rows of a lawful state.
abbrev pub AreLawfulRows : List Constituency → RowsInOrder → Type 0
AreLawfulRows setup rows = (s : State) × IsLawfulState setup s × AreOfficeRows setup s rows

-- These are the rows of a lawful state, and of no other one.
pub record AreRowsOfOneState (setup : List Constituency) (rows : RowsInOrder) : Type 0 where
  pub state : State
  pub lawful : IsLawfulState setup state
  pub rows_are : AreOfficeRows setup state rows
  pub alone : (other : State) → IsLawfulState setup other → AreOfficeRows setup other rows →
      other ≡ state
