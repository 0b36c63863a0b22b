-- What is found of the stations of a constituency, with their returns.
use Rattle.std.specs.Prelude.{◌≡◌, ℕ, List, map, Some, Vec, Result}
use Rattle.std.specs.declared.alloc.Global.{Global}
use Rattle.sqlite.specs.State.{State as Seen}
use Rattle.tally_setup.specs.Constituency.{Constituency}
use Rattle.tally_setup.specs.declared.constituency.Station.{Station}
use Rattle.tally_returns.specs.State.{State}
use Rattle.tally_returns.specs.StationRows.{station_row}
use Rattle.tally_returns.specs.declared.refusal.Refusal.{Refusal}
use Rattle.tally_returns.specs.declared.station_row.StationRow.{StationRow}
use Rattle.tally_machine_law.specs.LawfulState.{IsLawfulState}
use Rattle.tally_keeper.specs.Shown.{ShowsReturns}
use Rattle.tally_store_rows.specs.TablesOfState.{AreTables}

-- The rows found are those of these stations, in every lawful state whose tables are there.
abbrev pub FindsRows : List Constituency → List Station → Seen → List StationRow → Type 0
FindsRows setup stations seen rows =
    (text : List ℕ) (s : State) → IsLawfulState setup s → AreTables setup text s seen.now.trees
    → rows ≡ map (station_row s.returns) stations

-- The stations of the constituency of a code are shown with the returns of every lawful state whose
-- tables are there.
abbrev pub FindsStations : List Constituency → List ℕ → Seen
    → Result (Vec StationRow Global) Refusal → Type 0
FindsStations setup code seen shown =
    (text : List ℕ) (s : State) → IsLawfulState setup s → AreTables setup text s seen.now.trees
    → ShowsReturns setup (Some s) code shown (Some s)
