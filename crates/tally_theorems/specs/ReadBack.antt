-- What is published of the returns is read back: of a lawful state, the rows of the returns text of
-- a constituency are one Lodge for each return that is recorded. So an import of it into an office
-- that has no return yet lodges each of them and nothing else.
use Rattle.std.specs.Prelude.{◌≡◌, ℕ, Bool, List, [], ◌∷◌, Some, None, Ok, is_some, count_by, map}
use Rattle.std.specs.Prelude.{option_map}
use Rattle.std.specs.List.{flat_map}
use Rattle.std.specs.Option.{option_map_or}
use Rattle.tally_setup.specs.Constituency.{Constituency}
use Rattle.tally_setup.specs.Limits.{IsSetup}
use Rattle.tally_setup.specs.Setup.{constituency_with}
use Rattle.tally_returns.specs.Return.{StationReturn, first_return}
use Rattle.tally_returns.specs.State.{State, opening}
use Rattle.tally_returns.specs.StationRows.{station_rows}
use Rattle.tally_returns.specs.declared.ask.Ask.TheVariants as ask
use Rattle.tally_returns.specs.declared.station_row.StationRow.{StationRow}
use Rattle.tally_machine_law.specs.LawfulState.{IsLawfulState}
use Rattle.tally_keeper.specs.Keeper.{ImportsComing}
use Rattle.tally_returns_rows.specs.Source.{Delivery}
use Rattle.tally_returns_rows.specs.declared.import.ImportCount.{ImportCount}
use Rattle.tally_returns_rows.specs.declared.import.Row.{Row}
use Rattle.tally_returns_rows.specs.declared.import.Row.TheVariants as row
use Rattle.tally_import_records.specs.declared.separator.Sep.TheVariants.{Comma}
use Rattle.tally_import.specs.ReturnRows.{text_coming}
use Rattle.tally_report_overview.specs.ReturnsText.{returns_text}

-- the stations of a constituency in a state
abbrev pub rows_in : State → Constituency → List StationRow
rows_in s con = station_rows s.returns con

-- a constituency of a lawful state of a setup
pub record IsConOf (cons : List Constituency) (s : State) (con : Constituency) : Type 0 where
  pub limits : IsSetup cons
  pub lawful : IsLawfulState cons s
  pub its : constituency_with con.code cons ≡ Some con

-- the Lodge of a station's return, if there is one
abbrev pub lodge_of : StationRow → List Row
lodge_of station = option_map_or
    (λ (standing : StationReturn).
    row.Lodge (ask.Lodge station.station standing.slip standing.counts) ∷ [])
    station.found []

-- What comes of the returns text of a constituency of a lawful state: one Lodge for each return
-- that is recorded, in the order of the setup, with its slip and counts, no bad row and no fault.
abbrev pub ReturnsAreReadBack : Type 0
ReturnsAreReadBack =
    (setup : List Constituency) (s : State) (con : Constituency) → IsConOf setup s con
    → text_coming con Comma (returns_text con (rows_in s con))
    ≡ record { rows = flat_map lodge_of (rows_in s con); fault = None }

-- an import of the returns text of a constituency, into the opening state, that was done
abbrev pub ImportsReturns : List Constituency → State → Constituency → ImportCount → State → Type 0
ImportsReturns setup s con count t = (d : Delivery)
    × ImportsComing setup (Some (opening setup))
    (Some (text_coming con Comma (returns_text con (rows_in s con)))) d (Ok count) (Some t)

-- this many rows were lodged, and nothing else came
abbrev pub all_lodged : ℕ → ImportCount
all_lodged n = record { lodged = n; same = 0; differs = 0; refused = 0; bad = 0; first = None }

abbrev pub has_return : StationRow → Bool
has_return station = is_some station.found

-- such an import is counted lodged, once for each return that is recorded, and nothing else
abbrev pub ReadBackIsCountedLodged : Type 0
ReadBackIsCountedLodged =
    (setup : List Constituency) (s t : State) (con : Constituency) (count : ImportCount)
    → IsConOf setup s con → ImportsReturns setup s con count t
    → count ≡ all_lodged (count_by has_return (rows_in s con))

-- a return as it is lodged: with revision 1, received, and an empty note
abbrev pub as_lodged : StationRow → StationRow
as_lodged station = record station {
  found = option_map (λ (standing : StationReturn). first_return standing.slip standing.counts)
      station.found;
}

-- after it the returns of the constituency are those that were recorded, as they are lodged
abbrev pub ReadBackReturnsAreThose : Type 0
ReadBackReturnsAreThose =
    (setup : List Constituency) (s t : State) (con : Constituency) (count : ImportCount)
    → IsConOf setup s con → ImportsReturns setup s con count t
    → rows_in t con ≡ map as_lodged (rows_in s con)
