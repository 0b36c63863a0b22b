-- How far constituencies have come.
use Rattle.std.specs.Prelude.{ℕ, Bool, true, false, List, map, length, count_by}
use Rattle.std.specs.Option.{option_map_or}
use Rattle.std.specs.FinMap.{get}
use Rattle.tally_setup.specs.Constituency.{Constituency}
use Rattle.tally_setup.specs.declared.constituency.Station.{Station}
use Rattle.tally_returns.specs.Return.{StationReturn, Returns}
use Rattle.tally_returns.specs.State.{State, con_state}
use Rattle.tally_returns.specs.declared.progress.ProgressRow.{ProgressRow}
use Rattle.tally_returns.specs.declared.returns.Status.{Status}
use Rattle.tally_returns.specs.declared.returns.Status.TheVariants.{Received, Queried, Corrected}
use Rattle.tally_returns.specs.declared.returns.Status.TheVariants.{Closed}

abbrev pub is_received : Status → Bool
is_received Received = true
is_received Queried = false
is_received Corrected = false
is_received Closed = false

abbrev pub is_queried : Status → Bool
is_queried Received = false
is_queried Queried = true
is_queried Corrected = false
is_queried Closed = false

abbrev pub is_corrected : Status → Bool
is_corrected Received = false
is_corrected Queried = false
is_corrected Corrected = true
is_corrected Closed = false

abbrev pub is_closed : Status → Bool
is_closed Received = false
is_closed Queried = false
is_closed Corrected = false
is_closed Closed = true

-- how many of these stations have a return of such a status
abbrev pub count_with_status : (Status → Bool) → Returns → List Station → ℕ
count_with_status is_status returns stations =
    count_by (λ (station : Station).
    option_map_or (λ (standing : StationReturn). is_status standing.status)
    (get returns station.code) false) stations

abbrev pub progress_row : State → Constituency → ProgressRow
progress_row s con = record {
  con = con.code;
  stations = length con.stations;
  received = count_with_status is_received s.returns con.stations;
  queried = count_with_status is_queried s.returns con.stations;
  corrected = count_with_status is_corrected s.returns con.stations;
  closed = count_with_status is_closed s.returns con.stations;
  edition = (con_state s con.code).edition;
  certified = (con_state s con.code).certified;
}

-- how far each constituency has come, in the setup's order
abbrev pub progress : List Constituency → State → List ProgressRow
progress setup s = map (progress_row s) setup
