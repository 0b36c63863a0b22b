-- How many returns of stations are in each status.
use Rattle.std.specs.Prelude.{List, length}
use Rattle.tally_setup.specs.declared.constituency.Station.{Station}
use Rattle.tally_returns.specs.Progress.{is_received, is_queried, is_corrected, is_closed}
use Rattle.tally_returns.specs.Progress.{count_with_status}
use Rattle.tally_returns.specs.Return.{Returns}
use Rattle.tally_store_rows.specs.declared.views.Statuses.{Statuses}

-- how many of these stations there are, and how many of their returns are in each status
abbrev pub statuses_in : Returns → List Station → Statuses
statuses_in returns stations = record {
  stations = length stations;
  received = count_with_status is_received returns stations;
  queried = count_with_status is_queried returns stations;
  corrected = count_with_status is_corrected returns stations;
  closed = count_with_status is_closed returns stations;
}
