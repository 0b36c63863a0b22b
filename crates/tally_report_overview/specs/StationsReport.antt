-- The reports of a constituency that are made of its stations.
use Rattle.std.specs.Prelude.{ℕ, List}
use Rattle.tally_setup.specs.Constituency.{Constituency}
use Rattle.tally_returns.specs.declared.station_row.StationRow.{StationRow}
use Rattle.tally_report_overview.specs.ReturnsText.{returns_text}
use Rattle.tally_report_overview.specs.StationsText.{stations_text}
use Rattle.tally_report_names.specs.declared.shown.StationsReport.{StationsReport}
use Rattle.tally_report_names.specs.declared.shown.StationsReport.TheVariants as of_stations

-- the text of a report that is made of stations
abbrev pub stations_report : StationsReport → Constituency → List StationRow → List ℕ
stations_report of_stations.Returns con rows = returns_text con rows
stations_report of_stations.Stations con rows = stations_text con rows
