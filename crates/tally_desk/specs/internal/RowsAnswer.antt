-- The answer that shows a report of the stations of a constituency.
use Rattle.std.specs.Prelude.{ℕ, List}
use Rattle.tally_setup.specs.Constituency.{Constituency}
use Rattle.tally_returns.specs.declared.station_row.StationRow.{StationRow}
use Rattle.tally_desk.specs.Requests.{returns_answer, stations_answer}
use Rattle.tally_report_names.specs.declared.shown.StationsReport.{StationsReport}
use Rattle.tally_report_names.specs.declared.shown.StationsReport.TheVariants as of_stations

abbrev pub rows_answer : StationsReport → Constituency → List StationRow → List ℕ
rows_answer of_stations.Returns = returns_answer
rows_answer of_stations.Stations = stations_answer
