-- The stations of a constituency, each with its return where it has one.
use Rattle.std.specs.Prelude.{List, map}
use Rattle.std.specs.FinMap.{get}
use Rattle.tally_setup.specs.Constituency.{Constituency}
use Rattle.tally_setup.specs.declared.constituency.Station.{Station}
use Rattle.tally_returns.specs.Return.{Returns}
use Rattle.tally_returns.specs.declared.station_row.StationRow.{StationRow}

abbrev pub station_row : Returns → Station → StationRow
station_row returns station = record {
  station = station.code;
  electors = station.electors;
  found = get returns station.code;
}

-- in the setup's order
abbrev pub station_rows : Returns → Constituency → List StationRow
station_rows returns con = map (station_row returns) con.stations
