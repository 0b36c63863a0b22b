use Rattle.std.proofs.Common.{◌≡◌, map, take}
use Rattle.tally_returns.specs.StationRows.{station_row}
use Rattle.tally_core.proofs.book.shown.rows_of.Given as goal

abbrev pub invariant-loop-station : goal.invariant-loop-station
invariant-loop-station l = l.rows.items ≡ map (station_row l.ledger.returns) (take l.station-index l.stations)
