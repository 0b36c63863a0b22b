use Rattle.std.proofs.Common.{◌≡◌, map, take, Some}
use Rattle.tally_setup.specs.internal.Index.{station_at}
use Rattle.tally_setup.specs.Setup.{all_stations}
use Rattle.tally_setup.proofs.setup.station_places.Given as goal

abbrev pub invariant-loop-con : goal.invariant-loop-con
invariant-loop-con l = map (station_at l.cons) l.places.items ≡ map Some (all_stations (take l.con l.cons))
