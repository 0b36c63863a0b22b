use Rattle.std.proofs.Common.{◌≡◌, ◌≤◌, ◌++◌, All, length, vec_capacity}
use Rattle.tally_setup.specs.Codes.{AreDistinct}
use Rattle.tally_setup.specs.Limits.{IsStation}
use Rattle.tally_setup.specs.Constituency.{station_codes}
use Rattle.tally_rules.specs.Reading.{station_entry}
use Rattle.tally_setup.specs.Setup.{all_station_codes}
use Rattle.tally_rules.proofs.ReadLemmas.{IsReadTo}
use Rattle.tally_rules.proofs.read.entry.read_each_station.Given as goal

abbrev pub invariant-loop-station : goal.invariant-loop-station
invariant-loop-station l =
    IsReadTo (station_entry l.before l.con) l.entries l.stations.items l.station-index
    × (l.taken ≡ all_station_codes l.before ++ station_codes l.stations.items)
    × AreDistinct l.taken
    × All IsStation l.stations.items
    × (length l.entries ≤ vec_capacity l.stations)
