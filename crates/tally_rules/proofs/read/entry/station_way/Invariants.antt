use Rattle.std.proofs.Common.{◌≡◌, ◌+◌, ◌≤◌, drop}
use Rattle.tally_rules.specs.Reading.{station_way}
use Rattle.tally_rules.proofs.read.entry.station_way.Given as goal

abbrev pub invariant-loop-index : goal.invariant-loop-index
invariant-loop-index l =
    (station_way 1 l.cons l.con l.place l.code ≡ station_way (l.index + 1) (drop l.index l.cons) l.con l.left l.code)
    × (l.left ≤ l.place)
