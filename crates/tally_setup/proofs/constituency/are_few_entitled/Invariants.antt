use Rattle.std.proofs.Common.{◌≡◌, ◌+◌, take}
use Rattle.std.specs.Prelude.{sum_by}
use Rattle.tally_setup.specs.Constituency.{entitled}
use Rattle.tally_setup.proofs.constituency.are_few_entitled.Given as goal

-- what is left is what the stations so far have not taken
abbrev pub invariant-loop-station : goal.invariant-loop-station
invariant-loop-station l = sum_by entitled (take l.station-index l.stations) + l.left ≡ 5000000000
