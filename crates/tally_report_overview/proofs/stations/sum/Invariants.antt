use Rattle.std.proofs.Common.{◌≡◌, ◌≤◌, ◌*◌, sum, take}
use Rattle.tally_report_overview.proofs.stations.sum.Given as goal

abbrev pub invariant-loop-number : goal.invariant-loop-number
invariant-loop-number l = (l.total ≡ sum (take l.number-index l.numbers)) × (l.total ≤ 4294967295 * l.number-index)
