use Rattle.std.proofs.Common.{◌≡◌, ◌≤◌, ◌*◌, sum, take}
use Rattle.tally_report_overview.proofs.country.sum_of.Given as goal

abbrev pub invariant-loop-n : goal.invariant-loop-n
invariant-loop-n l = record { is : l.sum ≡ sum (take l.n-index l.seats); within : l.sum ≤ l.n-index * 4294967295 }
