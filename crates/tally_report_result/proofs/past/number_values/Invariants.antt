use Rattle.std.proofs.Common.{◌≡◌, ◌++◌, [], map, take}
use Rattle.tally_report_result.specs.Values.{whole}
use Rattle.tally_report_result.specs.internal.Found.{data_of}
use Rattle.tally_report_result.proofs.past.number_values.Given as goal

abbrev pub invariant-loop-number : goal.invariant-loop-number
invariant-loop-number l = data_of l.values.items ≡ [] ++ map whole (take l.number-index l.numbers)
