use Rattle.std.proofs.Common.{◌≡◌, ◌++◌, replicate}
use Rattle.tally_report_result.specs.Values.{empty_seat}
use Rattle.tally_report_result.specs.internal.Found.{data_of}
use Rattle.tally_report_result.proofs.candidates.push_empty.Given as goal

abbrev pub invariant-loop : goal.invariant-loop
invariant-loop l = data_of l.values.items ≡ data_of l.fn.values.items ++ replicate l.counter (empty_seat l.list)
