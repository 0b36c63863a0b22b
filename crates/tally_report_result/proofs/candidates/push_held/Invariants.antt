use Rattle.std.proofs.Common.{◌≡◌, ◌++◌, map, take}
use Rattle.tally_report_result.specs.Values.{holder_value}
use Rattle.tally_report_result.specs.internal.Found.{data_of}
use Rattle.tally_report_result.proofs.candidates.push_held.Given as goal

abbrev pub invariant-loop-place : goal.invariant-loop-place
invariant-loop-place l = data_of l.values.items ≡ data_of l.fn.values.items ++ map (holder_value l.list) (take l.place-index l.held)
