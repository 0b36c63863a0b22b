use Rattle.std.proofs.Common.{◌≡◌, ◌++◌, [], map, take}
use Rattle.tally_report_result.specs.Values.{gone_value}
use Rattle.tally_report_result.specs.internal.Found.{data_of}
use Rattle.tally_report_result.proofs.candidates.gone_values.Given as goal

abbrev pub invariant-loop-candidate : goal.invariant-loop-candidate
invariant-loop-candidate l = data_of l.values.items ≡ [] ++ map (gone_value l.con) (take l.candidate-index l.gone)
