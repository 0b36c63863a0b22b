use Rattle.std.proofs.Common.{◌≡◌, ◌++◌, [], map, take}
use Rattle.tally_report_result.specs.Values.{code_value}
use Rattle.tally_report_result.specs.internal.Found.{data_of}
use Rattle.tally_report_result.proofs.code.codes_of.Given as goal

abbrev pub invariant-loop-place : goal.invariant-loop-place
invariant-loop-place l = data_of l.values.items ≡ [] ++ map (code_value l.con) (take l.place-index l.places)
