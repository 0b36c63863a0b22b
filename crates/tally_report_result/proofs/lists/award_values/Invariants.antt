use Rattle.std.proofs.Common.{◌≡◌, ◌++◌, [], map, take}
use Rattle.tally_report_result.specs.Values.{award_value}
use Rattle.tally_report_result.specs.internal.Found.{data_of}
use Rattle.tally_report_result.proofs.lists.award_values.Given as goal

abbrev pub invariant-loop-award : goal.invariant-loop-award
invariant-loop-award l = data_of l.values.items ≡ [] ++ map (award_value l.con) (take l.award-index l.awards)
