use Rattle.std.proofs.Common.{take}
use Rattle.std.specs.List.{AllZip}
use Rattle.tally_machine_law.specs.Outcome.{IsLawfulView}
use Rattle.tally_report_result.specs.Result.{AreResults}
use Rattle.tally_report_result.specs.internal.Found.{data_of}
use Rattle.tally_report_result.proofs.result.result_values.Given as goal

abbrev pub invariant-loop-place : goal.invariant-loop-place
invariant-loop-place l = AllZip IsLawfulView l.cons l.views → AreResults (take l.place l.cons) (take l.place l.views) (data_of l.values.items)
