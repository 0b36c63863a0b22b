use Rattle.std.proofs.Common.{◌≡◌, ◌++◌, drop}
use Rattle.tally_report_result.specs.Values.{holder_values, list_values, values_from}
use Rattle.tally_report_result.specs.internal.Found.{data_of}
use Rattle.tally_report_result.proofs.candidates.holders_of_lists.Given as goal

abbrev pub invariant-loop-place : goal.invariant-loop-place
invariant-loop-place l = data_of l.values.items ++ values_from (holder_values l.view) l.place (drop l.place l.con.lists) ≡ list_values (holder_values l.view) l.con
