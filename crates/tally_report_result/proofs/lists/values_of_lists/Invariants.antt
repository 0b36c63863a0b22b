use Rattle.std.proofs.Common.{◌≡◌, ◌++◌, drop}
use Rattle.tally_report_result.specs.Values.{each_list, list_values, values_from}
use Rattle.tally_report_result.specs.internal.Found.{data_of, parts_of}
use Rattle.tally_report_result.proofs.lists.values_of_lists.Given as goal

abbrev pub invariant-loop-place : goal.invariant-loop-place
invariant-loop-place l = data_of l.values.items ++ values_from (each_list l.con l.view (parts_of l.parts)) l.place (drop l.place l.con.lists) ≡ list_values (each_list l.con l.view (parts_of l.parts)) l.con
