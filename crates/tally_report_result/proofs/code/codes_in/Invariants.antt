use Rattle.std.proofs.Common.{◌≡◌, ◌++◌, drop}
use Rattle.tally_report_result.specs.Values.{member_code, list_values, values_from}
use Rattle.tally_report_result.specs.internal.Found.{data_of}
use Rattle.tally_report_result.proofs.code.codes_in.Given as goal

abbrev pub invariant-loop-place : goal.invariant-loop-place
invariant-loop-place l = data_of l.values.items ++ values_from (member_code l.group) l.place (drop l.place l.con.lists) ≡ list_values (member_code l.group) l.con
