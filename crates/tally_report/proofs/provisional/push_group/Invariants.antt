use Rattle.std.proofs.Common.{◌≡◌, ◌++◌, drop, string_bytes}
use Rattle.tally_report_lines.specs.Columns.{lines_from, list_lines}
use Rattle.tally_report.specs.ProvisionalText.{member}
use Rattle.tally_report.proofs.provisional.push_group.Given as goal

abbrev pub invariant-loop-place : goal.invariant-loop-place
invariant-loop-place l =
    string_bytes l.text ++ lines_from (member l.group) l.place (drop l.place l.con.lists) ≡ string_bytes l.fn.text ++ list_lines (member l.group) l.con
