use Rattle.std.proofs.Common.{◌≡◌, ◌++◌, drop, string_bytes}
use Rattle.tally_report_lines.specs.Columns.{lines_from, list_lines}
use Rattle.tally_report.specs.HoldersText.{holder_lines}
use Rattle.tally_report.proofs.holders.push_lists.Given as goal

abbrev pub invariant-loop-place : goal.invariant-loop-place
invariant-loop-place l =
    string_bytes l.text ++ lines_from (holder_lines l.view) l.place (drop l.place l.con.lists) ≡ string_bytes l.fn.text ++ list_lines (holder_lines l.view) l.con
