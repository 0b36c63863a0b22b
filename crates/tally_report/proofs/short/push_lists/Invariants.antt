use Rattle.std.proofs.Common.{◌≡◌, ◌++◌, drop, string_bytes}
use Rattle.tally_report_lines.specs.Columns.{lines_from, list_lines}
use Rattle.tally_report.specs.ShortText.{short_line}
use Rattle.tally_report.proofs.short.push_lists.Given as goal

abbrev pub invariant-loop-place : goal.invariant-loop-place
invariant-loop-place l =
    string_bytes l.text ++ lines_from (short_line l.con l.view l.numbers) l.place (drop l.place l.con.lists)
    ≡ string_bytes l.fn.text ++ list_lines (short_line l.con l.view l.numbers) l.con
