use Rattle.std.proofs.Common.{◌≡◌, ◌++◌, drop, string_bytes}
use Rattle.tally_report_lines.specs.Columns.{lines_from}
use Rattle.tally_report_allotment.specs.RecountText.{decisive_line}
use Rattle.tally_report_allotment.proofs.recount.push_decisive.Given as goal

abbrev pub invariant-loop-place : goal.invariant-loop-place
invariant-loop-place l =
    string_bytes l.text ++ lines_from (decisive_line l.marks) l.place (drop l.place l.stations)
    ≡ string_bytes l.fn.text ++ lines_from (decisive_line l.marks) 0 l.stations
