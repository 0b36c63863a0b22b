use Rattle.std.proofs.Common.{◌≡◌, ◌++◌, drop, string_bytes}
use Rattle.tally_report_lines.specs.Columns.{lines_from, list_lines}
use Rattle.tally_report.specs.QuotientsText.{quotients_line}
use Rattle.tally_report.proofs.quotients.push_lists.Given as goal

abbrev pub invariant-loop-place : goal.invariant-loop-place
invariant-loop-place g l =
    let line = quotients_line (g.D.Divisors.divisor l.divisors) (g.D.Divisors.unit_of l.divisors) l.last l.con l.view in
    string_bytes l.text ++ lines_from line l.place (drop l.place l.con.lists) ≡ string_bytes l.fn.text ++ list_lines line l.con
