use Rattle.std.proofs.Common.{◌≡◌, ◌+◌, ◌++◌, drop, string_bytes}
use Rattle.tally_report_allotment.specs.AllotmentText.{won_line}
use Rattle.tally_report_lines.specs.Columns.{lines_from}
use Rattle.tally_report_allotment.proofs.lines.push_awards.Given as goal

abbrev pub invariant-loop-index : goal.invariant-loop-index
invariant-loop-index l = string_bytes l.text ++ lines_from (won_line l.lists) (l.index + 1) (drop l.index l.won) ≡ string_bytes l.fn.text ++ lines_from (won_line l.lists) 1 l.won
