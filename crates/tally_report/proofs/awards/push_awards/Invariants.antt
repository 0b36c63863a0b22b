use Rattle.std.proofs.Common.{◌≡◌, ◌+◌, ◌++◌, drop, string_bytes}
use Rattle.tally_report.specs.AwardsText.{award_line}
use Rattle.tally_report_lines.specs.Columns.{lines_from}
use Rattle.tally_report.proofs.awards.push_awards.Given as goal

abbrev pub invariant-loop-index : goal.invariant-loop-index
invariant-loop-index l = string_bytes l.text ++ lines_from (award_line l.con) (l.index + 1) (drop l.index l.awards) ≡ string_bytes l.fn.text ++ lines_from (award_line l.con) 1 l.awards
