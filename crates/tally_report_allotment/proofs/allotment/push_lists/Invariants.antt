use Rattle.std.proofs.Common.{◌≡◌, ◌++◌, drop, string_bytes}
use Rattle.tally_report_allotment.specs.AllotmentText.{allot_line}
use Rattle.tally_report_lines.specs.Columns.{lines_from}
use Rattle.tally_report_allotment.specs.Question.{question}
use Rattle.tally_report_allotment.specs.internal.Allotments.{details_of}
use Rattle.tally_report_allotment.proofs.allotment.push_lists.Given as goal

abbrev pub invariant-loop-place : goal.invariant-loop-place
invariant-loop-place l =
    string_bytes l.text ++ lines_from (allot_line (question l.asked) l.seats (details_of l.found)) l.place (drop l.place l.lists)
    ≡ string_bytes l.fn.text ++ lines_from (allot_line (question l.asked) l.seats (details_of l.found)) 0 l.lists
