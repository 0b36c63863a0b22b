use Rattle.std.proofs.Common.{◌≡◌, ◌++◌, drop, string_bytes}
use Rattle.tally_allot_award.specs.internal.KeptPoll.{kept_poll}
use Rattle.tally_report_allotment.specs.AllotmentText.{quotas_line}
use Rattle.tally_report_lines.specs.Columns.{lines_from}
use Rattle.tally_report_allotment.proofs.lines.push_quotas.Given as goal

abbrev pub invariant-loop-place : goal.invariant-loop-place
invariant-loop-place l =
    string_bytes l.text ++ lines_from (quotas_line (kept_poll l.contest.poll) l.contest.seats l.seats) l.place (drop l.place l.lists)
    ≡ string_bytes l.fn.text ++ lines_from (quotas_line (kept_poll l.contest.poll) l.contest.seats l.seats) 0 l.lists
