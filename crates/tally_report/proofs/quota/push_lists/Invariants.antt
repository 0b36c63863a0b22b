use Rattle.std.proofs.Common.{◌≡◌, ◌++◌, drop, string_bytes}
use Rattle.tally_allot_award.specs.internal.KeptPoll.{kept_poll}
use Rattle.tally_report_lines.specs.Columns.{lines_from, list_lines}
use Rattle.tally_report.specs.QuotaText.{quota_line}
use Rattle.tally_report.proofs.quota.push_lists.Given as goal

abbrev pub invariant-loop-place : goal.invariant-loop-place
invariant-loop-place l =
    string_bytes l.text ++ lines_from (quota_line (kept_poll l.contest.poll) l.contest.seats l.view) l.place (drop l.place l.con.lists)
    ≡ string_bytes l.fn.text ++ list_lines (quota_line (kept_poll l.contest.poll) l.contest.seats l.view) l.con
