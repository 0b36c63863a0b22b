use Rattle.std.proofs.Common.{◌≡◌, ◌++◌, drop}
use Rattle.tally_allot_award.specs.internal.KeptPoll.{kept_poll}
use Rattle.tally_report_result.specs.Values.{quota_value, list_values, values_from}
use Rattle.tally_report_result.specs.internal.Found.{data_of}
use Rattle.tally_report_result.proofs.quota.quotas_of_lists.Given as goal

abbrev pub invariant-loop-place : goal.invariant-loop-place
invariant-loop-place l = data_of l.values.items ++ values_from (quota_value (kept_poll l.contest.poll) l.contest.seats l.seats) l.place (drop l.place l.con.lists) ≡ list_values (quota_value (kept_poll l.contest.poll) l.contest.seats l.seats) l.con
