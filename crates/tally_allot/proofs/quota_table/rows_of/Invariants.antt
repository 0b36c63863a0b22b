use Rattle.std.proofs.Common.{◌≡◌}
use Rattle.tally_allot_award.specs.internal.KeptPoll.{kept_poll}
use Rattle.tally_allot.specs.QuotaRows.{quota_rows}
use Rattle.tally_allot.proofs.quota_table.rows_of.Given as goal

abbrev pub invariant-loop-list : goal.invariant-loop-list
invariant-loop-list l = l.rows.items ≡ quota_rows (kept_poll l.contest.poll) l.contest.seats l.given l.list
