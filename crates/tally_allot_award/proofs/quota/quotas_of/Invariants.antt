use Rattle.std.proofs.Common.{◌≡◌, ℕ, ◌<◌, length, get_or}
use Rattle.tally_allot_award.specs.internal.KeptPoll.{kept_poll}
use Rattle.tally_allot_award.specs.internal.Quotas.{quota_of}
use Rattle.tally_allot_award.specs.declared.quota.Quota.{Quota}
use Rattle.tally_allot_award.proofs.quota.quotas_of.Given as goal

abbrev pub invariant-loop-list : goal.invariant-loop-list
invariant-loop-list l = record {
  long : length l.quotas ≡ 60;
  each : (k : ℕ) (d : Quota) → k < l.list → get_or l.quotas k d ≡ quota_of (kept_poll l.poll) l.seats k;
}
