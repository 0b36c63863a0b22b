use Rattle.std.proofs.Common.{◌≡◌}
use Rattle.tally_allot_award.specs.internal.KeptPoll.{kept_poll}
use Rattle.tally_allot_award.specs.internal.Sums.{sum_before}
use Rattle.tally_allot_award.proofs.Sums.{marked_at}
use Rattle.tally_allot_award.proofs.poll.Poll.eligible_votes.Given as goal

-- the total is that of the eligible lists so far
abbrev pub invariant-loop-list : goal.invariant-loop-list
invariant-loop-list l = l.total ≡ sum_before (marked_at (kept_poll l.self).eligible l.self.votes.now) l.list
