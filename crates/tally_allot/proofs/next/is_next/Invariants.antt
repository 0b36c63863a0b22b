use Rattle.std.proofs.Common.{◌≢◌, ℕ, ◌+◌, ◌<◌, get_or}
use Rattle.tally_frac.specs.Rank.{VotesRankAbove}
use Rattle.tally_allot_award.specs.internal.KeptPoll.{kept_poll}
use Rattle.tally_law.specs.Poll.{IsEligible, votes_of}
use Rattle.tally_allot.proofs.next.is_next.Given as goal

abbrev pub invariant-loop-other : goal.invariant-loop-other
invariant-loop-other g l =
    (m : ℕ) → m < l.other → IsEligible (kept_poll l.poll) m → m ≢ l.list
    → VotesRankAbove (votes_of (kept_poll l.poll) l.list) (g.D.Divisors.divisor l.divisors (get_or l.held l.list 0 + 1))
    (votes_of (kept_poll l.poll) m) (g.D.Divisors.divisor l.divisors (get_or l.held m 0 + 1))
