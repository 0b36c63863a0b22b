use Rattle.std.proofs.Common.{ℕ, ◌<◌}
use Rattle.tally_allot_award.specs.internal.KeptPoll.{kept_poll}
use Rattle.tally_allot.specs.Next.{HasNextSeat}
use Rattle.tally_allot.proofs.next.next_by.Given as goal

abbrev pub invariant-loop-list : goal.invariant-loop-list
invariant-loop-list g l =
    (m : ℕ) → m < l.list → ¬ HasNextSeat (g.D.Divisors.divisor l.divisors) (g.D.Divisors.unit_of l.divisors) (kept_poll l.poll) l.held m
