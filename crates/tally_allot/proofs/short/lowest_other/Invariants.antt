use Rattle.tally_allot_award.specs.internal.KeptPoll.{kept_poll}
use Rattle.tally_allot.specs.internal.ShortSteps.{IsLowestOther}
use Rattle.tally_allot.proofs.short.lowest_other.Given as goal

abbrev pub invariant-loop-other : goal.invariant-loop-other
invariant-loop-other g l = IsLowestOther (g.D.Divisors.divisor l.divisors) (kept_poll l.poll) l.held l.list l.other l.lowest
