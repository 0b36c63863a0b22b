use Rattle.tally_setup.specs.declared.profile.LotRule.{LotRule}
use Rattle.tally_allot_award.specs.internal.KeptPoll.{kept_poll}
use Rattle.tally_law.specs.Allotment.{divisors}
use Rattle.tally_allot.specs.internal.ShortSteps.{AreAnswers}
use Rattle.tally_allot.proofs.short.numbers_of.Given as goal

abbrev pub invariant-loop-list : goal.invariant-loop-list
invariant-loop-list g l = (lot_rule : LotRule) → AreAnswers (divisors (g.D.Divisors.divisor l.divisors) (g.D.Divisors.unit_of l.divisors) lot_rule) (kept_poll l.poll) l.seats l.held l.list l.numbers.items
