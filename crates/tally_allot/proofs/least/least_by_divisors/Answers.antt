use Rattle.std.proofs.Common.{IfOk, IfErr, OnOk, subst}
use Rattle.tally_law.specs.Poll.{HasEligible}
use Rattle.tally_allot_award.specs.internal.Terms.{Terms}
use Rattle.tally_allot.specs.AllotFault.{IsNeedFaultOf}
use Rattle.tally_allot.specs.LeastSeats.{AreLeastSeats}
use Rattle.tally_allot.proofs.least.least_by_divisors.Goals as goal

pub returns-clause-least : goal.returns-clause-least
returns-clause-least g c = subst (λ (t : Terms). IfOk c.least_in.result (λ least. AreLeastSeats t.rule t.poll t.seats least.items)) c.new-contest.ensures.terms c.least_in.ensures.least

pub returns-clause-eligible : goal.returns-clause-eligible
returns-clause-eligible g c = subst (λ (t : Terms). OnOk c.least_in.result (HasEligible t.poll)) c.new-contest.ensures.terms c.least_in.ensures.eligible

pub returns-clause-fault : goal.returns-clause-fault
returns-clause-fault g c = subst (λ (t : Terms). IfErr c.least_in.result (IsNeedFaultOf t.poll)) c.new-contest.ensures.terms c.least_in.ensures.fault
