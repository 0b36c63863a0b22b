use Rattle.std.proofs.Common.{IfOk, IfErr, OnOk, subst}
use Rattle.tally_law.specs.Poll.{HasEligible}
use Rattle.tally_allot_award.specs.internal.Terms.{Terms}
use Rattle.tally_allot.specs.AllotFault.{IsNeedOrNone, IsNeedFaultOf}
use Rattle.tally_allot.proofs.allotment.need_by_quotas.Goals as goal

pub returns-clause-need : goal.returns-clause-need
returns-clause-need c = subst (λ (t : Terms). IfOk c.need_in.result (IsNeedOrNone t.rule t.poll t.seats)) c.new-contest.ensures.terms c.need_in.ensures.need

pub returns-clause-eligible : goal.returns-clause-eligible
returns-clause-eligible c = subst (λ (t : Terms). OnOk c.need_in.result (HasEligible t.poll)) c.new-contest.ensures.terms c.need_in.ensures.eligible

pub returns-clause-fault : goal.returns-clause-fault
returns-clause-fault c = subst (λ (t : Terms). IfErr c.need_in.result (IsNeedFaultOf t.poll)) c.new-contest.ensures.terms c.need_in.ensures.fault
