use Rattle.std.proofs.Common.{IfOk, IfErr, OnOk, subst}
use Rattle.tally_law.specs.Allotment.{IsAllotment}
use Rattle.tally_law.specs.LotNeed.{IsLotTaken}
use Rattle.tally_law.specs.Poll.{HasEligible}
use Rattle.tally_allot_award.specs.internal.Terms.{Terms}
use Rattle.tally_allot.specs.AllotFault.{IsFaultOf}
use Rattle.tally_allot.proofs.allotment.seats_by_quotas.Goals as goal

pub returns-clause-allotment : goal.returns-clause-allotment
returns-clause-allotment c = subst (λ (t : Terms). IfOk c.seats_by_remainders.result (λ given. IsAllotment t.rule t.poll t.lot t.seats given.items)) c.new-contest.ensures.terms c.seats_by_remainders.ensures.allotment

pub returns-clause-lot_taken : goal.returns-clause-lot_taken
returns-clause-lot_taken c = subst (λ (t : Terms). OnOk c.seats_by_remainders.result (IsLotTaken t.rule t.poll t.seats t.lot)) c.new-contest.ensures.terms c.seats_by_remainders.ensures.lot_taken

pub returns-clause-eligible : goal.returns-clause-eligible
returns-clause-eligible c = subst (λ (t : Terms). OnOk c.seats_by_remainders.result (HasEligible t.poll)) c.new-contest.ensures.terms c.seats_by_remainders.ensures.eligible

pub returns-clause-fault : goal.returns-clause-fault
returns-clause-fault c = subst (λ (t : Terms). IfErr c.seats_by_remainders.result (IsFaultOf t.rule t.poll t.seats t.lot)) c.new-contest.ensures.terms c.seats_by_remainders.ensures.fault
