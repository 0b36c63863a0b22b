use Rattle.std.proofs.Common.{IfOk, IfErr, OnOk, subst}
use Rattle.tally_law.specs.Allotment.{hare}
use Rattle.tally_law.specs.LotNeed.{IsLotTaken}
use Rattle.tally_law.specs.Poll.{Poll, HasEligible}
use Rattle.tally_allot_award.specs.internal.Terms.{Terms}
use Rattle.tally_allot.specs.AllotFault.{IsFaultOf}
use Rattle.tally_allot.specs.QuotaRows.{AreQuotaRows}
use Rattle.tally_allot.proofs.quota_table.quotas.Goals as goal

pub returns-clause-rows : goal.returns-clause-rows
returns-clause-rows c =
    subst (λ (p : Poll). IfOk c.quotas_in.result (λ rows. AreQuotaRows p c.args.lot.now c.args.seats rows.items)) c.new-poll.ensures.poll (subst (λ (t : Terms). IfOk c.quotas_in.result (λ rows. AreQuotaRows t.poll t.lot t.seats rows.items)) c.new-contest.ensures.terms c.quotas_in.ensures.rows)

pub returns-clause-lot_taken : goal.returns-clause-lot_taken
returns-clause-lot_taken c =
    subst (λ (p : Poll). OnOk c.quotas_in.result (IsLotTaken hare p c.args.seats c.args.lot.now)) c.new-poll.ensures.poll (subst (λ (t : Terms). OnOk c.quotas_in.result (IsLotTaken t.rule t.poll t.seats t.lot)) c.new-contest.ensures.terms c.quotas_in.ensures.lot_taken)

pub returns-clause-eligible : goal.returns-clause-eligible
returns-clause-eligible c =
    subst (λ (p : Poll). OnOk c.quotas_in.result (HasEligible p)) c.new-poll.ensures.poll (subst (λ (t : Terms). OnOk c.quotas_in.result (HasEligible t.poll)) c.new-contest.ensures.terms c.quotas_in.ensures.eligible)

pub returns-clause-fault : goal.returns-clause-fault
returns-clause-fault c =
    subst (λ (p : Poll). IfErr c.quotas_in.result (IsFaultOf hare p c.args.seats c.args.lot.now)) c.new-poll.ensures.poll (subst (λ (t : Terms). IfErr c.quotas_in.result (IsFaultOf t.rule t.poll t.seats t.lot)) c.new-contest.ensures.terms c.quotas_in.ensures.fault)
