use Rattle.std.proofs.Common.{IfOk, OnOk, IfErr}
use Rattle.tally_law.specs.Poll.{HasEligible}
use Rattle.tally_allot.specs.AllotFault.{IsNeedOrNone, IsNeedFaultOf}
use Rattle.tally_allot_award.proofs.PollLemmas.{carried}
use Rattle.tally_allot.proofs.DivisorRuleLemmas.{named}
use Rattle.tally_allot.proofs.allotment.lot_need.Goals as goal

pub returns-in-Some-clause-need : goal.returns-in-Some-clause-need
returns-in-Some-clause-need c =
    carried (λ rule poll. IfOk c.need_by_divisors.result (IsNeedOrNone rule poll c.args.seats))
    (named c.args.profile.now.method c.args.profile.now.lot c.in-Some.is c.divisor_rule.ensures.rule) c.new-poll.ensures.poll c.need_by_divisors.ensures.need

pub returns-in-Some-clause-eligible : goal.returns-in-Some-clause-eligible
returns-in-Some-clause-eligible c =
    carried (λ rule poll. OnOk c.need_by_divisors.result (HasEligible poll))
    (named c.args.profile.now.method c.args.profile.now.lot c.in-Some.is c.divisor_rule.ensures.rule) c.new-poll.ensures.poll c.need_by_divisors.ensures.eligible

pub returns-in-Some-clause-fault : goal.returns-in-Some-clause-fault
returns-in-Some-clause-fault c =
    carried (λ rule poll. IfErr c.need_by_divisors.result (IsNeedFaultOf poll))
    (named c.args.profile.now.method c.args.profile.now.lot c.in-Some.is c.divisor_rule.ensures.rule) c.new-poll.ensures.poll c.need_by_divisors.ensures.fault

pub returns-in-None-clause-need : goal.returns-in-None-clause-need
returns-in-None-clause-need c =
    carried (λ rule poll. IfOk c.need_by_quotas.result (IsNeedOrNone rule poll c.args.seats))
    (named c.args.profile.now.method c.args.profile.now.lot c.in-None.is c.divisor_rule.ensures.rule) c.new-poll.ensures.poll c.need_by_quotas.ensures.need

pub returns-in-None-clause-eligible : goal.returns-in-None-clause-eligible
returns-in-None-clause-eligible c =
    carried (λ rule poll. OnOk c.need_by_quotas.result (HasEligible poll))
    (named c.args.profile.now.method c.args.profile.now.lot c.in-None.is c.divisor_rule.ensures.rule) c.new-poll.ensures.poll c.need_by_quotas.ensures.eligible

pub returns-in-None-clause-fault : goal.returns-in-None-clause-fault
returns-in-None-clause-fault c =
    carried (λ rule poll. IfErr c.need_by_quotas.result (IsNeedFaultOf poll))
    (named c.args.profile.now.method c.args.profile.now.lot c.in-None.is c.divisor_rule.ensures.rule) c.new-poll.ensures.poll c.need_by_quotas.ensures.fault
