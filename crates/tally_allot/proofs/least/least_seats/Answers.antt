use Rattle.std.proofs.Common.{IfOk, OnOk, IfErr}
use Rattle.tally_law.specs.Poll.{HasEligible}
use Rattle.tally_allot.specs.AllotFault.{IsNeedFaultOf}
use Rattle.tally_allot.specs.LeastSeats.{AreLeastSeats}
use Rattle.tally_allot_award.proofs.PollLemmas.{carried}
use Rattle.tally_allot.proofs.DivisorRuleLemmas.{named}
use Rattle.tally_allot.proofs.least.least_seats.Goals as goal

pub returns-in-Some-clause-least : goal.returns-in-Some-clause-least
returns-in-Some-clause-least c =
    carried (λ rule poll. IfOk c.least_by_divisors.result (λ least. AreLeastSeats rule poll c.args.seats least.items))
    (named c.args.profile.now.method c.args.profile.now.lot c.in-Some.is c.divisor_rule.ensures.rule) c.new-poll.ensures.poll c.least_by_divisors.ensures.least

pub returns-in-Some-clause-eligible : goal.returns-in-Some-clause-eligible
returns-in-Some-clause-eligible c =
    carried (λ rule poll. OnOk c.least_by_divisors.result (HasEligible poll))
    (named c.args.profile.now.method c.args.profile.now.lot c.in-Some.is c.divisor_rule.ensures.rule) c.new-poll.ensures.poll c.least_by_divisors.ensures.eligible

pub returns-in-Some-clause-fault : goal.returns-in-Some-clause-fault
returns-in-Some-clause-fault c =
    carried (λ rule poll. IfErr c.least_by_divisors.result (IsNeedFaultOf poll))
    (named c.args.profile.now.method c.args.profile.now.lot c.in-Some.is c.divisor_rule.ensures.rule) c.new-poll.ensures.poll c.least_by_divisors.ensures.fault

pub returns-in-None-clause-least : goal.returns-in-None-clause-least
returns-in-None-clause-least c =
    carried (λ rule poll. IfOk c.least_by_quotas.result (λ least. AreLeastSeats rule poll c.args.seats least.items))
    (named c.args.profile.now.method c.args.profile.now.lot c.in-None.is c.divisor_rule.ensures.rule) c.new-poll.ensures.poll c.least_by_quotas.ensures.least

pub returns-in-None-clause-eligible : goal.returns-in-None-clause-eligible
returns-in-None-clause-eligible c =
    carried (λ rule poll. OnOk c.least_by_quotas.result (HasEligible poll))
    (named c.args.profile.now.method c.args.profile.now.lot c.in-None.is c.divisor_rule.ensures.rule) c.new-poll.ensures.poll c.least_by_quotas.ensures.eligible

pub returns-in-None-clause-fault : goal.returns-in-None-clause-fault
returns-in-None-clause-fault c =
    carried (λ rule poll. IfErr c.least_by_quotas.result (IsNeedFaultOf poll))
    (named c.args.profile.now.method c.args.profile.now.lot c.in-None.is c.divisor_rule.ensures.rule) c.new-poll.ensures.poll c.least_by_quotas.ensures.fault
