use Rattle.std.proofs.Common.{IfOk, OnOk, IfErr}
use Rattle.tally_law.specs.Allotment.{IsAllotment}
use Rattle.tally_law.specs.LotNeed.{IsLotTaken}
use Rattle.tally_allot.specs.AllotFault.{IsFaultOf}
use Rattle.tally_allot_award.proofs.PollLemmas.{carried}
use Rattle.tally_allot.proofs.DivisorRuleLemmas.{named}
use Rattle.tally_allot.proofs.allotment.allot.Goals as goal

pub returns-in-Some-clause-allotment : goal.returns-in-Some-clause-allotment
returns-in-Some-clause-allotment c =
    carried (λ rule poll. IfOk c.seats_by_divisors.result (λ given. IsAllotment rule poll c.args.lot.now c.args.seats given.items))
    (named c.args.profile.now.method c.args.profile.now.lot c.in-Some.is c.divisor_rule.ensures.rule) c.new-poll.ensures.poll c.seats_by_divisors.ensures.allotment

pub returns-in-Some-clause-lot_taken : goal.returns-in-Some-clause-lot_taken
returns-in-Some-clause-lot_taken c =
    carried (λ rule poll. OnOk c.seats_by_divisors.result (IsLotTaken rule poll c.args.seats c.args.lot.now))
    (named c.args.profile.now.method c.args.profile.now.lot c.in-Some.is c.divisor_rule.ensures.rule) c.new-poll.ensures.poll c.seats_by_divisors.ensures.lot_taken

pub returns-in-Some-clause-fault : goal.returns-in-Some-clause-fault
returns-in-Some-clause-fault c =
    carried (λ rule poll. IfErr c.seats_by_divisors.result (IsFaultOf rule poll c.args.seats c.args.lot.now))
    (named c.args.profile.now.method c.args.profile.now.lot c.in-Some.is c.divisor_rule.ensures.rule) c.new-poll.ensures.poll c.seats_by_divisors.ensures.fault

pub returns-in-None-clause-lot_taken : goal.returns-in-None-clause-lot_taken
returns-in-None-clause-lot_taken c =
    carried (λ rule poll. OnOk c.seats_by_quotas.result (IsLotTaken rule poll c.args.seats c.args.lot.now))
    (named c.args.profile.now.method c.args.profile.now.lot c.in-None.is c.divisor_rule.ensures.rule) c.new-poll.ensures.poll c.seats_by_quotas.ensures.lot_taken

pub returns-in-None-clause-fault : goal.returns-in-None-clause-fault
returns-in-None-clause-fault c =
    carried (λ rule poll. IfErr c.seats_by_quotas.result (IsFaultOf rule poll c.args.seats c.args.lot.now))
    (named c.args.profile.now.method c.args.profile.now.lot c.in-None.is c.divisor_rule.ensures.rule) c.new-poll.ensures.poll c.seats_by_quotas.ensures.fault
