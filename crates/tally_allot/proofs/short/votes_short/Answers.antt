use Rattle.std.proofs.Common.{IfOk, OnOk, IfErr}
use Rattle.tally_frac.specs.internal.DivisorLaws.{divisors-rise_slowly}
use Rattle.tally_law.specs.LotNeed.{IsLotTaken}
use Rattle.tally_law.specs.Poll.{HasEligible}
use Rattle.tally_law.specs.Rules.{rule_of, poll_of}
use Rattle.tally_allot_award.proofs.PollLemmas.{carried}
use Rattle.tally_allot.specs.AllotFault.{IsFaultOf}
use Rattle.tally_allot.specs.internal.ShortSteps.{AreAnswersOf}
use Rattle.tally_allot.proofs.DivisorRuleLemmas.{named}
use Rattle.tally_allot.proofs.ShortLemmas.{ok_and, are_short}
use Rattle.tally_allot.proofs.short.votes_short.Goals as goal

pub short_by-requires-clause-slowly : goal.short_by-requires-clause-slowly
short_by-requires-clause-slowly c = divisors-rise_slowly c.in-Some.divisors

pub returns-clause-numbers : goal.returns-clause-numbers
returns-clause-numbers c =
    let rule = rule_of c.args.profile.now in
    let poll = poll_of c.args.profile.now c.args.votes.now c.args.blank in
    let answers = carried (λ rule poll. IfOk c.short_by.result (λ numbers. AreAnswersOf rule poll c.args.lot.now c.args.seats numbers.items))
    (named c.args.profile.now.method c.args.profile.now.lot c.in-Some.is c.divisor_rule.ensures.rule) c.new-poll.ensures.poll c.short_by.ensures.numbers in
    ok_and c.short_by.result (λ numbers h. are_short rule poll c.args.lot.now c.args.seats numbers.items h) answers

pub returns-clause-lot_taken : goal.returns-clause-lot_taken
returns-clause-lot_taken c =
    carried (λ rule poll. OnOk c.short_by.result (IsLotTaken rule poll c.args.seats c.args.lot.now))
    (named c.args.profile.now.method c.args.profile.now.lot c.in-Some.is c.divisor_rule.ensures.rule) c.new-poll.ensures.poll c.short_by.ensures.lot_taken

pub returns-clause-eligible : goal.returns-clause-eligible
returns-clause-eligible c =
    carried (λ rule poll. OnOk c.short_by.result (HasEligible poll))
    (named c.args.profile.now.method c.args.profile.now.lot c.in-Some.is c.divisor_rule.ensures.rule) c.new-poll.ensures.poll c.short_by.ensures.eligible

pub returns-clause-fault : goal.returns-clause-fault
returns-clause-fault c =
    carried (λ rule poll. IfErr c.short_by.result (IsFaultOf rule poll c.args.seats c.args.lot.now))
    (named c.args.profile.now.method c.args.profile.now.lot c.in-Some.is c.divisor_rule.ensures.rule) c.new-poll.ensures.poll c.short_by.ensures.fault
