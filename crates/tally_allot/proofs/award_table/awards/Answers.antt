use Rattle.std.proofs.Common.{IfOk, OnOk, IfErr}
use Rattle.tally_law.specs.LotNeed.{IsLotTaken}
use Rattle.tally_law.specs.Poll.{HasEligible}
use Rattle.tally_allot.specs.AllotFault.{IsFaultOf}
use Rattle.tally_allot.specs.Awards.{AreAwardsBy}
use Rattle.tally_allot_award.proofs.PollLemmas.{carried}
use Rattle.tally_allot.proofs.DivisorRuleLemmas.{named}
use Rattle.tally_allot.proofs.award_table.awards.Goals as goal

pub returns-clause-awards : goal.returns-clause-awards
returns-clause-awards c =
    carried (λ rule poll. IfOk c.awards_by.result (λ awards. AreAwardsBy rule poll c.args.lot.now c.args.seats awards.items))
    (named c.args.profile.now.method c.args.profile.now.lot c.in-Some.is c.divisor_rule.ensures.rule) c.new-poll.ensures.poll c.awards_by.ensures.awards

pub returns-clause-lot_taken : goal.returns-clause-lot_taken
returns-clause-lot_taken c =
    carried (λ rule poll. OnOk c.awards_by.result (IsLotTaken rule poll c.args.seats c.args.lot.now))
    (named c.args.profile.now.method c.args.profile.now.lot c.in-Some.is c.divisor_rule.ensures.rule) c.new-poll.ensures.poll c.awards_by.ensures.lot_taken

pub returns-clause-eligible : goal.returns-clause-eligible
returns-clause-eligible c =
    carried (λ rule poll. OnOk c.awards_by.result (HasEligible poll))
    (named c.args.profile.now.method c.args.profile.now.lot c.in-Some.is c.divisor_rule.ensures.rule) c.new-poll.ensures.poll c.awards_by.ensures.eligible

pub returns-clause-fault : goal.returns-clause-fault
returns-clause-fault c =
    carried (λ rule poll. IfErr c.awards_by.result (IsFaultOf rule poll c.args.seats c.args.lot.now))
    (named c.args.profile.now.method c.args.profile.now.lot c.in-Some.is c.divisor_rule.ensures.rule) c.new-poll.ensures.poll c.awards_by.ensures.fault
