use Rattle.std.proofs.Common.{◌↔◌, IsTrue}
use Rattle.tally_law.specs.LotNeed.{IsAllotmentUnderLot}
use Rattle.tally_allot_award.proofs.PollLemmas.{carried}
use Rattle.tally_allot.proofs.DivisorRuleLemmas.{named}
use Rattle.tally_allot.proofs.allotment.is_allotment.Goals as goal

pub returns-in-Some : goal.returns-in-Some
returns-in-Some c =
    carried (λ rule poll. IsTrue c.is_allotment_by_divisors.result ↔ IsAllotmentUnderLot rule poll c.args.lot.now c.args.seats c.args.given.now)
    (named c.args.profile.now.method c.args.profile.now.lot c.in-Some.is c.divisor_rule.ensures.rule) c.new-poll.ensures.poll c.is_allotment_by_divisors.ensures

pub returns-in-None : goal.returns-in-None
returns-in-None c =
    carried (λ rule poll. IsTrue c.is_allotment_by_quotas.result ↔ IsAllotmentUnderLot rule poll c.args.lot.now c.args.seats c.args.given.now)
    (named c.args.profile.now.method c.args.profile.now.lot c.in-None.is c.divisor_rule.ensures.rule) c.new-poll.ensures.poll c.is_allotment_by_quotas.ensures
