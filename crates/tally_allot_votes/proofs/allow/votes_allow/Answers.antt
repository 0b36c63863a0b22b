use Rattle.std.proofs.Common.{◌↔◌, IsTrue}
use Rattle.tally_law.specs.Allotment.{IsAllotmentByVotes}
use Rattle.tally_allot_award.proofs.PollLemmas.{carried}
use Rattle.tally_allot_votes.proofs.ScanByVotes.{named}
use Rattle.tally_allot_votes.proofs.allow.votes_allow.Goals as goal

pub returns-in-Some : goal.returns-in-Some
returns-in-Some c =
    carried (λ rule poll. IsTrue c.allowed_by_divisors.result ↔ IsAllotmentByVotes rule poll c.args.seats c.args.held.now)
    (named c.args.profile.now.method c.args.profile.now.lot c.in-Some.is c.divisor_rule.ensures.rule) c.new-poll.ensures.poll c.allowed_by_divisors.ensures

pub returns-in-None : goal.returns-in-None
returns-in-None c =
    carried (λ rule poll. IsTrue c.allowed_by_quotas.result ↔ IsAllotmentByVotes rule poll c.args.seats c.args.held.now)
    (named c.args.profile.now.method c.args.profile.now.lot c.in-None.is c.divisor_rule.ensures.rule) c.new-poll.ensures.poll c.allowed_by_quotas.ensures
