use Rattle.std.proofs.Common.{◌↔◌, IsTrue, subst}
use Rattle.tally_allot_award.specs.internal.Terms.{Terms}
use Rattle.tally_law.specs.Allotment.{IsAllotmentByVotes}
use Rattle.tally_allot_votes.proofs.allow.allowed_by_divisors.Goals as goal

pub returns : goal.returns
returns g c = subst (λ (t : Terms). IsTrue c.allowed_in.result ↔ IsAllotmentByVotes t.rule t.poll t.seats c.args.held.now) c.new-contest.ensures.terms c.allowed_in.ensures
