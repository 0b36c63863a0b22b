use Rattle.std.proofs.Common.{◌↔◌, IsTrue, subst}
use Rattle.tally_allot_award.specs.internal.Terms.{Terms}
use Rattle.tally_law.specs.LotNeed.{IsAllotmentUnderLot}
use Rattle.tally_allot.proofs.allotment.is_allotment_by_quotas.Goals as goal

pub returns : goal.returns
returns c = subst (λ (t : Terms). IsTrue c.is_allotment_in.result ↔ IsAllotmentUnderLot t.rule t.poll t.lot t.seats c.args.given.now) c.new-contest.ensures.terms c.is_allotment_in.ensures
