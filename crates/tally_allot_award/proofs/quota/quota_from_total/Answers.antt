use Rattle.std.proofs.Common.{◌≡◌, ◌*◌, ◌/◌, sym, arith}
use Rattle.tally_allot_award.specs.internal.KeptPoll.{kept_poll}
use Rattle.tally_law.specs.HareAllotment.{whole_quotas}
use Rattle.tally_allot_award.proofs.PollLemmas.{some_total, few_quotas}
use Rattle.tally_allot_award.proofs.quota.quota_from_total.Goals as goal

pub nonzero_div-floor : goal.nonzero_div-floor
nonzero_div-floor c =
    let p = c.args.poll.now in
    omega (arith, c.requires.total, some_total p.threshold p.base p.votes.now c.args.list (sym c.if-not-is_eligible.ensures))

pub overflow_cast-floor : goal.overflow_cast-floor
overflow_cast-floor c =
    let p = c.args.poll.now in
    let e : c.votes_of.result * c.from.result / c.args.total ≡ whole_quotas (kept_poll p) c.args.seats c.args.list = cc in
    omega (arith, e, c.requires.seats, few_quotas p.threshold p.base p.votes.now c.args.seats c.args.list (sym c.if-not-is_eligible.ensures))

pub overflow_add-result : goal.overflow_add-result
overflow_add-result c =
    let p = c.args.poll.now in
    let e : c.votes_of.result * c.from.result / c.args.total ≡ whole_quotas (kept_poll p) c.args.seats c.args.list = cc in
    omega (arith, e, c.requires.seats, few_quotas p.threshold p.base p.votes.now c.args.seats c.args.list (sym c.if-not-is_eligible.ensures))

pub nonzero_rem-result : goal.nonzero_rem-result
nonzero_rem-result c =
    let p = c.args.poll.now in
    omega (arith, c.requires.total, some_total p.threshold p.base p.votes.now c.args.list (sym c.if-not-is_eligible.ensures))
