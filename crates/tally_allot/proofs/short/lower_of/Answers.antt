use Rattle.std.proofs.Common.{subst, arith}
use Rattle.tally_allot_award.specs.internal.KeptPoll.{kept_poll}
use Rattle.tally_allot_award.specs.internal.Terms.{AreDivisors}
use Rattle.tally_allot.specs.internal.ShortSteps.{IsLowestOther}
use Rattle.tally_allot.proofs.ShortLemmas.{lower_takes, above_same}
use Rattle.tally_allot.proofs.short.lower_of.Goals as goal

pub returns-then-votes_rank_above : goal.returns-then-votes_rank_above
returns-then-votes_rank_above g c =
    let p = c.args.poll.now in
    let nth = g.D.Divisors.divisor c.args.divisors.now in
    let d : AreDivisors (g.D.Divisors.divisor c.args.divisors.now) = record { positive = g.met.D.Divisors.positive c.args.divisors.now; rises = g.met.D.Divisors.rises c.args.divisors.now } in
    let poll = kept_poll p in
    lower_takes nth d poll c.args.held.now c.args.list c.args.other c.in-Some.lowest (omega (arith, c.requires.other, c.requires.one_each)) c.if-other-list.false (omega (arith, c.if-seat-eq0.false)) (subst (IsLowestOther nth poll c.args.held.now c.args.list c.args.other) c.in-Some.is c.requires.before) (above_same c.votes_of.ensures.votes c.nth.ensures c.votes_of-2.ensures.votes c.nth-2.ensures (c.votes_rank_above.ensures.0 c.if-votes_rank_above.true))
