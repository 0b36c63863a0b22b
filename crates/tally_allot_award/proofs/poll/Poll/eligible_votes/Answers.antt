use Rattle.std.proofs.Common.{◌+◌, sym, ap, ◌∙◌, arith}
use Rattle.tally_allot_award.specs.internal.KeptPoll.{kept_poll}
use Rattle.tally_allot_award.specs.internal.Sums.{sum_before}
use Rattle.tally_allot_award.proofs.Sums.{marked_at, marked-le-sum, marked_more_yes, sum_marked-is}
use Rattle.tally_allot_award.proofs.poll.Poll.eligible_votes.Goals as goal

pub overflow_add-total : goal.overflow_add-total
overflow_add-total c =
    let s = c.args.self.now in
    let poll = kept_poll s in
    omega (arith, marked-le-sum poll.eligible poll.votes (c.loop-list.list + 1) (omega arith), marked_more_yes poll.eligible poll.votes c.loop-list.list (sym c.is_eligible.ensures ∙ c.if-is_eligible.true), s.few_votes)

pub returns : goal.returns
returns c =
    let s = c.args.self.now in
    let poll = kept_poll s in
    c.loop-list.invariant ∙ ap (sum_before (marked_at poll.eligible poll.votes)) (omega arith) ∙ sym (sum_marked-is poll.eligible poll.votes)
