use Rattle.std.proofs.Common.{◌<◌, ℕ, get_or, subst, arith}
use Rattle.tally_allot_votes.proofs.ScanByVotes.{few_at_most, higher_takes}
use Rattle.tally_allot_votes.proofs.allow.higher_next.Goals as goal

pub overflow_add-held : goal.overflow_add-held
overflow_add-held g c =
    let before = rw c.in-Some.is at c.requires.before in
    omega (arith, few_at_most (g.C.Contest.terms c.args.contest.now) c.requires.sound c.in-Some.other, before.1)

pub returns-then-is_above_by_votes : goal.returns-then-is_above_by_votes
returns-then-is_above_by_votes g c =
    let before = rw c.in-Some.is at c.requires.before in
    let runs = subst (λ (n : ℕ). get_or c.args.held.now c.args.list 0 < n) c.cap.ensures c.if-seats-cap.false in
    higher_takes (g.C.Contest.terms c.args.contest.now) c.requires.sound c.args.held.now c.requires.within c.args.list c.in-Some.other c.requires.list before runs (c.is_above_by_votes.ensures.0 c.if-is_above_by_votes.true)
