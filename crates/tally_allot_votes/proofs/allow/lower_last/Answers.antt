use Rattle.std.proofs.Common.{◌<◌, ℕ, get_or, subst}
use Rattle.tally_allot_votes.proofs.ScanByVotes.{lower_takes}
use Rattle.tally_allot_votes.proofs.allow.lower_last.Goals as goal

pub returns-then-is_above_by_votes : goal.returns-then-is_above_by_votes
returns-then-is_above_by_votes g c =
    let before = rw c.in-Some.is at c.requires.before in
    let wins = subst (λ (n : ℕ). n < get_or c.args.held.now c.args.list 0) c.floor.ensures c.if-seats-floor.false in
    lower_takes (g.C.Contest.terms c.args.contest.now) c.requires.sound c.args.held.now c.requires.within c.args.list c.in-Some.other c.requires.list before wins (c.is_above_by_votes.ensures.0 c.if-is_above_by_votes.true)
