use Rattle.tally_allot_award.specs.internal.Race.{IsHighestBefore}
use Rattle.tally_allot_award.specs.internal.Terms.{vote_race}
use Rattle.tally_allot_votes.proofs.allow.highest_next.Given as goal

-- the highest among the lists so far
abbrev pub invariant-loop-list : goal.invariant-loop-list
invariant-loop-list g l = IsHighestBefore (vote_race (g.C.Contest.terms l.contest)) l.held l.list l.highest
