use Rattle.tally_allot_award.specs.internal.Race.{IsLowestBefore}
use Rattle.tally_allot_award.specs.internal.Terms.{vote_race}
use Rattle.tally_allot_votes.proofs.allow.lowest_last.Given as goal

-- the lowest among the lists so far
abbrev pub invariant-loop-list : goal.invariant-loop-list
invariant-loop-list g l = IsLowestBefore (vote_race (g.C.Contest.terms l.contest)) l.held l.list l.lowest
