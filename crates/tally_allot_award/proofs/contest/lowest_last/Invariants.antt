use Rattle.tally_allot_award.specs.internal.Race.{IsLowestBefore}
use Rattle.tally_allot_award.specs.internal.Terms.{placed_race}
use Rattle.tally_allot_award.proofs.contest.lowest_last.Given as goal

-- the lowest among the lists so far
abbrev pub invariant-loop-list : goal.invariant-loop-list
invariant-loop-list g l = IsLowestBefore (placed_race (g.C.Contest.terms l.contest)) l.seats l.list l.lowest
