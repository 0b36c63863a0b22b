use Rattle.tally_allot_award.specs.internal.Race.{IsHighestBefore}
use Rattle.tally_allot_award.specs.internal.Terms.{placed_race}
use Rattle.tally_allot_award.proofs.contest.highest_next.Given as goal

-- the highest among the lists so far
abbrev pub invariant-loop-list : goal.invariant-loop-list
invariant-loop-list g l = IsHighestBefore (placed_race (g.C.Contest.terms l.contest)) l.seats l.list l.highest
