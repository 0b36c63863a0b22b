use Rattle.std.proofs.Common.{◌+◌, sum}
use Rattle.tally_allot_award.specs.internal.Race.{IsFair}
use Rattle.tally_allot_award.specs.internal.Terms.{placed_race}
use Rattle.tally_allot_award.proofs.contest.award.Given as goal

-- what the race allows for the seats given so far
abbrev pub invariant-loop-seat : goal.invariant-loop-seat
invariant-loop-seat g l = IsFair (placed_race (g.C.Contest.terms l.contest)) (sum l.initial.seats + l._seat) l.seats
