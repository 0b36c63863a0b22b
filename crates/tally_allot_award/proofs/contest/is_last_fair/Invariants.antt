use Rattle.std.proofs.Common.{ℕ, ◌+◌, ◌<◌, ◌≢◌, get_or}
use Rattle.tally_allot_award.specs.internal.Race.{NotBelow}
use Rattle.tally_allot_award.specs.internal.Terms.{placed_race}
use Rattle.tally_allot_award.proofs.contest.is_last_fair.Given as goal

-- none of the other lists so far has a higher next pair
abbrev pub invariant-loop-other : goal.invariant-loop-other
invariant-loop-other g l =
    (m : ℕ) → m < l.other → l.list ≢ m → get_or l.seats m 0 < (placed_race (g.C.Contest.terms l.contest)).cap m → NotBelow (placed_race (g.C.Contest.terms l.contest)) l.list (get_or l.seats l.list 0) m (get_or l.seats m 0 + 1)
