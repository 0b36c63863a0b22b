use Rattle.std.proofs.Common.{ℕ, ◌<◌, get_or}
use Rattle.tally_allot_award.specs.internal.Race.{IsLastFair}
use Rattle.tally_allot_award.specs.internal.Terms.{placed_race}
use Rattle.tally_allot_award.proofs.contest.is_fair.Given as goal

-- the last pairs of the lists so far are below no next pair
abbrev pub invariant-loop-list : goal.invariant-loop-list
invariant-loop-list g l =
    (k : ℕ) → k < l.list → (placed_race (g.C.Contest.terms l.contest)).floor k < get_or l.seats k 0 → IsLastFair (placed_race (g.C.Contest.terms l.contest)) l.seats k
