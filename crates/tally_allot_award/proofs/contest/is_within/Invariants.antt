use Rattle.std.proofs.Common.{ℕ, ◌<◌, ◌≤◌, get_or}
use Rattle.tally_allot_award.specs.internal.Terms.{placed_race}
use Rattle.tally_allot_award.proofs.contest.is_within.Given as goal

-- the lists so far are within their limits
abbrev pub invariant-loop-list : goal.invariant-loop-list
invariant-loop-list g l =
    (k : ℕ) → k < l.list → ((placed_race (g.C.Contest.terms l.contest)).floor k ≤ get_or l.seats k 0) × (get_or l.seats k 0 ≤ (placed_race (g.C.Contest.terms l.contest)).cap k)
