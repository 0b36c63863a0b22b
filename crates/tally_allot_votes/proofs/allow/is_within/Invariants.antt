use Rattle.std.proofs.Common.{ℕ, ◌<◌, ◌≤◌, get_or}
use Rattle.tally_allot_award.specs.internal.Terms.{vote_race}
use Rattle.tally_allot_votes.proofs.allow.is_within.Given as goal

-- the lists so far are within their limits
abbrev pub invariant-loop-list : goal.invariant-loop-list
invariant-loop-list g l =
    (k : ℕ) → k < l.list → ((vote_race (g.C.Contest.terms l.contest)).floor k ≤ get_or l.held k 0) × (get_or l.held k 0 ≤ (vote_race (g.C.Contest.terms l.contest)).cap k)
