use Rattle.std.proofs.Common.{◌≡◌, ℕ, ◌<◌, vec_len, get_or}
use Rattle.tally_allot_award.specs.internal.Terms.{placed_race}
use Rattle.tally_allot_award.proofs.scan_award.certain_seats.Given as goal

abbrev pub invariant-loop-list : goal.invariant-loop-list
invariant-loop-list g l = record {
  long : vec_len l.seats ≡ l.list;
  each : (k : ℕ) → k < l.list → get_or l.seats.items k 0 ≡ (placed_race (g.C.Contest.terms l.contest)).floor k;
}
