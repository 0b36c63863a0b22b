use Rattle.std.proofs.Common.{◌≡◌, ℕ, ◌+◌, ◌<◌, length, get_or}
use Rattle.tally_allot_award.proofs.lot.places_in_setup.Given as goal

abbrev pub invariant-loop-list : goal.invariant-loop-list
invariant-loop-list l = record {
  long : length l.places ≡ 60;
  each : (k : ℕ) → k < l.list → get_or l.places k 0 ≡ k + 1;
}
