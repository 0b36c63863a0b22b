use Rattle.std.proofs.Common.{◌≡◌, ℕ, ◌<◌, ◌+◌, ◌==◌, false, length, get_or, take}
use Rattle.std.specs.List.{list_any}
use Rattle.tally_allot_award.proofs.lot.named_in.Given as goal

abbrev pub invariant-loop-place : goal.invariant-loop-place
invariant-loop-place l = record {
  long : length l.named ≡ 60;
  marked : (x : ℕ) → x < 60 → get_or l.named x false ≡ list_any (λ place. place == x + 1) (take l.place-index l.lot);
}
