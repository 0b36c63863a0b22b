use Rattle.std.proofs.Common.{◌≡◌, ◌≤◌, length}
use Rattle.tally_machine_law.specs.Holders.{remaining_candidates}
use Rattle.tally_machine.proofs.seat_holders.holders.Given as goal

abbrev pub invariant-loop-candidate : goal.invariant-loop-candidate
invariant-loop-candidate l = record {
  found : l.places.items ≡ remaining_candidates l.candidate l.gone;
  few : length l.places.items ≤ l.seats;
}
