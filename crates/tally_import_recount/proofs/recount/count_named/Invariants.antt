use Rattle.std.proofs.Common.{◌≡◌, ◌≤◌, ℕ, List, take}
use Rattle.tally_import_recount.specs.Counted.{count_named}
use Rattle.tally_import_recount.specs.internal.Register.{HasWords}
use Rattle.tally_import_recount.proofs.recount.count_named.Given as goal

abbrev pub invariant-loop-station : goal.invariant-loop-station
invariant-loop-station l = record {
  few : l.count ≤ l.station-index;
  named : (words : List (List ℕ)) → HasWords words l.named → l.count ≡ count_named (take l.station-index l.stations) words;
}
