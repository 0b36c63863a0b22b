use Rattle.std.proofs.Common.{◌≡◌, ◌*◌, ◌^◌, ◌≤◌, sum, take}
use Rattle.tally_report.proofs.provisional.sum_of.Given as goal

abbrev pub invariant-loop-held : goal.invariant-loop-held
invariant-loop-held l = record {
  so_far : l.total ≡ sum (take l.held-index l.seats);
  few : l.total ≤ l.held-index * 2 ^ 32;
}
