use Rattle.std.proofs.Common.{◌≡◌, ◌*◌, ◌^◌, ◌≤◌, sum, take}
use Rattle.tally_allot_votes.proofs.allow.sum_of.Given as goal

abbrev pub invariant-loop-number : goal.invariant-loop-number
invariant-loop-number l = record {
  so_far : l.total ≡ sum (take l.number-index l.numbers);
  few : l.total ≤ l.number-index * 2 ^ 32;
}
