use Rattle.std.proofs.Common.{◌≡◌, ◌≤◌, ◌*◌, take}
use Rattle.tally_report_allotment.specs.internal.Counting.{sum_counted}
use Rattle.tally_report_allotment.proofs.counted.sum_counted.Given as goal

-- the sum so far, to which each return added at most 1,000,000
abbrev pub invariant-loop-found : goal.invariant-loop-found
invariant-loop-found l = record {
  so_far : l.sum ≡ sum_counted l.part (take l.found-index l.returns);
  few : l.sum ≤ l.found-index * 1000000;
}
