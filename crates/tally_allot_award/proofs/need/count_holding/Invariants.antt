use Rattle.std.proofs.Common.{◌≡◌, ◌≤◌}
use Rattle.tally_allot_award.specs.internal.Sums.{sum_before, holds_at}
use Rattle.tally_allot_award.proofs.need.count_holding.Given as goal

abbrev pub invariant-loop-list : goal.invariant-loop-list
invariant-loop-list l = record {
  so_far : l.holders ≡ sum_before (holds_at l.group l.seats l.held) l.list;
  few : l.holders ≤ l.list;
}
