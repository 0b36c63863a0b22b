use Rattle.std.proofs.Common.{◌≡◌, ◌≤◌, ◌+◌, sum, take}
use Rattle.tally_frac.specs.Limits.{most_votes}
use Rattle.tally_import_votes.proofs.allot.is_within.Given as goal

abbrev pub invariant-loop-count : goal.invariant-loop-count
invariant-loop-count l = record {
  total : l.total ≡ l.blank + sum (take l.count-index l.votes);
  few : l.total ≤ most_votes;
}
