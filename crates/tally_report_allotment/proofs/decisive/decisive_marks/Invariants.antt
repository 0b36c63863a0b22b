use Rattle.std.proofs.Common.{◌≤◌, length}
use Rattle.tally_report_allotment.specs.internal.Counting.{AreDecisiveSoFar}
use Rattle.tally_report_allotment.proofs.decisive.decisive_marks.Given as goal

abbrev pub invariant-loop-place : goal.invariant-loop-place
invariant-loop-place l = record {
  marked : AreDecisiveSoFar l.con l.returns l.seats l.place l.marks.items;
  within : l.place ≤ length l.returns;
}
