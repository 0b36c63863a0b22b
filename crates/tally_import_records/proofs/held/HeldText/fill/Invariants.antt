use Rattle.std.proofs.Common.{◌≡◌, ◌≤◌, ◌-◌}
use Rattle.tally_import_records.specs.internal.Pieces.{HoldsMore}
use Rattle.tally_import_records.proofs.held.HeldText.fill.Given as goal

abbrev pub invariant-loop-self : goal.invariant-loop-self
invariant-loop-self g l = record {
  limit : l.self.taken ≤ 16777217;
  watch : l.watch.failed ≡ l.fn.watch.failed;
  came : HoldsMore (g.R.Read.remaining l.fn.input) (g.R.Read.remaining l.input) l.fn.self l.self;
}

abbrev pub decreases-loop-self : goal.decreases-loop-self
decreases-loop-self g l = 16777217 - l.self.taken
