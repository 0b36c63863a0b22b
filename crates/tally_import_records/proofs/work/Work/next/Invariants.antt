use Rattle.std.proofs.Common.{◌≡◌, Bool, List, ℕ, Option}
use Rattle.tally_import_records.specs.internal.Pieces.{HasGivenAt, IsWorking, left_size}
use Rattle.tally_import_records.specs.Watch.{flag_after_end}
use Rattle.tally_import_records.proofs.work.Work.next.Given as goal

abbrev pub invariant-pieces : goal.invariant-pieces
invariant-pieces g l = record {
  reading : IsWorking l.self;
  given : (text : Option (List ℕ)) (given : List (List (List ℕ))) → HasGivenAt text (g.R.Read.remaining l.fn.input) given l.fn.self → HasGivenAt text (g.R.Read.remaining l.input) given l.self;
  sep : l.self.sep ≡ l.fn.self.sep;
  agrees : (before : Bool) → l.fn.watch.failed ≡ flag_after_end l.fn.self.end before → l.watch.failed ≡ flag_after_end l.self.end before;
}

abbrev pub decreases-pieces : goal.decreases-pieces
decreases-pieces g l = left_size l.self
