use Rattle.std.proofs.Common.{◌≡◌, ◌≤◌, ◌-◌, ◌++◌, Bool, List, ℕ, Option, length}
use Rattle.tally_returns_rows.specs.Source.{row_limit}
use Rattle.tally_import_check.specs.Check.{rows_of_records}
use Rattle.tally_import_records.specs.Given.{HasGiven, IsReadingOn, WatchAgrees, sep_of}
use Rattle.tally_import_check.specs.internal.Progress.{HasTaken}
use Rattle.tally_import_check.proofs.check.check_rows.Given as goal

abbrev pub invariant-loop-end : goal.invariant-loop-end
invariant-loop-end g l = record {
  reading : IsReadingOn l.records;
  sep : sep_of l.records ≡ sep_of l.fn.records;
  agrees : (before : Bool) → WatchAgrees before l.fn.records l.fn.watch.failed → WatchAgrees before l.records l.watch.failed;
  within : l.taken ≤ row_limit;
  given : (rows : List (List (List ℕ))) × (length rows ≡ l.taken) × HasTaken (record { lists = l.fn.import.lists; rows = rows_of_records l.fn.import.lists rows }) l.import
      × ((text : Option (List ℕ)) (before : List (List (List ℕ))) → HasGiven text (g.R.Read.remaining l.fn.reader) before l.fn.records
      → HasGiven text (g.R.Read.remaining l.reader) (before ++ rows) l.records);
}

abbrev pub decreases-loop-end : goal.decreases-loop-end
decreases-loop-end g l = row_limit - l.taken
