use Rattle.std.proofs.Common.{◌≡◌, ◌≤◌, ◌-◌, length}
use Rattle.tally_frac.specs.Limits.{most_lists}
use Rattle.tally_import_records.specs.internal.TextRecords.{IsReadingText, text_records_left}
use Rattle.tally_import_votes.specs.Votes.{no_rows, read_rows}
use Rattle.tally_import_votes.specs.internal.Reading.{votes_in}
use Rattle.tally_import_votes.proofs.votes.rows_of.Given as goal

abbrev pub invariant-loop-votes : goal.invariant-loop-votes
invariant-loop-votes l = record {
  reading : IsReadingText l.records;
  few : length l.votes.lists.items ≤ most_lists;
  read : read_rows (votes_in l.votes) (text_records_left l.records) l.fn.stop ≡ read_rows no_rows (text_records_left l.fn.records) l.fn.stop;
}

abbrev pub decreases-loop-votes : goal.decreases-loop-votes
decreases-loop-votes l = most_lists - length l.votes.lists.items
