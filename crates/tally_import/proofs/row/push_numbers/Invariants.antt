use Rattle.std.proofs.Common.{◌≡◌, ◌-◌, take, drop, map}
use Rattle.csv.specs.Records.{fields_of}
use Rattle.tally_import.specs.Rows.{first_unread, written_number}
use Rattle.tally_import.proofs.row.push_numbers.Given as goal

abbrev pub invariant-loop-place : goal.invariant-loop-place
invariant-loop-place l = record {
  unread : first_unread (l.place - 4) (drop (l.place - 4) (drop 4 (fields_of l.fields))) ≡ first_unread 0 (drop 4 (fields_of l.fields));
  values : l.votes.items ≡ map written_number (take (l.place - 4) (drop 4 (fields_of l.fields)));
}
