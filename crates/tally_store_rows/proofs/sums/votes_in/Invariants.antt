use Rattle.std.proofs.Common.{◌≡◌, ◌+◌, drop}
use Rattle.tally_store_schema.specs.Values.{wide_number_of}
use Rattle.tally_store_rows.specs.Reading.{item_for, items_from}
use Rattle.tally_store_rows.proofs.ReadAllLemmas.{Reading}
use Rattle.tally_store_rows.proofs.sums.votes_in.Given as goal

abbrev pub invariant-loop-row : goal.invariant-loop-row
invariant-loop-row l = record {
  item : l.item ≡ l.row-index + 1;
  reading : Reading (λ item row. item_for wide_number_of row l.key item) l.votes.items l.item (drop l.row-index l.rows) ≡ items_from wide_number_of l.key 1 l.rows;
}
