use Rattle.std.proofs.Common.{◌≡◌, ◌+◌, drop}
use Rattle.tally_store_schema.specs.Values.{number_of}
use Rattle.tally_store_rows.specs.Reading.{item_for, numbers_from}
use Rattle.tally_store_rows.proofs.ReadAllLemmas.{Reading}
use Rattle.tally_store_rows.proofs.items.numbers_in.Given as goal

abbrev pub invariant-loop-row : goal.invariant-loop-row
invariant-loop-row l = record {
  item : l.item ≡ l.row-index + 1;
  reading : Reading (λ item row. item_for number_of row l.key item) l.numbers.items l.item (drop l.row-index l.rows) ≡ numbers_from l.key 1 l.rows;
}
