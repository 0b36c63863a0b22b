use Rattle.std.proofs.Common.{◌≡◌, drop}
use Rattle.tally_store_rows.specs.Reading.{entries_in}
use Rattle.tally_store_rows.proofs.EntryLemmas.{Reading}
use Rattle.tally_store_rows.proofs.returns.entries_in.Given as goal

abbrev pub invariant-loop-row : goal.invariant-loop-row
invariant-loop-row l = Reading l.setup l.entries.items (drop l.row-index l.rows) l.left ≡ entries_in l.setup l.rows l.counts
