use Rattle.std.proofs.Common.{length}
use Rattle.tally_store_schema.proofs.numbered.+insert_rows.Given as goal

abbrev pub decreases-insert_rows : goal.decreases-insert_rows
decreases-insert_rows g l = length l.numbers.now
