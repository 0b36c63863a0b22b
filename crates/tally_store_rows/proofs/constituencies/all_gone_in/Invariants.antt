use Rattle.std.proofs.Common.{◌≡◌, ◌+◌, drop}
use Rattle.tally_store_rows.specs.Reading.{all_gone_of, gone_in_row}
use Rattle.tally_store_rows.proofs.ReadAllLemmas.{Reading}
use Rattle.tally_store_rows.proofs.constituencies.all_gone_in.Given as goal

abbrev pub invariant-loop-row : goal.invariant-loop-row
invariant-loop-row l = Reading (λ place row. gone_in_row l.con row) l.all.items (l.row-index + 1) (drop l.row-index l.rows) ≡ all_gone_of l.con l.rows
