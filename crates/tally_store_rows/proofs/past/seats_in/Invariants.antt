use Rattle.std.proofs.Common.{◌≡◌, ◌+◌, drop}
use Rattle.tally_store_rows.specs.Reading.{past_for, past_from}
use Rattle.tally_store_rows.proofs.ReadAllLemmas.{Reading}
use Rattle.tally_store_rows.proofs.past.seats_in.Given as goal

abbrev pub invariant-loop-row : goal.invariant-loop-row
invariant-loop-row l = record {
  place : l.place ≡ l.row-index + 1;
  reading : Reading (λ place row. past_for l.con l.edition place row) l.seats.items l.place (drop l.row-index l.rows) ≡ past_from l.con l.edition 1 l.rows;
}
