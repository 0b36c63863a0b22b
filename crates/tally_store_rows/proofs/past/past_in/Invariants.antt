use Rattle.std.proofs.Common.{◌≡◌, ◌-◌, length}
use Rattle.tally_store_rows.specs.Reading.{past_of}
use Rattle.tally_store_rows.proofs.PastLemmas.{Reading}
use Rattle.tally_store_rows.proofs.past.past_in.Given as goal

abbrev pub invariant-loop : goal.invariant-loop
invariant-loop l = Reading l.con l.lists l.past.items (length l.rows - l.counter) l.left ≡ past_of l.con l.lists l.rows
