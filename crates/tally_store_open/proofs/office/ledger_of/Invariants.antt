use Rattle.std.proofs.Common.{◌≡◌, length, take}
use Rattle.std.specs.FinMap.{from_entries}
use Rattle.tally_keeper.specs.Kept.{opening_kept}
use Rattle.tally_store_open.proofs.office.ledger_of.Given as goal

abbrev pub invariant-loop-entry : goal.invariant-loop-entry
invariant-loop-entry l = l.ledger ≡ record (opening_kept l.fn.setup) { returns = from_entries (take (length l.yielded) l.fn.entries.items) }
