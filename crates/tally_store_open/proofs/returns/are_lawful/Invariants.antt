use Rattle.std.proofs.Common.{All, take}
use Rattle.tally_store_open.specs.internal.Entries.{IsLawfulEntry}
use Rattle.tally_store_open.proofs.returns.are_lawful.Given as goal

abbrev pub invariant-loop-entry : goal.invariant-loop-entry
invariant-loop-entry l = All (IsLawfulEntry l.setup) (take l.entry-index l.entries)
