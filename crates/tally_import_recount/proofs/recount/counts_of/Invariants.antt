use Rattle.std.proofs.Common.{◌≡◌, take, map}
use Rattle.tally_returns.specs.Return.{Returns}
use Rattle.tally_import.specs.internal.Table.{Holds}
use Rattle.tally_import_recount.specs.Counted.{counts_in}
use Rattle.tally_import_recount.proofs.recount.counts_of.Given as goal

abbrev pub invariant-loop-station : goal.invariant-loop-station
invariant-loop-station l = (returns : Returns) → Holds l.table returns → l.counts.items ≡ map (counts_in returns) (take l.station-index l.stations)
