use Rattle.std.proofs.Common.{◌≡◌, ◌-◌, drop}
use Rattle.tally_store_open.specs.internal.Entries.{rises}
use Rattle.tally_store_open.proofs.returns.stations_rise.Given as goal

abbrev pub invariant-loop-i : goal.invariant-loop-i
invariant-loop-i l = rises (drop (l.i - 1) l.entries) ≡ rises l.entries
