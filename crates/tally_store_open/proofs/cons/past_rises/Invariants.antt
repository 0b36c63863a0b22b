use Rattle.std.proofs.Common.{◌≡◌, ◌-◌, drop}
use Rattle.tally_store_open.specs.internal.Entries.{rises_on}
use Rattle.tally_store_open.specs.internal.Found.{past_edition}
use Rattle.std.specs.Ordering.{nat_cmp}
use Rattle.tally_store_open.proofs.cons.past_rises.Given as goal

abbrev pub invariant-loop-i : goal.invariant-loop-i
invariant-loop-i l = rises_on past_edition nat_cmp (drop (l.i - 1) l.past) ≡ rises_on past_edition nat_cmp l.past
