use Rattle.std.proofs.Common.{◌≡◌, ◌-◌, drop}
use Rattle.tally_store_open.specs.internal.Entries.{rises_on}
use Rattle.tally_store_open.specs.internal.Found.{gone_places}
use Rattle.tally_store_schema.specs.Rows.{text_cmp}
use Rattle.tally_store_open.proofs.cons.gone_rise.Given as goal

abbrev pub invariant-loop-i : goal.invariant-loop-i
invariant-loop-i l = rises_on gone_places text_cmp (drop (l.i - 1) l.gone) ≡ rises_on gone_places text_cmp l.gone
