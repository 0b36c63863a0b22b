use Rattle.std.proofs.Common.{◌≡◌, ◌-◌, drop}
use Rattle.tally_store_open.specs.internal.Entries.{rises_on, key_of}
use Rattle.tally_store_schema.specs.Rows.{text_cmp}
use Rattle.tally_store_open.proofs.cons.codes_rise.Given as goal

abbrev pub invariant-loop-i : goal.invariant-loop-i
invariant-loop-i l = rises_on key_of text_cmp (drop (l.i - 1) l.found) ≡ rises_on key_of text_cmp l.found
