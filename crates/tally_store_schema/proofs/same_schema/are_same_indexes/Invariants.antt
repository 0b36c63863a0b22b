use Rattle.std.proofs.Common.{◌≡◌, take}
use Rattle.tally_store_schema.proofs.same_schema.are_same_indexes.Given as goal

abbrev pub invariant-loop-i : goal.invariant-loop-i
invariant-loop-i l = take l.i l.a ≡ take l.i l.b
