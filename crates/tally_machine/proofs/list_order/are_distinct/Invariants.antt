use Rattle.std.proofs.Common.{◌≡◌, drop}
use Rattle.tally_machine_law.specs.Certification.{are_distinct}
use Rattle.tally_machine.proofs.list_order.are_distinct.Given as goal

-- the places so far occur nowhere after them
abbrev pub invariant-loop-index : goal.invariant-loop-index
invariant-loop-index l = are_distinct l.places ≡ are_distinct (drop l.index l.places)
