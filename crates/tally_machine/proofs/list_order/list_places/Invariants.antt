use Rattle.std.proofs.Common.{◌≡◌, Some, take}
use Rattle.tally_machine_law.specs.Certification.{list_places}
use Rattle.tally_machine.proofs.list_order.list_places.Given as goal

abbrev pub invariant-loop-code : goal.invariant-loop-code
invariant-loop-code l = list_places l.con (take l.code-index l.order) ≡ Some l.places.items
