use Rattle.std.proofs.Common.{◌≡◌, ◌+◌, drop}
use Rattle.tally_machine_law.specs.Certification.{list_found, list_found_from}
use Rattle.tally_machine.proofs.list_order.list_found.Given as goal

-- the lists so far have other codes
abbrev pub invariant-loop-index : goal.invariant-loop-index
invariant-loop-index l = list_found l.con l.code ≡ list_found_from (l.index + 1) l.code (drop l.index l.con.lists)
