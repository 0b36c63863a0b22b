use Rattle.std.proofs.Common.{◌≡◌, take}
use Rattle.tally_setup.specs.Constituency.{list_codes}
use Rattle.tally_report_allotment.proofs.recount.codes_of.Given as goal

abbrev pub invariant-loop-list : goal.invariant-loop-list
invariant-loop-list l = l.codes.items ≡ list_codes (take l.list-index l.lists)
