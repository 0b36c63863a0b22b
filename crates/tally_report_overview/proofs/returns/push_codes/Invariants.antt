use Rattle.std.proofs.Common.{◌≡◌, ◌++◌, take}
use Rattle.csv.specs.Records.{fields_of}
use Rattle.tally_setup.specs.Constituency.{list_codes}
use Rattle.tally_report_overview.proofs.returns.push_codes.Given as goal

abbrev pub invariant-loop-list : goal.invariant-loop-list
invariant-loop-list l = fields_of l.fields ≡ fields_of l.fn.fields ++ list_codes (take l.list-index l.lists)
