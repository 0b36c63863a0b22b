use Rattle.std.proofs.Common.{◌≡◌, take}
use Rattle.tally_setup.specs.Setup.{constituency_codes}
use Rattle.tally_report_overview.proofs.views.codes_of.Given as goal

abbrev pub invariant-loop-con : goal.invariant-loop-con
invariant-loop-con l = l.codes.items ≡ constituency_codes (take l.con-index l.con-items)
