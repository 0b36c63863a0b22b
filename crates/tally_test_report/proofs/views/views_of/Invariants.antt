use Rattle.std.proofs.Common.{take}
use Rattle.std.specs.List.{AllZip}
use Rattle.tally_returns.specs.View.{FitsView}
use Rattle.tally_test_report.proofs.views.views_of.Given as goal

abbrev pub invariant-loop-con : goal.invariant-loop-con
invariant-loop-con l = AllZip FitsView (take l.con-index l.cons) l.views.items
