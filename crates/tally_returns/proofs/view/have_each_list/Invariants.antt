use Rattle.std.proofs.Common.{take}
use Rattle.std.specs.Prelude.{All}
use Rattle.tally_returns.specs.View.{HasEachList}
use Rattle.tally_returns.proofs.view.have_each_list.Given as goal

abbrev pub invariant-loop-certificate : goal.invariant-loop-certificate
invariant-loop-certificate l = All (HasEachList l.con) (take l.certificate-index l.past)
