use Rattle.std.proofs.Common.{map, take}
use Rattle.tally_report.specs.internal.GoneByList.{AreByList}
use Rattle.tally_report.proofs.holders.gone_by_list.Given as goal

abbrev pub invariant-loop-candidate : goal.invariant-loop-candidate
invariant-loop-candidate l = AreByList (take l.candidate-index l.view.gone) l.lists (map (λ places. places.items) l.gone.items)
