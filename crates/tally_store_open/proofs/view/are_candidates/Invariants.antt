use Rattle.std.proofs.Common.{All, take}
use Rattle.tally_machine_law.specs.Outcome.{IsLawfulGone}
use Rattle.tally_store_open.proofs.view.are_candidates.Given as goal

abbrev pub invariant-loop-candidate : goal.invariant-loop-candidate
invariant-loop-candidate l = All (IsLawfulGone l.con) (take l.candidate-index l.gone)
