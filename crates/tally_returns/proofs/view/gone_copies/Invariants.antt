use Rattle.std.proofs.Common.{◌≡◌, take}
use Rattle.tally_returns.proofs.view.gone_copies.Given as goal

abbrev pub invariant-loop-candidate : goal.invariant-loop-candidate
invariant-loop-candidate l = l.copies.items ≡ take l.candidate-index l.gone
