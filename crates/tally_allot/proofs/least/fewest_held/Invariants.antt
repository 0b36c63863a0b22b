use Rattle.tally_allot.specs.internal.LeastSteps.{IsFewestHeld}
use Rattle.tally_allot.proofs.least.fewest_held.Given as goal

abbrev pub invariant-loop-list : goal.invariant-loop-list
invariant-loop-list l = IsFewestHeld l.group l.held l.most l.list l.fewest
