use Rattle.std.proofs.Common.{◌≡◌, map, take}
use Rattle.tally_setup.specs.Threshold.{is_eligible}
use Rattle.tally_setup.proofs.threshold.eligible.Given as goal

abbrev pub invariant-loop-list : goal.invariant-loop-list
invariant-loop-list l = l.lists.items ≡ map (is_eligible l.profile.threshold l.base) (take l.list-index l.votes)
