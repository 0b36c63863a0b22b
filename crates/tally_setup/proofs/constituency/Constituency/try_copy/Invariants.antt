use Rattle.std.proofs.Common.{◌≡◌, take}
use Rattle.tally_setup.proofs.constituency.Constituency.try_copy.Given as goal

abbrev pub invariant-loop-list : goal.invariant-loop-list
invariant-loop-list l = l.lists.items ≡ take l.list-index l.self-inside.lists.items
