use Rattle.std.proofs.Common.{◌≡◌, ◌+◌, take, sum}
use Rattle.tally_returns.proofs.view.are_within.Given as goal

-- what is left is what the lists so far have not taken
abbrev pub invariant-loop-list : goal.invariant-loop-list
invariant-loop-list l = sum (take l.list-index l.votes) + l.blank + l.left ≡ 5000000000
