use Rattle.std.proofs.Common.{◌≡◌, ◌+◌, take, sum}
use Rattle.tally_test_allotment.proofs.polls.are_few.Given as goal

-- what is left is what the lists so far have not taken
abbrev pub invariant-loop-list : goal.invariant-loop-list
invariant-loop-list l = sum (take l.list-index l.votes) + l.blank + l.left ≡ 5000000000
