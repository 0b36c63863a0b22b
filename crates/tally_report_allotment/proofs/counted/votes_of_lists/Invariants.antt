use Rattle.std.proofs.Common.{◌≡◌}
use Rattle.tally_returns.specs.View.{votes_of_lists}
use Rattle.tally_report_allotment.specs.Recount.{counted}
use Rattle.tally_report_allotment.proofs.counted.votes_of_lists.Given as goal

abbrev pub invariant-loop-list : goal.invariant-loop-list
invariant-loop-list l = l.votes.items ≡ votes_of_lists l.list (counted l.returns)
