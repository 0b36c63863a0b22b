use Rattle.std.proofs.Common.{◌≡◌}
use Rattle.tally_report_allotment.specs.internal.Counting.{votes_less}
use Rattle.tally_report_allotment.proofs.decisive.votes_less.Given as goal

abbrev pub invariant-loop-list : goal.invariant-loop-list
invariant-loop-list l = l.rest.items ≡ votes_less l.list l.votes l.by
