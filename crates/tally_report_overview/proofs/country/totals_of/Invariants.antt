use Rattle.std.proofs.Common.{◌*◌, drop}
use Rattle.tally_report_overview.specs.internal.Totals.{AreAddedOver, AreTotals, AreWithin, Totals, most_of_con}
use Rattle.tally_report_overview.proofs.country.totals_of.Given as goal

-- with those of the other constituencies, they are the totals of all
abbrev pub invariant-loop-place : goal.invariant-loop-place
invariant-loop-place l = record {
  rest : (new : Totals) → AreAddedOver (drop l.place l.cons) (drop l.place l.views) l.totals new → AreTotals l.cons l.views new;
  within : AreWithin (l.place * most_of_con) l.totals;
}
