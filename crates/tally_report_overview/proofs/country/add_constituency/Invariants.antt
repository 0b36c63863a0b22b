use Rattle.std.proofs.Common.{◌*◌, drop}
use Rattle.tally_frac.specs.Limits.{most_votes}
use Rattle.tally_report_overview.specs.internal.Totals.{AreAdded, AreWithinOf, Totals}
use Rattle.tally_report_overview.proofs.country.add_constituency.Given as goal

-- with those of the other lists, all are added
abbrev pub invariant-loop-place : goal.invariant-loop-place
invariant-loop-place l = record {
  rest : (new : Totals) → AreAdded (drop l.place l.con.lists) (drop l.place l.seats) (drop l.place l.view.votes) l.totals new → AreAdded l.con.lists l.seats l.view.votes l.fn.totals new;
  within : AreWithinOf (l.place * most_votes) l.fn.totals l.totals;
}
