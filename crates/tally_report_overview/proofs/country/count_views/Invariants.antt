use Rattle.std.proofs.Common.{◌*◌, take}
use Rattle.tally_report_overview.specs.internal.Totals.{IsCount, IsCountWithin, most_of_con}
use Rattle.tally_report_overview.proofs.country.count_views.Given as goal

abbrev pub invariant-loop-place : goal.invariant-loop-place
invariant-loop-place l = record { is : IsCount (take l.place l.views) l.counted; within : IsCountWithin (l.place * most_of_con) l.counted }
