use Rattle.std.proofs.Common.{◌≡◌, ◌≤◌, ◌*◌, take}
use Rattle.std.specs.Prelude.{sum_by}
use Rattle.tally_setup.specs.Constituency.{Constituency}
use Rattle.tally_report_overview.proofs.country.all_seats.Given as goal

abbrev pub invariant-loop-con : goal.invariant-loop-con
invariant-loop-con l = record { is : l.seats ≡ sum_by (λ (con : Constituency). con.seats) (take l.con-index l.cons); within : l.seats ≤ l.con-index * 4294967295 }
