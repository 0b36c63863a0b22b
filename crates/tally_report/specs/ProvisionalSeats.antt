-- The seats that each list would have if the votes that are closed now were all the votes, with
-- their status. They are the result only where the constituency is certified.
use Rattle.std.specs.Prelude.{◌≡◌, ℕ, true, false, List, length, replicate}
use Rattle.tally_setup.specs.Constituency.{Constituency}
use Rattle.tally_allot.specs.LeastSeats.{AreLeastSeats}
use Rattle.tally_machine_law.specs.Outcome.{IsOutcome, allotted, lot_missing, nobody}
use Rattle.tally_machine_law.specs.Outcome.{poll_in, rule_in}
use Rattle.tally_returns.specs.View.{View}
use Rattle.tally_report.specs.declared.status.ProvisionalStatus.{ProvisionalStatus}
use Rattle.tally_report.specs.declared.status.ProvisionalStatus.TheVariants.{Certified, Open}
use Rattle.tally_report.specs.declared.status.ProvisionalStatus.TheVariants.{LotNeeded, NoEligible}

-- no seat for each list
abbrev pub no_seats : Constituency → List ℕ
no_seats con = replicate (length con.lists) 0

-- The provisional seats of each list, with this status: those of the certificate; or of a
-- constituency that is not certified those that its closed votes and the recorded lot allot; or,
-- where a lot is needed among a group and none is recorded, what each list has in any case; or
-- none.
abbrev pub AreProvisionalSeats : Constituency → View → ProvisionalStatus → List ℕ → Type 0
AreProvisionalSeats con view Certified seats = (view.certified ≡ true) × (seats ≡ view.seats)
AreProvisionalSeats con view Open seats =
    (view.certified ≡ false) × IsOutcome con view (allotted seats)
AreProvisionalSeats con view (LotNeeded group in_question) seats =
    (view.certified ≡ false) × IsOutcome con view (lot_missing group in_question)
    × AreLeastSeats (rule_in con) (poll_in con view) con.seats seats
AreProvisionalSeats con view NoEligible seats =
    (view.certified ≡ false) × IsOutcome con view nobody × (seats ≡ no_seats con)
