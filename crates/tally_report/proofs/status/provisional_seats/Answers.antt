use Rattle.std.proofs.Common.{subst}
use Rattle.tally_allot.specs.AllotFault.{IsFaultOf}
use Rattle.tally_allot.specs.declared.fault.AllotFault.{AllotFault}
use Rattle.tally_machine_law.specs.Outcome.{poll_in, rule_in}
use Rattle.tally_machine_law.proofs.CertificationLemmas.{lot-right}
use Rattle.tally_report.proofs.status.provisional_seats.Goals as goal

pub returns-in_ok-without_seats-in-WrongLot-clause-seats :
    goal.returns-in_ok-without_seats-in-WrongLot-clause-seats
returns-in_ok-without_seats-in-WrongLot-clause-seats c = λ lawful.
    let con = c.args.con.now in
    let view = c.args.view.now in
    let wrong = subst (λ (f : AllotFault). IsFaultOf (rule_in con) (poll_in con view) con.seats view.lot f) c.in-WrongLot.is c.in-Err.ensures.fault in
    absurd (lot-right con view lawful.lawful.lot wrong.1)
