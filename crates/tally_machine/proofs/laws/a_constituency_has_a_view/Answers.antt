use Rattle.tally_machine_law.proofs.CertificationLemmas.{lot-right}
use Rattle.tally_machine_law.proofs.LawLemmas.{view-stands}
use Rattle.tally_machine_law.proofs.ViewLemmas.{view-lawful}
use Rattle.tally_machine.proofs.laws.a_constituency_has_a_view.Goals as goal

pub returns-clause-exists : goal.returns-clause-exists
returns-clause-exists c = view-stands (record { unique = c.laws_of_allotments.ensures.unique; exist = c.laws_of_allotments.ensures.exist; orders_give = c.laws_of_allotments.ensures.orders_give; groups = c.laws_of_allotments.ensures.groups; either = c.laws_of_allotments.ensures.either; never_both = c.laws_of_allotments.ensures.never_both })

pub returns-clause-lawful : goal.returns-clause-lawful
returns-clause-lawful c = view-lawful

pub returns-clause-lot : goal.returns-clause-lot
returns-clause-lot c = λ con view lawful. lot-right con view lawful.lawful.lot
