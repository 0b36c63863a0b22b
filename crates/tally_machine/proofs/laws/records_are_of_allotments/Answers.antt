use Rattle.tally_machine_law.proofs.RecordLemmas.{records-of-allotments, records-of-run}
use Rattle.tally_machine.proofs.laws.records_are_of_allotments.Goals as goal

pub returns-clause-step : goal.returns-clause-step
returns-clause-step c = records-of-allotments (record { unique = c.laws_of_allotments.ensures.unique; exist = c.laws_of_allotments.ensures.exist; orders_give = c.laws_of_allotments.ensures.orders_give; groups = c.laws_of_allotments.ensures.groups; either = c.laws_of_allotments.ensures.either; never_both = c.laws_of_allotments.ensures.never_both })

pub returns-clause-run : goal.returns-clause-run
returns-clause-run c = records-of-run (record { unique = c.laws_of_allotments.ensures.unique; exist = c.laws_of_allotments.ensures.exist; orders_give = c.laws_of_allotments.ensures.orders_give; groups = c.laws_of_allotments.ensures.groups; either = c.laws_of_allotments.ensures.either; never_both = c.laws_of_allotments.ensures.never_both })
