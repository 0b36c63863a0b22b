use Rattle.tally_machine_law.proofs.LawLemmas.{missing-reported, reported-is_need}
use Rattle.tally_machine.proofs.laws.a_missing_lot_is_reported.Goals as goal

pub returns-clause-missing : goal.returns-clause-missing
returns-clause-missing c = missing-reported (record { unique = c.laws_of_allotments.ensures.unique; exist = c.laws_of_allotments.ensures.exist; orders_give = c.laws_of_allotments.ensures.orders_give; groups = c.laws_of_allotments.ensures.groups; either = c.laws_of_allotments.ensures.either; never_both = c.laws_of_allotments.ensures.never_both })

pub returns-clause-needed : goal.returns-clause-needed
returns-clause-needed c = reported-is_need
