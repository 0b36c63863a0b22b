use Rattle.tally_machine_law.proofs.KindLemmas.{step-kind}
use Rattle.tally_machine_law.proofs.OneLemmas.{step-one}
use Rattle.tally_machine_law.proofs.OwnLemmas.{steps-own}
use Rattle.tally_machine.proofs.laws.a_step_is_one.Goals as goal

pub returns-clause-one : goal.returns-clause-one
returns-clause-one c = step-one (record { unique = c.laws_of_allotments.ensures.unique; exist = c.laws_of_allotments.ensures.exist; orders_give = c.laws_of_allotments.ensures.orders_give; groups = c.laws_of_allotments.ensures.groups; either = c.laws_of_allotments.ensures.either; never_both = c.laws_of_allotments.ensures.never_both })

pub returns-clause-of_the_machine : goal.returns-clause-of_the_machine
returns-clause-of_the_machine c = steps-own

pub returns-clause-kind : goal.returns-clause-kind
returns-clause-kind c = step-kind
