use Rattle.tally_machine_law.proofs.DecidedLemmas.{command-decided, step-stands}
use Rattle.tally_machine.proofs.laws.each_command_has_a_step.Goals as goal

pub returns-clause-decided : goal.returns-clause-decided
returns-clause-decided c = command-decided (record { unique = c.laws_of_allotments.ensures.unique; exist = c.laws_of_allotments.ensures.exist; orders_give = c.laws_of_allotments.ensures.orders_give; groups = c.laws_of_allotments.ensures.groups; either = c.laws_of_allotments.ensures.either; never_both = c.laws_of_allotments.ensures.never_both })

pub returns-clause-state : goal.returns-clause-state
returns-clause-state c = step-stands (record { unique = c.laws_of_allotments.ensures.unique; exist = c.laws_of_allotments.ensures.exist; orders_give = c.laws_of_allotments.ensures.orders_give; groups = c.laws_of_allotments.ensures.groups; either = c.laws_of_allotments.ensures.either; never_both = c.laws_of_allotments.ensures.never_both })
