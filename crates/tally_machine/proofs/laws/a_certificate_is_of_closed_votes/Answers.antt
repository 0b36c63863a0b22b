use Rattle.tally_machine_law.proofs.LawLemmas.{certificate-of_run, certificate-of_view, view-one}
use Rattle.tally_machine.proofs.laws.a_certificate_is_of_closed_votes.Goals as goal

pub returns-clause-of_run : goal.returns-clause-of_run
returns-clause-of_run c = certificate-of_run (record { unique = c.laws_of_allotments.ensures.unique; exist = c.laws_of_allotments.ensures.exist; orders_give = c.laws_of_allotments.ensures.orders_give; groups = c.laws_of_allotments.ensures.groups; either = c.laws_of_allotments.ensures.either; never_both = c.laws_of_allotments.ensures.never_both })

pub returns-clause-each : goal.returns-clause-each
returns-clause-each c = λ setup s ok lawful code con view is certified seen. certificate-of_view (record { unique = c.laws_of_allotments.ensures.unique; exist = c.laws_of_allotments.ensures.exist; orders_give = c.laws_of_allotments.ensures.orders_give; groups = c.laws_of_allotments.ensures.groups; either = c.laws_of_allotments.ensures.either; never_both = c.laws_of_allotments.ensures.never_both }) setup s ok lawful code con is certified view seen

pub returns-clause-one : goal.returns-clause-one
returns-clause-one c = view-one (record { unique = c.laws_of_allotments.ensures.unique; exist = c.laws_of_allotments.ensures.exist; orders_give = c.laws_of_allotments.ensures.orders_give; groups = c.laws_of_allotments.ensures.groups; either = c.laws_of_allotments.ensures.either; never_both = c.laws_of_allotments.ensures.never_both })
