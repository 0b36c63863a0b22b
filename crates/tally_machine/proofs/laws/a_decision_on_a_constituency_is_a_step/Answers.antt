use Rattle.tally_machine_law.proofs.DecisionLemmas.{decisions-steps, edition-within, gone-once, unknown-constituency}
use Rattle.tally_machine_law.proofs.RecordLemmas.{records-last}
use Rattle.tally_machine.proofs.laws.a_decision_on_a_constituency_is_a_step.Goals as goal

pub returns-clause-decided : goal.returns-clause-decided
returns-clause-decided c = decisions-steps

pub returns-clause-unknown : goal.returns-clause-unknown
returns-clause-unknown c = unknown-constituency

pub returns-clause-edition : goal.returns-clause-edition
returns-clause-edition c = edition-within

pub returns-clause-gone : goal.returns-clause-gone
returns-clause-gone c = gone-once

pub returns-clause-past : goal.returns-clause-past
returns-clause-past c = records-last
