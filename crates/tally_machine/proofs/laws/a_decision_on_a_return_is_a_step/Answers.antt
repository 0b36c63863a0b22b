use Rattle.tally_machine_law.proofs.DecisionLemmas.{changes-steps, limits-same, refusals-steps, unknown-station}
use Rattle.tally_machine.proofs.laws.a_decision_on_a_return_is_a_step.Goals as goal

pub returns-clause-limits : goal.returns-clause-limits
returns-clause-limits c = limits-same

pub returns-clause-refused : goal.returns-clause-refused
returns-clause-refused c = refusals-steps

pub returns-clause-changed : goal.returns-clause-changed
returns-clause-changed c = changes-steps

pub returns-clause-unknown : goal.returns-clause-unknown
returns-clause-unknown c = unknown-station
