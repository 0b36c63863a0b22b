use Rattle.tally_machine_law.proofs.LawLemmas.{run-lawful, step-lawful}
use Rattle.tally_machine_law.proofs.ReturnStepLemmas.{opening-lawful}
use Rattle.tally_machine.proofs.laws.a_step_keeps_a_lawful_state.Goals as goal

pub returns-clause-opening : goal.returns-clause-opening
returns-clause-opening c = opening-lawful

pub returns-clause-step : goal.returns-clause-step
returns-clause-step c = step-lawful

pub returns-clause-run : goal.returns-clause-run
returns-clause-run c = run-lawful
