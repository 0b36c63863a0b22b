use Rattle.tally_machine_law.proofs.RecordLemmas.{records-stay, records-stay-run}
use Rattle.tally_machine.proofs.laws.records_stay.Goals as goal

pub returns-clause-step : goal.returns-clause-step
returns-clause-step c = records-stay

pub returns-clause-run : goal.returns-clause-run
returns-clause-run c = records-stay-run
