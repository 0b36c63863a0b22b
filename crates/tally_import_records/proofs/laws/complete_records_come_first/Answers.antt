use Rattle.tally_import_records.proofs.laws.complete_records_come_first.Goals as goal
use Rattle.tally_import_records.proofs.FrontLemmas.{complete_records-front}

pub returns-clause-stopped : goal.returns-clause-stopped
returns-clause-stopped c = complete_records-front
