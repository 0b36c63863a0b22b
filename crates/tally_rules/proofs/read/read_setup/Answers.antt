use Rattle.tally_rules.proofs.ReadLemmas.{IsFaultIn-placed}
use Rattle.tally_rules.proofs.read.read_setup.Goals as goal

pub returns-in-Err-clause-fault : goal.returns-in-Err-clause-fault
returns-in-Err-clause-fault c = IsFaultIn-placed _ _ _ c.in-Err.ensures.fault
