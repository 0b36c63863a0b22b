use Rattle.tally_machine_law.proofs.CertificationLemmas.{wrong-none}
use Rattle.tally_machine.proofs.laws.a_wrong_lot_leads_to_no_outcome.Goals as goal

pub returns : goal.returns
returns c = wrong-none
