use Rattle.tally_machine_law.proofs.GoneLemmas.{gone-stay}
use Rattle.tally_machine.proofs.laws.the_gone_stay_gone.Goals as goal

pub returns : goal.returns
returns c = gone-stay
