use Rattle.tally_machine_law.proofs.ActLemmas.{answered-idle}
use Rattle.tally_machine.proofs.laws.what_does_not_act_changes_nothing.Goals as goal

pub returns : goal.returns
returns c = λ setup s t ask r is idle. answered-idle setup s ask r t is idle
