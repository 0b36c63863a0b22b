use Rattle.tally_machine_law.proofs.RunLemmas.{second-idle}
use Rattle.tally_machine.proofs.laws.no_two_equal_commands_act.Goals as goal

pub returns : goal.returns
returns c = second-idle
