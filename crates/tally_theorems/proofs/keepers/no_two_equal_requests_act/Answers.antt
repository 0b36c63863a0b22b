use Rattle.tally_keeper.proofs.EventLemmas.{happen-second-idle}
use Rattle.tally_theorems.proofs.keepers.no_two_equal_requests_act.Goals as goal

pub returns : goal.returns
returns c = happen-second-idle
