use Rattle.tally_keeper.proofs.EventLemmas.{happen-lawful}
use Rattle.tally_theorems.proofs.keepers.a_keeper_keeps_a_lawful_state.Goals as goal

pub returns : goal.returns
returns c = happen-lawful
