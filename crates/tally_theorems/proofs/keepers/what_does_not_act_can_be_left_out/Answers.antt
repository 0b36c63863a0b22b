use Rattle.tally_keeper.proofs.EventLemmas.{happen-acting, happen-kept}
use Rattle.tally_theorems.proofs.keepers.what_does_not_act_can_be_left_out.Goals as goal

pub returns-clause-all : goal.returns-clause-all
returns-clause-all c = happen-acting

pub returns-clause-some : goal.returns-clause-some
returns-clause-some c = happen-kept
