use Rattle.tally_keeper.proofs.KeeperLemmas.{open-runs, shut-runs}
use Rattle.tally_theorems.proofs.keepers.the_run_of_a_keeper_is_a_run.Goals as goal

pub returns-clause-shut : goal.returns-clause-shut
returns-clause-shut c = shut-runs

pub returns-clause-open : goal.returns-clause-open
returns-clause-open c = open-runs
