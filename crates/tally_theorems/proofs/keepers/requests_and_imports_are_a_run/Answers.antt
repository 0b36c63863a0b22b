use Rattle.tally_keeper.proofs.KeeperLemmas.{happen-run, shut-run}
use Rattle.tally_theorems.proofs.keepers.requests_and_imports_are_a_run.Goals as goal

pub returns-clause-shut : goal.returns-clause-shut
returns-clause-shut c = shut-run

pub returns-clause-open : goal.returns-clause-open
returns-clause-open c = happen-run
