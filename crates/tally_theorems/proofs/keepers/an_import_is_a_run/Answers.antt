use Rattle.tally_keeper.proofs.KeeperLemmas.{import-run}
use Rattle.tally_theorems.proofs.keepers.an_import_is_a_run.Goals as goal

pub returns : goal.returns
returns c = import-run
