use Rattle.tally_keeper.proofs.AgainLemmas.{again-happens}
use Rattle.tally_theorems.proofs.keepers.the_same_import_again_lodges_nothing.Goals as goal

pub returns : goal.returns
returns c = again-happens
