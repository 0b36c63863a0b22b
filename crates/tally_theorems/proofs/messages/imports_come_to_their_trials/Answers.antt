use Rattle.tally_theorems.proofs.TrialLemmas.{import-comes, trial-keeps}
use Rattle.tally_theorems.proofs.messages.imports_come_to_their_trials.Goals as goal

pub returns-clause-state : goal.returns-clause-state
returns-clause-state c = trial-keeps

pub returns-clause-import : goal.returns-clause-import
returns-clause-import c = import-comes
