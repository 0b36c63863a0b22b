use Rattle.tally_theorems.proofs.ReadBackLemmas.{read-back, read-back-counted, read-back-after}
use Rattle.tally_theorems.proofs.messages.returns_read_back.Goals as goal

pub returns-clause-rows : goal.returns-clause-rows
returns-clause-rows c = read-back

pub returns-clause-count : goal.returns-clause-count
returns-clause-count c = read-back-counted

pub returns-clause-after : goal.returns-clause-after
returns-clause-after c = read-back-after
