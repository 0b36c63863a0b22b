use Rattle.tally_keeper.specs.Events.{answers_of, asks_of}
use Rattle.tally_keeper.proofs.KeeperLemmas.{happen-run}
use Rattle.tally_theorems.proofs.keepers.records_stay.Goals as goal

pub returns : goal.returns
returns c = λ setup s t events lawful is. c.records_stay.ensures.run setup s t (asks_of events) (answers_of events) lawful (happen-run setup s t events is)
