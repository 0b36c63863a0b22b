use Rattle.tally_keeper.specs.Events.{answers_of, asks_of}
use Rattle.tally_keeper.proofs.EventLemmas.{happen-brings}
use Rattle.tally_keeper.proofs.KeeperLemmas.{happen-run}
use Rattle.tally_theorems.proofs.keepers.a_certificate_of_a_keeper_is_of_closed_votes.Goals as goal

pub returns : goal.returns
returns c = λ setup s t events codes ok lawful is.
    c.a_certificate_is_of_closed_votes.ensures.of_run setup s t (asks_of events) (answers_of events) (happen-brings setup s t events codes is) ok lawful
    (happen-run setup s t events is)
