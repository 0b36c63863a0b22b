use Rattle.tally_returns.specs.State.{opening}
use Rattle.tally_keeper.specs.Events.{answers_of, asks_of}
use Rattle.tally_keeper.proofs.EnteredTwiceLemmas.{happen-certified_twice, happen-closed_twice}
use Rattle.tally_keeper.proofs.KeeperLemmas.{happen-run, open-runs, shut-run}
use Rattle.tally_theorems.proofs.keepers.what_counts_was_entered_twice.Goals as goal

pub returns-clause-requests : goal.returns-clause-requests
returns-clause-requests c = λ setup t asks rs is. c.what_counts_was_entered_twice.ensures.closed setup t asks rs ((open-runs setup (opening setup) t asks rs).0 is)

pub returns-clause-open : goal.returns-clause-open
returns-clause-open c = happen-closed_twice

pub returns-clause-rows : goal.returns-clause-rows
returns-clause-rows c = λ setup t events is. c.what_counts_was_entered_twice.ensures.closed setup t (asks_of events) (answers_of events) (happen-run setup (opening setup) t events is)

pub returns-clause-shut : goal.returns-clause-shut
returns-clause-shut c = λ setup events is.
    let run = shut-run setup (opening setup) events is in (run.0, run.1, c.what_counts_was_entered_twice.ensures.closed setup run.0 (asks_of events) (answers_of events) run.1)

pub returns-clause-certified : goal.returns-clause-certified
returns-clause-certified c = happen-certified_twice
