use Rattle.tally_theorems.proofs.MessageLemmas.{answers-came, servings-came}
use Rattle.tally_theorems.proofs.messages.messages_are_what_happens_to_a_keeper.Goals as goal

pub returns-clause-answers : goal.returns-clause-answers
returns-clause-answers c = answers-came

pub returns-clause-servings : goal.returns-clause-servings
returns-clause-servings c = servings-came
