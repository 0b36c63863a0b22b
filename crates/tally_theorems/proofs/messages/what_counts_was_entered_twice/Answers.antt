use Rattle.tally_theorems.proofs.EnteredTwiceLemmas.{first-messages, messages-certified_twice, messages-closed_twice, second-messages, servings-done}
use Rattle.tally_theorems.proofs.messages.what_counts_was_entered_twice.Goals as goal

pub returns-clause-servings : goal.returns-clause-servings
returns-clause-servings c = servings-done

pub returns-clause-closed : goal.returns-clause-closed
returns-clause-closed c = messages-closed_twice

pub returns-clause-certified : goal.returns-clause-certified
returns-clause-certified c = messages-certified_twice

pub returns-clause-first : goal.returns-clause-first
returns-clause-first c = first-messages

pub returns-clause-second : goal.returns-clause-second
returns-clause-second c = second-messages
