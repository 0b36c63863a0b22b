use Rattle.tally_machine_law.proofs.EnteredTwiceLemmas.{certified-twice, closed-twice, one-enters_nothing}
use Rattle.tally_machine.proofs.laws.what_counts_was_entered_twice.Goals as goal

pub returns-clause-closed : goal.returns-clause-closed
returns-clause-closed c = closed-twice

pub returns-clause-certified : goal.returns-clause-certified
returns-clause-certified c = certified-twice

pub returns-clause-one : goal.returns-clause-one
returns-clause-one c = one-enters_nothing
