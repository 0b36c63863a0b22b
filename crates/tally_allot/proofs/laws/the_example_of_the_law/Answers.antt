use Rattle.tally_law.proofs.ExampleLemmas.{as_printed, by_other_methods, methods_differ}
use Rattle.tally_allot.proofs.laws.the_example_of_the_law.Goals as goal

pub returns-clause-printed : goal.returns-clause-printed
returns-clause-printed c = as_printed

pub returns-clause-other_methods : goal.returns-clause-other_methods
returns-clause-other_methods c = by_other_methods

pub returns-clause-apart : goal.returns-clause-apart
returns-clause-apart c = methods_differ
