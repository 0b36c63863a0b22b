use Rattle.tally_frac.proofs.laws.level_fractions_are_equal.Goals as goal
use Rattle.tally_frac.proofs.FractionLaws.{level-chain, level-alike}

pub returns-clause-transitive : goal.returns-clause-transitive
returns-clause-transitive c = level-chain

pub returns-clause-alike : goal.returns-clause-alike
returns-clause-alike c = level-alike
