use Rattle.tally_frac.proofs.laws.greater_fractions_chain.Goals as goal
use Rattle.tally_frac.proofs.FractionLaws.{greater-chain}

pub returns : goal.returns
returns c = greater-chain
