use Rattle.tally_frac.proofs.laws.strict_ranks_chain.Goals as goal
use Rattle.tally_frac.proofs.RankLaws.{strict-chain}

pub returns : goal.returns
returns c = strict-chain
