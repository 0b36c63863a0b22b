use Rattle.tally_frac.proofs.laws.weak_ranks_chain.Goals as goal
use Rattle.tally_frac.proofs.RankLaws.{weak-chain, tied-above, tied-below}

pub returns-clause-above : goal.returns-clause-above
returns-clause-above c = weak-chain

pub returns-clause-tied_above : goal.returns-clause-tied_above
returns-clause-tied_above c = tied-above

pub returns-clause-tied_below : goal.returns-clause-tied_below
returns-clause-tied_below c = tied-below
