use Rattle.tally_frac.proofs.laws.ties_have_one_divisor.Goals as goal
use Rattle.tally_frac.specs.internal.RankOrder.{tie-divisor}

pub returns : goal.returns
returns c = tie-divisor
