use Rattle.tally_frac.proofs.laws.units_cancel.Goals as goal
use Rattle.tally_frac.proofs.FractionLaws.{scaled-greater, scaled-level}

pub returns-clause-greater : goal.returns-clause-greater
returns-clause-greater c p q unit some = scaled-greater q.votes p.divisor p.votes q.divisor unit some

pub returns-clause-level : goal.returns-clause-level
returns-clause-level c p q unit some = scaled-level p.votes q.divisor q.votes p.divisor unit some
