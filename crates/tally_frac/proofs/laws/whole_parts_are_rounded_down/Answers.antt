use Rattle.tally_frac.proofs.laws.whole_parts_are_rounded_down.Goals as goal
use Rattle.tally_frac.proofs.FractionLaws.{whole_part-rises}

pub returns-clause-rises : goal.returns-clause-rises
returns-clause-rises c = whole_part-rises
