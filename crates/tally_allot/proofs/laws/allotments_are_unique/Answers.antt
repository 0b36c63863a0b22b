use Rattle.tally_allot.proofs.ProfileLaws.{allotments-unique}
use Rattle.tally_allot.proofs.laws.allotments_are_unique.Goals as goal

pub returns : goal.returns
returns c = allotments-unique
