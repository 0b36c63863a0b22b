use Rattle.tally_allot.proofs.ProfileLaws.{allotments-exist}
use Rattle.tally_allot.proofs.laws.allotments_exist.Goals as goal

pub returns : goal.returns
returns c = allotments-exist
