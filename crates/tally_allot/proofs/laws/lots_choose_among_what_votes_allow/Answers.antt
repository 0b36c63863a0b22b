use Rattle.tally_allot.proofs.ProfileLaws.{lots-choose}
use Rattle.tally_allot.proofs.laws.lots_choose_among_what_votes_allow.Goals as goal

pub returns : goal.returns
returns c = lots-choose
