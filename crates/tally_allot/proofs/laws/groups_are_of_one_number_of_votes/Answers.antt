use Rattle.tally_allot.proofs.ProfileLaws.{groups-of-votes}
use Rattle.tally_allot.proofs.laws.groups_are_of_one_number_of_votes.Goals as goal

pub returns : goal.returns
returns c = groups-of-votes
