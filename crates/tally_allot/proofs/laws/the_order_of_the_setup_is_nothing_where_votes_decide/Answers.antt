use Rattle.tally_allot.proofs.ProfileLaws.{setup-order}
use Rattle.tally_allot.proofs.laws.the_order_of_the_setup_is_nothing_where_votes_decide.Goals as goal

pub returns : goal.returns
returns c = setup-order
