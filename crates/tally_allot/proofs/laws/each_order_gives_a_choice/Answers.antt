use Rattle.tally_allot.proofs.ProfileLaws.{orders-give}
use Rattle.tally_allot.proofs.laws.each_order_gives_a_choice.Goals as goal

pub returns : goal.returns
returns c = orders-give
