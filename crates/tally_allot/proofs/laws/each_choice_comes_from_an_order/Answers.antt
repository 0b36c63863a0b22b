use Rattle.tally_allot.proofs.ProfileLaws.{choices-come}
use Rattle.tally_allot.proofs.laws.each_choice_comes_from_an_order.Goals as goal

pub returns : goal.returns
returns c = choices-come
