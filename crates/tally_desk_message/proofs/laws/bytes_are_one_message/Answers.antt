use Rattle.tally_desk_message.proofs.OneLemmas.{bytes-are-one}
use Rattle.tally_desk_message.proofs.laws.bytes_are_one_message.Goals as goal

pub returns : goal.returns
returns c = bytes-are-one
