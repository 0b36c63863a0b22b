use Rattle.std.proofs.Common.{refl}
use Rattle.std.specs.Fmt.{digits}
use Rattle.tally_desk_answer.proofs.word.unavailable_text.Goals as goal

pub returns : goal.returns
unfolding digits
returns c = refl
