use Rattle.std.proofs.Common.{ap, ◌∙◌, length, get_or, false}
use Rattle.std.proofs.lemmas.List.{get_or-replicate, length-replicate}
use Rattle.tally_allot_award.proofs.lot.named_in.Goals as goal

pub loop-place-init : goal.loop-place-init
loop-place-init c = record { long = ap length c.empty-named.ensures ∙ length-replicate 60 false; marked = λ x lt. ap (λ marks. get_or marks x false) c.empty-named.ensures ∙ get_or-replicate 60 x false false lt }
