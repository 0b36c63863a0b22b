use Rattle.std.proofs.Common.{ap, sym, ◌∙◌, get_or, false}
use Rattle.std.proofs.lemmas.List.{get_or-replicate}
use Rattle.tally_allot_award.specs.internal.Pairs.{turns}
use Rattle.tally_allot_award.proofs.lot.turning_under.Goals as goal

pub returns-in-Fixed : goal.returns-in-Fixed
returns-in-Fixed c l lt =
    ap (λ marks. get_or marks l false) c.empty.ensures ∙ get_or-replicate 60 l false false lt ∙ sym (ap (λ rule. turns rule c.args.lot.now l) c.in-Fixed.is)
