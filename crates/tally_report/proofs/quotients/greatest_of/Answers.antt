use Rattle.std.proofs.Common.{◌∙◌, [], take, get_or, ap, sym}
use Rattle.std.specs.Prelude.{max}
use Rattle.std.proofs.lemmas.List.{take_more}
use Rattle.tally_report.specs.QuotientsText.{greatest_of}
use Rattle.tally_report.proofs.QuotientLemmas.{most-more}
use Rattle.tally_report.proofs.quotients.greatest_of.Goals as goal

pub loop-n-preserved : goal.loop-n-preserved
loop-n-preserved c =
    let ns = c.args.numbers.now in
    let i = c.loop-n.n-index in
    c.greater-most.ensures
    ∙ ap (λ m. max m (get_or ns i 0)) c.loop-n.invariant
    ∙ sym (most-more (take i ns) (get_or ns i 0))
    ∙ ap greatest_of (sym (take_more ns i 0 c.loop-n-test.true))
