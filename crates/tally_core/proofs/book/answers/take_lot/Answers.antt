use Rattle.std.proofs.Common.{◌≡◌, ◌∙◌, true, false, refl, sym}
use Rattle.tally_keeper.proofs.StepLemmas.{not_query}
use Rattle.tally_core.proofs.book.answers.take_lot.Goals as goal

pub returns-in_default : goal.returns-in_default
returns-in_default c = record {
  query = λ query.
      let never : true ≡ false = sym query ∙ not_query c.args.ask.now c.in_default.not-Query in
      cc;
  other = λ _. refl;
}
