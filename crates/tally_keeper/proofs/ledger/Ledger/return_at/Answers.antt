use Rattle.std.proofs.Common.{◌∙◌, sym, ap}
use Rattle.std.specs.FinMap.{get}
use Rattle.tally_keeper.specs.Kept.{Kept}
use Rattle.tally_keeper.proofs.TreeLemmas.{get-tree}
use Rattle.tally_keeper.proofs.ledger.Ledger.return_at.Goals as goal

pub returns : goal.returns
returns c = c.get.ensures.value ∙ sym (get-tree c.self.inside.returns c.args.station) ∙ ap (λ (k : Kept). get k.returns c.args.station) c.self.view_is
