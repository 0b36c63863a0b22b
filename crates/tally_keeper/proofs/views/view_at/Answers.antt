use Rattle.std.proofs.Common.{◌∙◌, sym}
use Rattle.tally_keeper.proofs.TreeLemmas.{get-tree}
use Rattle.tally_keeper.proofs.views.view_at.Goals as goal

pub returns : goal.returns
returns c = c.get.ensures.value ∙ sym (get-tree c.args.views.now c.args.con)
