use Rattle.std.proofs.Common.{◌∙◌, sym}
use Rattle.tally_keeper.proofs.TreeLemmas.{get-tree}
use Rattle.tally_store_commands.proofs.known.known_at.Goals as goal

pub returns : goal.returns
returns c = c.copied.ensures ∙ c.get.ensures.value ∙ sym (get-tree c.args.known.now c.args.con)
