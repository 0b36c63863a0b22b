use Rattle.tally_keeper.proofs.TreeLemmas.{tree-insert}
use Rattle.tally_store_commands.proofs.known.remember.Goals as goal

pub returns : goal.returns
returns c = tree-insert c.args.known.now c.insert.new.self c.args.con c.args.statuses c.in_ok-insert.ensures.updates
