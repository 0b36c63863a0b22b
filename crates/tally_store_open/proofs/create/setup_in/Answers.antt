use Rattle.tally_store_open.proofs.TextLemmas.{setup_is_utf8}
use Rattle.tally_store_open.proofs.create.setup_in.Goals as goal

pub returns-in-Err-from_utf8-clause-fault : goal.returns-in-Err-from_utf8-clause-fault
returns-in-Err-from_utf8-clause-fault c = absurd (c.in-Err-from_utf8.ensures.cases.0 (setup_is_utf8 c.args.text.now _ c.in-Ok.ensures.setup))
