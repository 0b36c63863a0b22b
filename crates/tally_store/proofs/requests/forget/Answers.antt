use Rattle.tally_store.proofs.RequestLemmas.{empty-nothing}
use Rattle.tally_store.proofs.requests.forget.Goals as goal

pub returns-clause-forgot : goal.returns-clause-forgot
returns-clause-forgot c = empty-nothing c.clear.new.self c.clear.ensures.empty
