use Rattle.tally_store.proofs.NextOpeningLemmas.{finds_content, finds_left, opens_whole}
use Rattle.tally_store.proofs.laws.the_next_opening_finds_the_office.Goals as goal

pub returns-clause-left : goal.returns-clause-left
returns-clause-left g c clean = finds_left c.args.store.conn c.args.next.now (c.files_left.ensures.numbered clean)

pub returns-clause-opens : goal.returns-clause-opens
returns-clause-opens g c = opens_whole c.args.next.now

pub returns-clause-between : goal.returns-clause-between
returns-clause-between g c clean =
    finds_content c.args.store.conn c.args.next.now c.args.store.setup (c.files_left.ensures.numbered clean)
    (λ now. c.files_left.ensures.kept (c.files_left.ensures.clean clean) now)
