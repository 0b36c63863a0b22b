use Rattle.tally_store.proofs.NextOpeningLemmas.{clean_before, numbered_before}
use Rattle.tally_store.proofs.laws.files_left.Goals as goal

pub returns-clause-clean : goal.returns-clause-clean
returns-clause-clean g c clean =
    clean_before g.S.Store.view c.args.store.conn c.close.result c.into_store.result c.close.ensures.same c.into_store.ensures.quiet.clean clean

pub returns-clause-numbered : goal.returns-clause-numbered
returns-clause-numbered g c clean =
    numbered_before g.S.Store.view c.args.store.conn c.close.result c.into_store.result c.close.ensures.same c.into_store.ensures.undone c.into_store.ensures.numbered clean
