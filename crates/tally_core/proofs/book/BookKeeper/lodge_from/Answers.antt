use Rattle.tally_returns_rows.specs.Delivery.{delivery}
use Rattle.tally_keeper.proofs.TakenLemmas.{import-held}
use Rattle.tally_core.proofs.book.BookKeeper.lodge_from.Goals as goal

pub invariant_of-self : goal.invariant_of-self
invariant_of-self g c =
    import-held c.self.inside.ledger c.take_source.new.ledger (delivery g.R.RowSource c.args.rows.now c.take_source.new.source) c.in-Ok.count c.self.invariant c.take_source.ensures.kept
    c.in-Ok.ensures.imported
