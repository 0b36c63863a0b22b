use Rattle.std.proofs.Common.{◌≡◌, drop}
use Rattle.tally_keeper.specs.Kept.{view_in}
use Rattle.tally_store_rows.specs.Views.{tables_in, views_from}
use Rattle.tally_store_rows.proofs.FoundLemmas.{Reading}
use Rattle.tally_store_open.proofs.found.views_from.Given as goal

abbrev pub invariant-loop-row : goal.invariant-loop-row
invariant-loop-row l = Reading l.ledger.setup (view_in l.ledger) l.all.items (drop l.row-index l.rows) (tables_in l.left) ≡ views_from l.ledger.setup (view_in l.ledger) l.rows (tables_in l.tables)
