use Rattle.std.proofs.lemmas.Result.{IfOk-weaker}
use Rattle.sqlite.specs.Held.{state}
use Rattle.tally_store_rows.specs.Cells.{constituency_of}
use Rattle.tally_store_schema.specs.declared.table.KeyedTable.TheVariants.{Returns}
use Rattle.tally_store_entries.specs.internal.Entries.{stored_in}
use Rattle.tally_store_entries.proofs.ReturnLemmas.{only_head, return_changed}
use Rattle.tally_store_entries.proofs.returns.change_return.Goals as goal

pub returns-clause-changed : goal.returns-clause-changed
returns-clause-changed g c clean inside setup returns before is same held =
    let old = state g.S.Store c.args.tx.now.conn.now in
    let new = state g.S.Store c.update_head.new.tx.conn.now in
    let station = c.args.station.now in
    IfOk-weaker c.update_head.result _ _ (λ _ put. return_changed setup returns station before c.args.standing.now old new is same held put)
    (c.update_head.ensures.updated (constituency_of setup station) before clean inside (only_head setup returns station before (stored_in Returns old) is held.heads))
