use Rattle.std.proofs.Common.{map}
use Rattle.std.proofs.lemmas.Result.{IfOk-weaker}
use Rattle.sqlite.specs.State.{HasCleanDisk}
use Rattle.sqlite.specs.Held.{state}
use Rattle.tally_store_schema.specs.Rows.{others}
use Rattle.tally_store_schema.specs.declared.table.KeyedTable.TheVariants.{Lots}
use Rattle.tally_store_schema.specs.Office.{rows_in}
use Rattle.tally_store_rows.specs.Cells.{item_row, numbers_with_places}
use Rattle.tally_store_entries.proofs.ConLemmas.{lot_written}
use Rattle.tally_store_entries.proofs.LotLemmas.{added_beside}
use Rattle.tally_store_entries.proofs.RowLemmas.{numbers_are}
use Rattle.tally_store_schema.proofs.StaysLemmas.{clean_first, stays-both}
use Rattle.tally_store_entries.proofs.constituencies.put_lot.Goals as goal

pub returns-clause-stays : goal.returns-clause-stays
returns-clause-stays g c = stays-both g.S.Store c.args.tx.now c.delete_lot.new.tx c.insert_lots.new.tx c.delete_lot.ensures.stays c.insert_lots.ensures.stays

pub returns-clause-put : goal.returns-clause-put
returns-clause-put g c clean inside =
    let old = state g.S.Store c.args.tx.now.conn.now in
    let mid = state g.S.Store c.delete_lot.new.tx.conn.now in
    let new = state g.S.Store c.insert_lots.new.tx.conn.now in
    let con = c.args.con.now in
    let early : HasCleanDisk mid = clean_first c.insert_lots.ensures.stays.survives clean in
    let gone = c.in_ok-delete_lot.ensures.deleted early inside in
    IfOk-weaker c.insert_lots.result _ _ (λ _ more. added_beside Lots (map (item_row con) (numbers_with_places 1 c.args.lot.now)) (others con (rows_in Lots old)) old mid new gone more) (rw (numbers_are con 1 c.args.lot.now) at (c.insert_lots.ensures.inserted clean gone.inside))

pub returns-clause-lots : goal.returns-clause-lots
returns-clause-lots g c clean inside =
    let old = state g.S.Store c.args.tx.now.conn.now in
    let new = state g.S.Store c.insert_lots.new.tx.conn.now in
    IfOk-weaker c.insert_lots.result _ _ (λ _ put. lot_written c.args.con.now c.args.lot.now old new put) (returns-clause-put g c clean inside)
