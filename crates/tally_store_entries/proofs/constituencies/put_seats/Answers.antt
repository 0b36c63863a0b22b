use Rattle.std.proofs.Common.{map}
use Rattle.std.proofs.lemmas.Result.{IfOk-weaker}
use Rattle.sqlite.specs.State.{HasCleanDisk}
use Rattle.sqlite.specs.Held.{state}
use Rattle.tally_store_schema.specs.Rows.{others}
use Rattle.tally_store_schema.specs.declared.table.KeyedTable.TheVariants.{Seats}
use Rattle.tally_store_schema.specs.Office.{rows_in}
use Rattle.tally_store_rows.specs.Cells.{item_row, numbers_with_places}
use Rattle.tally_store_entries.proofs.ConLemmas.{seats_written}
use Rattle.tally_store_entries.proofs.LotLemmas.{added_beside}
use Rattle.tally_store_entries.proofs.RowLemmas.{numbers_are}
use Rattle.tally_store_schema.proofs.StaysLemmas.{clean_first, stays-both}
use Rattle.tally_store_entries.proofs.constituencies.put_seats.Goals as goal

pub returns-clause-stays : goal.returns-clause-stays
returns-clause-stays g c = stays-both g.S.Store c.args.tx.now c.delete_seats.new.tx c.insert_seats.new.tx c.delete_seats.ensures.stays c.insert_seats.ensures.stays

pub returns-clause-put : goal.returns-clause-put
returns-clause-put g c clean inside =
    let old = state g.S.Store c.args.tx.now.conn.now in
    let mid = state g.S.Store c.delete_seats.new.tx.conn.now in
    let new = state g.S.Store c.insert_seats.new.tx.conn.now in
    let con = c.args.con.now in
    let early : HasCleanDisk mid = clean_first c.insert_seats.ensures.stays.survives clean in
    let gone = c.in_ok-delete_seats.ensures.deleted early inside in
    IfOk-weaker c.insert_seats.result _ _ (λ _ more. added_beside Seats (map (item_row con) (numbers_with_places 1 c.args.seats.now)) (others con (rows_in Seats old)) old mid new gone more) (rw (numbers_are con 1 c.args.seats.now) at (c.insert_seats.ensures.inserted clean gone.inside))

pub returns-clause-seats : goal.returns-clause-seats
returns-clause-seats g c clean inside =
    let old = state g.S.Store c.args.tx.now.conn.now in
    let new = state g.S.Store c.insert_seats.new.tx.conn.now in
    IfOk-weaker c.insert_seats.result _ _ (λ _ put. seats_written c.args.con.now c.args.seats.now old new put) (returns-clause-put g c clean inside)
