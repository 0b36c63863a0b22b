use Rattle.std.proofs.Common.{subst}
use Rattle.std.proofs.lemmas.Result.{IfOk-weaker}
use Rattle.sqlite.specs.Held.{state}
use Rattle.tally_returns.specs.PastSeats.{PastSeats}
use Rattle.tally_store_schema.specs.declared.table.KeyedTable.TheVariants.{Past}
use Rattle.tally_store_rows.specs.Cells.{past_rows}
use Rattle.tally_store_entries.specs.internal.Constituencies.{ChangesOnly, MovesRows, HasRecord}
use Rattle.tally_store_entries.proofs.ConLemmas.{record_is, record_written}
use Rattle.tally_store_entries.proofs.constituencies.put_record.Goals as goal

pub returns-clause-written : goal.returns-clause-written
returns-clause-written g c clean inside =
    let old = state g.S.Store c.args.tx.now.conn.now in
    let new = state g.S.Store c.insert_past.new.tx.conn.now in
    let con = c.args.con.now in
    let shown : PastSeats = record { edition = c.past.inside.edition; seats = c.past.inside.seats.items } in
    IfOk-weaker c.insert_past.result _ _
    (λ _ put. subst (λ (p : PastSeats). ChangesOnly Past old new × MovesRows Past past_rows con (HasRecord p) old new) c.past.view_is (record_written con shown.edition shown.seats old new put))
    (rw (c.as_slice.ensures.value, record_is con shown.edition 1 shown.seats) at (c.insert_past.ensures.inserted clean inside))
