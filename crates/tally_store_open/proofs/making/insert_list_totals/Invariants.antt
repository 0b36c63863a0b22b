use Rattle.sqlite.specs.State.{HasCleanDisk}
use Rattle.sqlite.specs.Held.{state}
use Rattle.tally_store_schema.specs.internal.Inside.{Stays}
use Rattle.tally_store_schema.specs.Office.{IsInside}
use Rattle.tally_store_open.specs.internal.Making.{AddsTotals, no_list_rows}
use Rattle.tally_store_open.proofs.making.insert_list_totals.Given as goal

abbrev pub invariant-loop-list : goal.invariant-loop-list
invariant-loop-list g l =
    let old = state g.S.Store l.fn.tx.conn.now in
    let now = state g.S.Store l.tx.conn.now in
    record {
      stays : Stays g.S.Store l.fn.tx l.tx;
      added : HasCleanDisk now → IsInside old → AddsTotals (no_list_rows l.con l.list) old now;
    }
