use Rattle.std.proofs.Common.{take}
use Rattle.sqlite.specs.State.{HasCleanDisk}
use Rattle.sqlite.specs.Held.{state}
use Rattle.tally_store_schema.specs.internal.Inside.{Stays}
use Rattle.tally_store_schema.specs.Office.{IsInside}
use Rattle.tally_store_open.specs.internal.Making.{AddsCons}
use Rattle.tally_store_open.proofs.making.insert_openings.Given as goal

abbrev pub invariant-loop-con : goal.invariant-loop-con
invariant-loop-con g l =
    let old = state g.S.Store l.fn.tx.conn.now in
    let now = state g.S.Store l.tx.conn.now in
    record {
      stays : Stays g.S.Store l.fn.tx l.tx;
      opened : HasCleanDisk now → IsInside old → AddsCons (take l.con-index l.cons) old now;
    }
