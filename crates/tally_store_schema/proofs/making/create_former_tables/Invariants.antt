use Rattle.sqlite.specs.State.{HasCleanDisk}
use Rattle.sqlite.specs.Held.{state}
use Rattle.tally_store_schema.specs.internal.Stays.{Stays}
use Rattle.tally_store_schema.specs.Made.{HasEmptyTables}
use Rattle.tally_store_schema.proofs.making.create_former_tables.Given as goal

abbrev pub invariant-loop-place : goal.invariant-loop-place
invariant-loop-place g l =
    let old = state g.S.Store l.fn.tx.conn.now in
    let now = state g.S.Store l.tx.conn.now in
    record {
      stays : Stays g.S.Store l.fn.tx l.tx;
      made : HasCleanDisk now → HasEmptyTables 0 old → HasEmptyTables l.place now;
    }
