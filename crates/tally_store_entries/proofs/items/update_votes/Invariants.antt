use Rattle.std.proofs.Common.{◌≡◌, ◌+◌, ◌++◌, List, [], map, filter, take, drop, length, IsPermutation}
use Rattle.sqlite_value.specs.Order.{Row}
use Rattle.sqlite.specs.State.{HasCleanDisk}
use Rattle.sqlite.specs.Held.{state}
use Rattle.tally_store_schema.specs.Rows.{has_key}
use Rattle.tally_returns.specs.Counts.{VoteCounts}
use Rattle.tally_store_schema.specs.declared.table.KeyedTable.TheVariants.{Counts}
use Rattle.tally_store_schema.specs.Office.{IsInside, rows_in}
use Rattle.tally_store_rows.specs.Cells.{item_row, items_of}
use Rattle.tally_store_entries.specs.internal.Written.{HasCounts}
use Rattle.tally_store_schema.specs.internal.Inside.{Stays}
use Rattle.tally_store_entries.proofs.items.update_votes.Given as goal

abbrev pub invariant-loop-n : goal.invariant-loop-n
invariant-loop-n g l =
    let old = state g.S.Store l.fn.tx.conn.now in
    let now = state g.S.Store l.tx.conn.now in
    record {
      place : l.item ≡ l.n-index + 1;
      stays : Stays g.S.Store l.fn.tx l.tx;
      rows : HasCleanDisk now → IsInside old → (c : VoteCounts) (rest : List Row) → length c.votes ≡ length l.votes → filter (has_key l.station) rest ≡ [] → IsPermutation (map (item_row l.station) (items_of c) ++ rest) (rows_in Counts old)
          → HasCounts l.station (record c { votes = take l.n-index l.votes ++ drop l.n-index c.votes }) rest old now;
    }
