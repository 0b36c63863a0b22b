use Rattle.std.proofs.Common.{◌≡◌, ◌+◌, ◌++◌, ℕ, List, [], map, filter, take, drop, length, slice_index, IsPermutation}
use Rattle.sqlite_value.specs.Order.{Row}
use Rattle.sqlite.specs.State.{HasCleanDisk}
use Rattle.sqlite.specs.Held.{state}
use Rattle.tally_store_schema.specs.Rows.{has_key}
use Rattle.tally_returns.specs.Counts.{VoteCounts}
use Rattle.tally_store_schema.specs.declared.table.KeyedTable.TheVariants.{Totals}
use Rattle.tally_store_schema.specs.Office.{IsInside, rows_in}
use Rattle.tally_store_rows.specs.Cells.{item_row, items_of}
use Rattle.tally_store_entries.specs.internal.Written.{HasItems}
use Rattle.tally_store_schema.specs.internal.Inside.{Stays}
use Rattle.tally_store_entries.proofs.constituencies.move_list_sums.Given as goal

abbrev pub invariant-loop-place : goal.invariant-loop-place
invariant-loop-place g l =
    let old = state g.S.Store l.fn.tx.conn.now in
    let now = state g.S.Store l.tx.conn.now in
    record {
      next : l.item ≡ l.place + 1;
      stays : Stays g.S.Store l.fn.tx l.tx;
      rows : HasCleanDisk now → IsInside old → (c : VoteCounts) (rest : List Row) → length c.votes ≡ length l.votes
          → ((place : ℕ) → slice_index l.by place ≡ 0 → slice_index c.votes place ≡ slice_index l.votes place)
          → filter (has_key l.con) rest ≡ [] → IsPermutation (map (item_row l.con) (items_of c) ++ rest) (rows_in Totals old)
          → HasItems Totals l.con (record c { votes = take l.place l.votes ++ drop l.place c.votes }) rest old now;
    }
