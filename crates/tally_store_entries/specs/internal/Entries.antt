-- What writing all rows of an entry does to the tables.
use Rattle.std.specs.Prelude.{◌≡◌, ◌≢◌, ◌≤◌, ◌++◌, ℕ, List, length, map, Option, None, Some, IfSome}
use Rattle.std.specs.Prelude.{Result, IfOk, OnOk}
use Rattle.std.specs.FinMap.{get, insert}
use Rattle.sqlite_value.specs.Order.{Row}
use Rattle.sqlite_trees.specs.declared.store.Store.{Ghosts}
use Rattle.sqlite.specs.declared.error.Error.{Error}
use Rattle.sqlite.specs.declared.transaction.Transaction.{Transaction}
use Rattle.sqlite.specs.Held.{state}
use Rattle.sqlite.specs.State.{State as Seen, HasCleanDisk, IsUnchanged}
use Rattle.tally_store_schema.specs.Rows.{AreRowsOf, others}
use Rattle.tally_frac.specs.Limits.{most_lists}
use Rattle.tally_setup.specs.Constituency.{Constituency}
use Rattle.tally_returns.specs.Return.{StationReturn, Returns}
use Rattle.tally_store_schema.specs.Tables.{setup_tree}
use Rattle.tally_store_schema.specs.declared.table.KeyedTable.{KeyedTable}
use Rattle.tally_store_schema.specs.declared.table.KeyedTable.TheVariants.{Returns as Heads, Counts}
use Rattle.tally_store_schema.specs.internal.Inside.{IsOpenInside}
use Rattle.tally_store_schema.specs.Office.{tree_of, rows_in, IsInside, HasRows}
use Rattle.tally_store_rows.specs.Cells.{constituency_of, item_row, numbers_with_places}
use Rattle.tally_store_rows.specs.Cells.{return_rows}
use Rattle.tally_store_rows.specs.Cells.{count_rows}
use Rattle.tally_returns.specs.Lawful.{IsLawfulAt}

-- the rows of a table, with their rowids
abbrev pub stored_in : KeyedTable → Seen → List Row
stored_in t s = s.now.trees (tree_of t)

-- What holds after a call that looks something up in tables like these, where the disk returned
-- what was written. What it found is so of the tables as they were before.
abbrev pub FindsFrom : (Seen → Type 0) → {S X : Type 0} (g : Ghosts S) → (Seen → X → Type 0)
    → Transaction S → Transaction S → Result X Error → Type 0
FindsFrom starts g Found old new result =
    HasCleanDisk (state g new.conn.now) → starts (state g old.conn.now)
    → IfOk result (Found (state g old.conn.now))

-- the same in the tables of the office
abbrev pub Finds : {S X : Type 0} (g : Ghosts S) → (Seen → X → Type 0) → Transaction S
    → Transaction S → Result X Error → Type 0
Finds g Found old new result = FindsFrom IsInside g Found old new result

-- What holds after a call that changes nothing in the tables of the office, on a connection that is
-- open, where the disk returned what was written.
abbrev pub ChangesNothing : {S X : Type 0} (g : Ghosts S) → Transaction S → Transaction S
    → Result X Error → Type 0
ChangesNothing g old new result =
    HasCleanDisk (state g new.conn.now) → IsOpenInside (state g old.conn.now)
    → OnOk result (IsUnchanged (state g old.conn.now) (state g new.conn.now))

-- ---- returns

-- the rows of `returns` and of `counts` are those of these returns
pub record AreReturnsIn (setup : List Constituency) (returns : Returns) (s : Seen) : Type 0 where
  pub heads : AreRowsOf (return_rows setup) returns (stored_in Heads s)
  pub counts : AreRowsOf count_rows returns (stored_in Counts s)

-- The tables of returns now have this return at the station, and all other returns as they were.
-- Every other table is as it was.
pub record PutsReturn (setup : List Constituency) (returns : Returns) (station : List ℕ)
    (standing : StationReturn) (old new : Seen) : Type 0 where
  pub inside : IsInside new
  pub returns_are : AreReturnsIn setup (insert returns station standing) new
  pub others : (u : KeyedTable) → tree_of u ≢ tree_of Heads → tree_of u ≢ tree_of Counts
      → stored_in u new ≡ stored_in u old
  pub setup_is : new.now.trees setup_tree ≡ old.now.trees setup_tree

-- the return is added at a station that had none
abbrev pub AddsReturn : List ℕ → List ℕ → StationReturn → Seen → Seen → Result Unit Error → Type 0
AddsReturn con station standing old new result =
    HasCleanDisk new → IsInside old → (setup : List Constituency) (returns : Returns)
    → constituency_of setup station ≡ con → get returns station ≡ None
    → AreReturnsIn setup returns old
    → OnOk result (PutsReturn setup returns station standing old new)

-- the return takes the place of one that had the same counts
abbrev pub ChangesReturn : List ℕ → StationReturn → Seen → Seen → Result Unit Error → Type 0
ChangesReturn station standing old new result =
    HasCleanDisk new → IsInside old
    → (setup : List Constituency) (returns : Returns) (before : StationReturn)
    → get returns station ≡ Some before → before.counts ≡ standing.counts
    → AreReturnsIn setup returns old
    → OnOk result (PutsReturn setup returns station standing old new)

-- the return takes the place of one for as many lists
abbrev pub CorrectsReturn : List ℕ → StationReturn → Seen → Seen → Result Unit Error → Type 0
CorrectsReturn station standing old new result =
    HasCleanDisk new → IsInside old
    → (setup : List Constituency) (returns : Returns) (before : StationReturn)
    → get returns station ≡ Some before → length before.counts.votes ≡ length standing.counts.votes
    → AreReturnsIn setup returns old
    → OnOk result (PutsReturn setup returns station standing old new)

-- What is found at a station is its return, where that is lawful there and for at most 60 lists.
abbrev pub FindsReturn : List Constituency → List ℕ → Seen → Option StationReturn → Type 0
FindsReturn setup station s found =
    (returns : Returns) → AreReturnsIn setup returns s
    → IfSome (get returns station)
    (λ standing. IsLawfulAt setup station standing × (length standing.counts.votes ≤ most_lists))
    → found ≡ get returns station

-- ---- lots and seats

-- The table has these numbers of a constituency, each with its place from 1. It has the rows of the
-- others as they were.
abbrev pub PutsNumbers : KeyedTable → List ℕ → List ℕ → Seen → Seen → Result Unit Error → Type 0
PutsNumbers t con ns old new result =
    HasCleanDisk new → IsInside old
    → OnOk result (HasRows t
    (map (item_row con) (numbers_with_places 1 ns) ++ others con (rows_in t old)) old new)
