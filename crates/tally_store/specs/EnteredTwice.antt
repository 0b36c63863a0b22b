-- What the database of an office has of returns that were entered twice.
use Rattle.std.specs.Prelude.{◌≡◌, ℕ, pos, All, List, filter, Some, IsPermutation, IsTrue}
use Rattle.sqlite_trees.specs.declared.store.Store.{Ghosts}
use Rattle.sqlite.specs.Held.{state}
use Rattle.sqlite.specs.State.{State as Seen, HasCleanDisk}
use Rattle.sqlite_value.specs.declared.value.Value.TheVariants.{Int, Text}
use Rattle.sqlite_value.specs.Order.{Row, column}
use Rattle.tally_store_schema.specs.Rows.{has_key}
use Rattle.tally_setup.specs.Constituency.{Constituency}
use Rattle.tally_setup.specs.Setup.{constituency_with}
use Rattle.tally_setup.specs.declared.constituency.Entry.TheVariants.{Double}
use Rattle.tally_returns.specs.Return.{StationReturn}
use Rattle.tally_returns.specs.State.{opening}
use Rattle.tally_returns.specs.declared.returns.Status.TheVariants.{Closed}
use Rattle.tally_keeper.specs.EnteredTwice.{IsEnteredTwiceIn}
use Rattle.tally_keeper.specs.Keeper.{Event, HappensInTurn}
use Rattle.tally_store_schema.specs.declared.table.KeyedTable.TheVariants.{Returns, Counts}
use Rattle.tally_store_schema.specs.Office.{rows_in}
use Rattle.tally_store_rows.specs.Cells.{count_rows, return_row, status_number}
use Rattle.tally_store.specs.Keeping.{content_in}
use Rattle.tally_store.specs.Store.{Stored}

-- a row of `returns` of this constituency, whose status is that of a closed return
abbrev pub IsClosedRow : Constituency → Row → Type 0
IsClosedRow con row =
    (column row 1 ≡ Text con.code) × (column row 4 ≡ Int (pos (status_number Closed)))

-- The row is that of a return that was entered twice by what happened, and the rows of `counts` of
-- its station have the counts that were entered twice.
pub record IsRowEnteredTwice (events : List Event) (con : Constituency) (seen : Seen) (row : Row)
    : Type 0 where
  pub station : List ℕ
  pub standing : StationReturn
  pub is : row ≡ return_row con.code (station, standing)
  pub counts : IsPermutation (count_rows (station, standing))
      (filter (has_key station) (rows_in Counts seen))
  pub twice : IsEnteredTwiceIn events station standing

-- so it is of each closed row of a constituency whose returns are entered twice
abbrev pub HasRowsEnteredTwice : List Constituency → List Event → Seen → Type 0
HasRowsEnteredTwice setup events seen =
    (code : List ℕ) (con : Constituency) → constituency_with code setup ≡ Some con
    → con.entry ≡ Double
    → All (λ row. IsClosedRow con row → IsRowEnteredTwice events con seen row)
    (rows_in Returns seen)

-- As long as the disk has returned what was written and has not failed, so it is by whatever
-- happened since the store's content was the opening state of its setup.
abbrev pub HasRowsEnteredTwiceIn : {S : Type 0} → Ghosts S → Stored S → Type 0
HasRowsEnteredTwiceIn g store =
    HasCleanDisk (state g store.conn) → IsTrue (state g store.conn).is_open
    → (events : List Event)
    → HappensInTurn store.setup (Some (opening store.setup)) events (content_in g store)
    → HasRowsEnteredTwice store.setup events (state g store.conn)
