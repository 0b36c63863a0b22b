-- What a call in a transaction over the tables of the office keeps, whatever it answers.
use Rattle.std.specs.Prelude.{IsTrue, Result, OnOk}
use Rattle.sqlite_trees.specs.declared.store.Store.{Ghosts}
use Rattle.sqlite.specs.declared.error.Error.{Error}
use Rattle.sqlite.specs.declared.transaction.Transaction.{Transaction}
use Rattle.sqlite.specs.Held.{state}
use Rattle.sqlite.specs.State.{State as Seen, HasCleanDisk, IsUnchanged}
pub use Rattle.tally_store_schema.specs.internal.Stays.{InDatabase, Stays, StaysFrom}
use Rattle.tally_store_schema.specs.Office.{IsInside}

-- what a call keeps in one in which the office's tables are open
abbrev pub StaysInside : {S : Type 0} (g : Ghosts S) → Transaction S → Transaction S → Type 0
StaysInside g old new = StaysFrom IsInside g old new

-- they are open, on a connection that is open
abbrev pub IsOpenInside : Seen → Type 0
IsOpenInside s = IsInside s × IsTrue s.is_open

-- What a call keeps that only reads. Where it answered, the connection was open and nothing
-- changed.
pub record OnlyReadsFrom (starts : Seen → Type 0) {S X : Type 0} (g : Ghosts S)
    (old new : Transaction S) (result : Result X Error) : Type 0 where
  pub stays : StaysFrom starts g old new
  pub same : HasCleanDisk (state g new.conn.now) → starts (state g old.conn.now)
      → OnOk result (IsUnchanged (state g old.conn.now) (state g new.conn.now))
  pub answered_open : HasCleanDisk (state g new.conn.now)
      → OnOk result (IsTrue (state g old.conn.now).is_open)

-- the same where the office's tables are open
abbrev pub OnlyReads : {S X : Type 0} (g : Ghosts S) → Transaction S → Transaction S
    → Result X Error → Type 0
OnlyReads g old new result = OnlyReadsFrom IsInside g old new result
