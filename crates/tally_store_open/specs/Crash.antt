-- What a crash may leave of an office that is made or opened, and when nothing was written.
use Rattle.std.specs.Prelude.{◌≡◌, false, List, ℕ, Result, OnErr, IsTrue, codes}
use Rattle.sqlite.specs.Effect.{Database}
use Rattle.sqlite.specs.Held.{Held, state}
use Rattle.sqlite.specs.State.{State as Seen, HasCleanDisk, KeepsCounts, Survives}
use Rattle.sqlite_trees.specs.declared.store.Store.{Ghosts}
use Rattle.sqlite_trees.specs.Tree.{Trees}
use Rattle.tally_setup.specs.Constituency.{Constituency}
use Rattle.tally_machine_law.specs.LawfulState.{IsLawfulState}
use Rattle.tally_returns.specs.State.{State, opening}
use Rattle.tally_store_schema.specs.Made.{has_table}
use Rattle.tally_store_schema.specs.Tables.{former_schema}
use Rattle.tally_store_open.specs.Create.{IsAsBefore}
use Rattle.tally_store_open.specs.Office.{IsWholeOffice}
use Rattle.tally_store_open.specs.Open.{AreFound}

-- beside what it could leave before: the tables of the opening state, of the setup that the text
-- is, and no others
abbrev pub LeavesOpening : List ℕ → Trees → Type 0
LeavesOpening text db =
    (setup : List Constituency) × IsWholeOffice setup text (opening setup) db

-- Beside what it could leave before: where the tables that were found are those of version 1 of a
-- lawful state, the tables of this state in today's version, and no others.
pub record LeavesTakenOver (found : Database) (db : Trees) : Type 0 where
  pub former : found.schema ≡ former_schema
  pub setup : List Constituency
  pub text : List ℕ
  pub state : State
  pub lawful : IsLawfulState setup state
  pub tables : AreFound setup text state found
  pub whole : IsWholeOffice setup text state db

-- A call was carried out in a transaction of its own, whole or not at all: no transaction is open
-- after it; with an error the tables are as they were, while the connection is open; and a crash
-- leaves what it could leave before, or such a database.
pub record IsWholeOrNothing (Leaves : Trees → Type 0) {X E : Type 0} (result : Result X E)
    (old new : Seen) : Type 0 where
  pub ended : new.in_transaction ≡ false
  pub same : HasCleanDisk new → IsTrue new.is_open → OnErr result (IsAsBefore old new)
  pub crash : Survives old new Leaves

-- the same of a call on a connection, by what was found there
abbrev pub EndsWhole : {S X E : Type 0} (g : Ghosts S) → (Database → Trees → Type 0)
    → Held S → Held S → Result X E → Type 0
EndsWhole g Leaves old new result =
    IsWholeOrNothing (Leaves (state g old).now) result (state g old) (state g new)

-- there is a table `past`, so there is nothing to take over
abbrev pub HasPast : Database → Type 0
HasPast db = IsTrue (has_table db.schema (codes "past"))

-- Nothing was written. A crash leaves what it could leave before: where the connection was open,
-- what was found and nothing else. Where the connection is still open, what is there and what was
-- committed are what was found, row by row.
pub record IsUnwritten (old new : Seen) : Type 0 where
  pub survives : Survives old new (λ _. ⊥)
  pub crash : HasCleanDisk new → IsTrue old.is_open → (db : Trees) → new.may_leave db
      → db ≡ old.now.trees
  pub same : HasCleanDisk new → IsTrue new.is_open → IsAsBefore old new

-- where there was a table `past`, nothing was written
abbrev pub IsUnwrittenToday : Seen → Seen → Type 0
IsUnwrittenToday old new = HasPast old.now → IsUnwritten old new

-- and no change was counted
abbrev pub CountsNothing : Seen → Seen → Type 0
CountsNothing old new = HasPast old.now → HasCleanDisk new → KeepsCounts old new
