-- What a crash may leave of a store. The clauses speak of a crash at the end of a call. A disk that
-- stops within a call refuses every later access, so that the call still ends, and its clause holds
-- of that stop too. That is an inference: no clause states it.
use Rattle.std.specs.Prelude.{◌≡◌, ◌⊎◌, List, ℕ, IfOk, IsTrue, Some, Result, Ok, Err}
use Rattle.sqlite.specs.State.{State as Seen, HasCleanDisk, KeepsCounts}
use Rattle.sqlite_trees.specs.Tree.{Trees}
use Rattle.tally_setup.specs.Constituency.{Constituency}
use Rattle.tally_machine_law.specs.LawfulState.{IsLawfulState}
use Rattle.tally_machine_law.specs.Step.{IsAnswered, IsNotAccepted}
use Rattle.tally_returns.specs.State.{State}
use Rattle.tally_returns.specs.declared.ask.Ask.{Ask}
use Rattle.tally_returns.specs.declared.refusal.Refusal.{Refusal}
use Rattle.tally_returns.specs.declared.reply.Reply.{Reply}
use Rattle.tally_keeper.specs.Keeper.{IsImportOf}
use Rattle.tally_keeper.specs.Shown.{IsOwnRefusal}
use Rattle.tally_returns_rows.specs.Source.{Delivery}
use Rattle.tally_returns_rows.specs.declared.source.ImportFault.{ImportFault}
use Rattle.tally_returns_rows.specs.declared.import.ImportCount.{ImportCount}
use Rattle.tally_store_open.specs.Create.{IsAsBefore}
use Rattle.tally_store_open.specs.Office.{HasState, IsOffice, IsWholeOffice}
use Rattle.tally_store.specs.Content.{content_of}

-- The tables of the state after a request, and no others.
pub record AreTablesAfter (setup : List Constituency) (text : List ℕ) (s : State) (ask : Ask)
    (db : Trees) : Type 0 where
  pub answer : Result Reply Refusal
  pub state : State
  pub answered : IsAnswered setup s ask answer state
  pub whole : IsWholeOffice setup text state db

-- Beside what it could leave before: the store was open, with a lawful state, and what is left are
-- the tables after a request.
pub record LeavesAfter (setup : List Constituency) (ask : Ask) (old : Seen) (db : Trees)
    : Type 0 where
  pub was_open : IsTrue old.is_open
  pub text : List ℕ
  pub state : State
  pub lawful : IsLawfulState setup state
  pub has : HasState setup text state old
  pub after : AreTablesAfter setup text state ask db

-- The tables of the state after an import of all rows that the source gave, which is at its end,
-- and no others.
pub record AreTablesImported (setup : List Constituency) (text : List ℕ) (s : State) (d : Delivery)
    (db : Trees) : Type 0 where
  pub count : ImportCount
  pub state : State
  pub imported : IsImportOf setup (Some s) d count (Some state)
  pub whole : IsWholeOffice setup text state db

-- Beside what it could leave before: the store was open, with a lawful state, and what is left are
-- the tables after the import.
pub record LeavesImported (setup : List Constituency) (d : Delivery) (old : Seen) (db : Trees)
    : Type 0 where
  pub was_open : IsTrue old.is_open
  pub text : List ℕ
  pub state : State
  pub lawful : IsLawfulState setup state
  pub has : HasState setup text state old
  pub after : AreTablesImported setup text state d db

-- Beside what it could leave before: the store was open, and what is left are the tables that were
-- there.
pub record LeavesSame (old : Seen) (db : Trees) : Type 0 where
  pub was_open : IsTrue old.is_open
  pub same : db ≡ old.now.trees

-- Nothing was written. Where the store was open, a crash leaves what was there and nothing else.
-- While it is open, what is there and what was committed are what they were, row by row. No row was
-- written again as it was either: the connection counts no change.
pub record WritesNothing (old new : Seen) : Type 0 where
  pub crash : HasCleanDisk new → IsTrue old.is_open → (db : Trees) → new.may_leave db
      → db ≡ old.now.trees
  pub same : HasCleanDisk new → IsTrue new.is_open → IsAsBefore old new
  pub counts : HasCleanDisk new → IsTrue new.is_open → KeepsCounts old new

-- After a request that did not act: nothing was written, or it was not accepted, and while the
-- store is open what is there is what it was.
abbrev pub LeavesAsBefore : Seen → Seen → Result Reply Refusal → Type 0
LeavesAsBefore old new r =
    WritesNothing old new
    ⊎ (IsNotAccepted r × (HasCleanDisk new → IsTrue new.is_open → IsAsBefore old new))

-- After a look at what the store has: nothing was written, or it was refused for a reason of the
-- store's own, and while the store is open what is there is what it was.
abbrev pub LooksWithoutWriting : {T : Type 0} → Seen → Seen → Result T Refusal → Type 0
LooksWithoutWriting old new (Ok shown) = WritesNothing old new
LooksWithoutWriting old new (Err why) =
    WritesNothing old new
    ⊎ (IsOwnRefusal why × (HasCleanDisk new → IsTrue new.is_open → IsAsBefore old new))

-- After an import that lodged nothing, nothing was written.
abbrev pub WritesOnlyLodgedRows : Seen → Seen → Result ImportCount ImportFault → Type 0
WritesOnlyLodgedRows old new result =
    IfOk result (λ count. count.lodged ≡ 0 → WritesNothing old new)

-- Between calls: the database is that of the store's content, which is a lawful state, and a crash
-- leaves its tables and nothing else.
pub record IsKept (setup : List Constituency) (seen : Seen) : Type 0 where
  pub state : State
  pub content : content_of setup seen ≡ Some state
  pub lawful : IsLawfulState setup state
  pub office : IsOffice setup state seen
  pub crash : (db : Trees) → seen.may_leave db → db ≡ seen.now.trees
