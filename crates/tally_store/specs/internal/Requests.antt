-- What a request or an import leaves of a connection. No public contract speaks of this.
use Rattle.std.specs.Prelude.{◌≡◌, ◌⊎◌, false, List, ℕ, IfOk, IsOk, IsTrue, None, OnOk, Option}
use Rattle.std.specs.Prelude.{Some, Result, Ok, Err, Vec}
use Rattle.std.specs.declared.alloc.Global.{Global}
use Rattle.std.specs.FinMap.{get}
use Rattle.sqlite.specs.State.{State as Seen, HasCleanDisk, IsRolledBack, KeepsCounts, Shows}
use Rattle.sqlite.specs.State.{Survives}
use Rattle.sqlite.specs.declared.error.Error.{Error}
use Rattle.sqlite.specs.Held.{Held, state}
use Rattle.sqlite_trees.specs.declared.store.Store.{Ghosts}
use Rattle.sqlite_trees.specs.Tree.{Trees}
use Rattle.tally_setup.specs.Constituency.{Constituency}
use Rattle.tally_machine_law.specs.LawfulState.{IsLawfulState}
use Rattle.tally_machine_law.specs.Step.{IsAnswered}
use Rattle.tally_returns.specs.State.{State}
use Rattle.tally_returns.specs.PastSeats.{PastSeats}
use Rattle.tally_returns.specs.View.{View}
use Rattle.tally_returns.specs.declared.ask.Ask.{Ask}
use Rattle.tally_returns.specs.declared.ask.Ask.TheVariants.{ShowCon}
use Rattle.tally_returns.specs.declared.refusal.Refusal.{Refusal}
use Rattle.tally_returns.specs.declared.refusal.Refusal.TheVariants.{Memory, Store}
use Rattle.tally_returns.specs.declared.reply.Reply.{Reply}
use Rattle.tally_returns.specs.declared.station_row.StationRow.{StationRow}
use Rattle.tally_keeper.specs.Keeper.{IsImportOf}
use Rattle.tally_returns_rows.specs.NamedRows.{NamesRows}
use Rattle.tally_keeper.specs.Shown.{IsOwnRefusal, ShowsReturns, con_with}
use Rattle.tally_returns_rows.specs.Source.{Delivery}
use Rattle.tally_returns_rows.specs.declared.import.ImportCount.{ImportCount}
use Rattle.tally_returns_rows.specs.declared.import.NamedRow.{NamedRow}
use Rattle.tally_returns_rows.specs.declared.source.ImportFault.{ImportFault}
use Rattle.tally_store_commands.specs.internal.Known.{AreKnown, Known}
use Rattle.tally_store_open.specs.Office.{HasState}
use Rattle.tally_store_open.specs.internal.Ending.{EndsUnchanged}
use Rattle.tally_store.specs.Crash.{LeavesAfter, LeavesImported}

-- What a call keeps that works in a transaction of its own, whatever it answers: none is open after
-- it; the connection was open before if it is open after; a crash leaves what it could leave
-- before, or such a database.
pub record EndsFrom (Leaves : Trees → Type 0) (old new : Seen) : Type 0 where
  pub ended : new.in_transaction ≡ false
  pub was_open : HasCleanDisk new → IsTrue new.is_open → IsTrue old.is_open
  pub crash : Survives old new Leaves

abbrev pub EndsRequest : List Constituency → Ask → Seen → Seen → Type 0
EndsRequest setup ask old new = EndsFrom (LeavesAfter setup ask old) old new

abbrev pub EndsImport : List Constituency → Delivery → Seen → Seen → Type 0
EndsImport setup d old new = EndsFrom (LeavesImported setup d old) old new

-- A request was answered as in this state, and the database is that of the state after it.
pub record IsDone (setup : List Constituency) (text : List ℕ) (s : State) (ask : Ask)
    (r : Result Reply Refusal) (new : Seen) : Type 0 where
  pub state : State
  pub answered : IsAnswered setup s ask r state
  pub has : HasState setup text state new

-- and so for every lawful state that the database was of, where the disk returned what was written
-- and has not failed
abbrev pub Does : List Constituency → Ask → Seen → Seen → Result Reply Refusal → Type 0
Does setup ask old new r =
    HasCleanDisk new → IsTrue new.is_open → (text : List ℕ) (s : State) → IsLawfulState setup s →
    HasState setup text s old → IsDone setup text s ask r new

-- A ShowCon was answered, as in this state, with what was shown and some certificates on record,
-- and the database is that of the state after it.
abbrev pub IsConShown : List Constituency → List ℕ → State → List ℕ →
    Result View Refusal → Seen → Type 0
IsConShown setup text s con shown new =
    (past : List PastSeats) × IsDone setup text s (ShowCon con) (con_with past shown) new

-- and so for every lawful state that the database was of, where the disk returned what was written
-- and has not failed
abbrev pub DoesShow : List Constituency → List ℕ → Seen → Seen → Result View Refusal → Type 0
DoesShow setup con old new shown =
    HasCleanDisk new → IsTrue new.is_open → (text : List ℕ) (s : State) → IsLawfulState setup s
    → HasState setup text s old → IsConShown setup text s con shown new

-- The stations of a constituency were shown with the returns of this state, and the database is
-- still that of this state. So it is for every lawful state that the database was of, where the
-- disk returned what was written and has not failed.
abbrev pub DoesShowReturns : List Constituency → List ℕ → Seen → Seen
    → Result (Vec StationRow Global) Refusal → Type 0
DoesShowReturns setup con old new shown =
    HasCleanDisk new → IsTrue new.is_open → (text : List ℕ) (s : State) → IsLawfulState setup s
    → HasState setup text s old
    → ShowsReturns setup (Some s) con shown (Some s) × HasState setup text s new

-- it was refused for a reason of the keeper's own
abbrev pub IsRefusedByKeeper : {T : Type 0} → Result T Refusal → Type 0
IsRefusedByKeeper (Ok x) = ⊥
IsRefusedByKeeper (Err why) = IsOwnRefusal why

-- All rows that a source gave were lodged as in this state, and the database is that of the state
-- after that.
pub record IsAllDone (setup : List Constituency) (text : List ℕ) (s : State) (d : Delivery)
    (count : ImportCount) (new : Seen) : Type 0 where
  pub state : State
  pub imported : IsImportOf setup (Some s) d count (Some state)
  pub has : HasState setup text state new

-- that, or with a fault the database is still that of the same state
abbrev pub IsImportDone : List Constituency → List ℕ → State → Delivery →
    Result ImportCount ImportFault → Seen → Type 0
IsImportDone setup text s d (Ok count) new = IsAllDone setup text s d count new
IsImportDone setup text s d (Err fault) new = HasState setup text s new

-- and so for every lawful state that the database was of, where the disk returned what was written
-- and has not failed
abbrev pub DoesImport : List Constituency → Delivery → Seen → Seen →
    Result ImportCount ImportFault → Type 0
DoesImport setup d old new r =
    HasCleanDisk new → IsTrue new.is_open → (text : List ℕ) (s : State) → IsLawfulState setup s →
    HasState setup text s old → IsImportDone setup text s d r new

-- The rows that were named of an import or a trial with a count are those of each such state.
abbrev pub DoesName : List Constituency → Delivery → Seen → Seen → Result ImportCount ImportFault
    → List NamedRow → List NamedRow → Type 0
DoesName setup d old new r before after =
    HasCleanDisk new → (text : List ℕ) (s : State) → IsLawfulState setup s
    → HasState setup text s old → OnOk r (NamesRows setup (Some s) d before after)

-- The count of a trial is that of an import of all rows that the source gave, in each such state.
abbrev pub DoesTry : List Constituency → Delivery → Seen → Seen → Result ImportCount ImportFault
    → Type 0
DoesTry setup d old new r =
    HasCleanDisk new → (text : List ℕ) (s : State) → IsLawfulState setup s
    → HasState setup text s old
    → IfOk r (λ count. (after : Option State) × IsImportOf setup (Some s) d count after)

-- ---- what is known

abbrev pub IsNothing : Known → Type 0
IsNothing known = (code : List ℕ) → get known code ≡ None

-- After a request, where the disk returned what was written, nothing is known, or the connection is
-- open and what is known is true of the state after it.
abbrev pub KnowsAfter : List Constituency → Ask → Seen → Seen → Result Reply Refusal →
    Known → Type 0
KnowsAfter setup ask old new r after =
    HasCleanDisk new → IsNothing after ⊎
    (IsTrue new.is_open ×
    ((text : List ℕ) (s t : State) → IsLawfulState setup s → HasState setup text s old →
    IsAnswered setup s ask r t → AreKnown setup t.returns after))

-- After something was shown, where the disk returned what was written, nothing is known, or the
-- connection is open and what is known is true of the state that the database was of.
abbrev pub KnowsStill : List Constituency → Seen → Seen → Known → Type 0
KnowsStill setup old new after =
    HasCleanDisk new → IsNothing after ⊎ (IsTrue new.is_open
    × ((text : List ℕ) (s : State) → IsLawfulState setup s → HasState setup text s old
    → AreKnown setup s.returns after))

-- All rows that a source gave were lodged, and what is known is true of the state after that.
abbrev pub IsAllKnown : List Constituency → List ℕ → State → Delivery → ImportCount → Seen →
    Known → Type 0
IsAllKnown setup text s d count new after =
    (done : IsAllDone setup text s d count new) × AreKnown setup done.state.returns after

-- After an import, where the disk returned what was written, the connection is open and what is
-- known is true of the state after it. With a fault nothing is known.
abbrev pub KnowsImported : List Constituency → Delivery → Seen → Seen →
    Result ImportCount ImportFault → Known → Type 0
KnowsImported setup d old new (Ok count) after =
    HasCleanDisk new → IsTrue new.is_open ×
    ((text : List ℕ) (s : State) → IsLawfulState setup s → HasState setup text s old →
    IsAllKnown setup text s d count new after)
KnowsImported setup d old new (Err fault) after = IsNothing after

-- ---- the end of a transaction in which a request was answered

-- The answer is what was got. What was written is committed, and what was known is known still.
pub record CommitsAnswer {T : Type 0} (got : Result (Result T Refusal) Error) (before after : Known)
    (last new : Seen) (r : Result T Refusal) : Type 0 where
  pub is : got ≡ Ok r
  pub known : after ≡ before
  pub shown : HasCleanDisk new → Shows last new last.now last.now false
  pub counts : HasCleanDisk new → KeepsCounts last new

-- The request is not accepted, and nothing is known. What was written is undone; after an answer
-- that is said only of a transaction that had not ended before.
pub record UndoesRequest {T : Type 0} (got : Result (Result T Refusal) Error) (after : Known)
    (last new : Seen) (why : Refusal) : Type 0 where
  pub own : (why ≡ Memory) ⊎ (why ≡ Store)
  pub forgot : IsNothing after
  pub undone : HasCleanDisk new → OnOk got (IsTrue last.in_transaction) → IsRolledBack last new

-- one of the two
abbrev pub HowItEnds : {T : Type 0} → Result (Result T Refusal) Error → Known → Known → Seen → Seen
    → Result (Result T Refusal) Refusal → Type 0
HowItEnds got before after last new (Ok r) = CommitsAnswer got before after last new r
HowItEnds got before after last new (Err why) = UndoesRequest got after last new why

-- A crash leaves what it could leave before, or, after an answer, what was written.
pub record EndsTransaction {T : Type 0} (got : Result (Result T Refusal) Error)
    (before after : Known) (last new : Seen) (outcome : Result (Result T Refusal) Refusal)
    : Type 0 where
  pub ended : new.in_transaction ≡ false
  pub was_open : HasCleanDisk new → IsTrue new.is_open → IsTrue last.is_open
  pub survives : Survives last new (λ db. IsOk got × (db ≡ last.now.trees))
  pub how : HowItEnds got before after last new outcome

-- What is answered where it was undone: why, or that the database failed. The latter it is where a
-- failed disk has shut the connection. Nothing else happens.
pub record SaysWhy {T : Type 0} (why : Refusal) (old new : Seen) (r : Result T Refusal)
    : Type 0 where
  pub said : Refusal
  pub is : r ≡ Err said
  pub one : (said ≡ why) ⊎ (said ≡ Store)
  pub ends : EndsUnchanged old new
  pub shut : HasCleanDisk new → new.is_open ≡ false → said ≡ Store

-- what a request is answered after its transaction ended so
abbrev pub Answers : {S T : Type 0} → Ghosts S → Held S → Held S → Result (Result T Refusal) Refusal
    → Result T Refusal → Type 0
Answers g old new (Ok answer) r = (r ≡ answer) × (new ≡ old)
Answers g old new (Err why) r = SaysWhy why (state g old) (state g new) r
