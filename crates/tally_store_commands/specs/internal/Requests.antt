-- What a request or an import does to the tables of an office, in a transaction.
use Rattle.std.specs.Prelude.{◌≡◌, false, ℕ, List, Some, Result, IfErr, IfOk, IsTrue, OnOk}
use Rattle.std.specs.BTreeMap.{BTreeMap}
use Rattle.sqlite_trees.specs.declared.store.Store.{Ghosts}
use Rattle.sqlite.specs.declared.error.Error.{Error}
use Rattle.sqlite.specs.declared.transaction.Transaction.{Transaction}
use Rattle.sqlite.specs.Held.{state}
use Rattle.sqlite.specs.State.{State as Seen, HasCleanDisk, IsUnchanged}
use Rattle.tally_setup.specs.Constituency.{Constituency}
use Rattle.tally_returns.specs.State.{State}
use Rattle.tally_returns.specs.declared.ask.Ask.{Ask}
use Rattle.tally_returns.specs.declared.refusal.Refusal.{Refusal}
use Rattle.tally_returns.specs.declared.reply.Reply.{Reply}
use Rattle.tally_machine_law.specs.Kinds.{IsReplyTo}
use Rattle.tally_machine_law.specs.LawfulState.{IsLawfulState}
use Rattle.tally_machine_law.specs.Runs.{is_act}
use Rattle.tally_machine_law.specs.Step.{IsAnswered}
use Rattle.tally_keeper.specs.Keeper.{IsImportFault, IsImportOf}
use Rattle.tally_returns_rows.specs.NamedRows.{NamesRows}
use Rattle.tally_returns_rows.specs.Source.{Delivery, GaveAll}
use Rattle.tally_returns_rows.specs.declared.import.ImportCount.{ImportCount}
use Rattle.tally_returns_rows.specs.declared.import.NamedRow.{NamedRow}
use Rattle.tally_returns_rows.specs.declared.source.ImportFault.{ImportFault}
use Rattle.tally_store_schema.specs.internal.Inside.{InDatabase, IsOpenInside}
use Rattle.tally_store_schema.specs.Office.{IsInside}
use Rattle.tally_store_rows.specs.TablesOfState.{AreTables}
use Rattle.tally_store_rows.specs.declared.views.Statuses.{Statuses}
use Rattle.tally_store_commands.specs.internal.Known.{AreKnown, ForgetsNone, Known, known_of}

-- In a transaction: the tables are those of this state.
pub record IsInState (setup : List Constituency) (text : List ℕ) (s : State) (seen : Seen)
    : Type 0 where
  pub inside : IsInside seen
  pub tables : AreTables setup text s seen.now.trees

-- A request was answered as in this state, and the tables are those of the state after it.
pub record IsCarriedOut (setup : List Constituency) (text : List ℕ) (s : State) (ask : Ask)
    (r : Result Reply Refusal) (new : Seen) : Type 0 where
  pub state : State
  pub answered : IsAnswered setup s ask r state
  pub in_state : IsInState setup text state new

-- What holds after a call that answers a request, where the disk returned what was written. It
-- holds for every lawful state whose tables were there and of which all that is known is true.
abbrev pub CarriesOutKnown : List Constituency → Known → Ask → Seen → Seen
    → Result (Result Reply Refusal) Error → Type 0
CarriesOutKnown setup known ask old new result =
    HasCleanDisk new → IsInside old
    → IfOk result
    (λ r. (text : List ℕ) (s : State) → IsLawfulState setup s → AreKnown setup s.returns known
    → AreTables setup text s old.now.trees → IsCarriedOut setup text s ask r new)

-- What is known then is true of the state after the request.
abbrev pub KeepsKnown : List Constituency → Known → Known → Ask → Seen → Seen
    → Result (Result Reply Refusal) Error → Type 0
KeepsKnown setup before after ask old new result =
    HasCleanDisk new → IsInside old
    → IfOk result
    (λ r. (text : List ℕ) (s t : State) → IsLawfulState setup s → AreKnown setup s.returns before
    → AreTables setup text s old.now.trees → IsAnswered setup s ask r t
    → AreKnown setup t.returns after)

-- where something was answered, the connection was open
abbrev pub WasOpen : {X : Type 0} → Seen → Seen → Result X Error → Type 0
WasOpen old new result = HasCleanDisk new → OnOk result (IsTrue old.is_open)

-- A request that is refused, that repeats what is recorded or that shows something writes nothing
-- on a connection that is open: no row is written again as it was, since that would be counted as a
-- change.
abbrev pub WritesOnlyActs : Seen → Seen → Result (Result Reply Refusal) Error → Type 0
WritesOnlyActs old new result =
    HasCleanDisk new → IsOpenInside old → IfOk result (λ r. is_act r ≡ false → IsUnchanged old new)

-- What a call does that answers a request on the tables of an office. The reply is of the request's
-- kind, whatever the tables are. With an answer, the connection was open, and nothing is forgotten
-- of what was known.
pub record AnswersIn {S : Type 0} (g : Ghosts S) (setup : List Constituency) (ask : Ask)
    (before after : BTreeMap (List ℕ) Statuses) (old new : Transaction S)
    (result : Result (Result Reply Refusal) Error) : Type 0 where
  pub kind : IfOk result (λ r. IfOk r (IsReplyTo setup ask))
  pub step : InDatabase g (CarriesOutKnown setup (known_of before) ask) old new result
  pub known : InDatabase g (KeepsKnown setup (known_of before) (known_of after) ask) old new result
  pub forgets : OnOk result (ForgetsNone (known_of before) (known_of after))
  pub unwritten : InDatabase g WritesOnlyActs old new result
  pub answered_open : InDatabase g WasOpen old new result

-- All rows that a source gave were lodged as in this state, and the tables are those of the state
-- after that.
pub record IsImported (setup : List Constituency) (text : List ℕ) (s : State) (d : Delivery)
    (count : ImportCount) (new : Seen) : Type 0 where
  pub state : State
  pub imported : IsImportOf setup (Some s) d count (Some state)
  pub in_state : IsInState setup text state new

-- and what was known of the state before it is known of the state after it
abbrev pub IsImportedKnown : List Constituency → List ℕ → State → Delivery → Known → Known
    → ImportCount → Seen → Type 0
IsImportedKnown setup text s d before after count new =
    (done : IsImported setup text s d count new)
    × (AreKnown setup s.returns before → AreKnown setup done.state.returns after)

-- What holds after a call that lodges the rows of a source, where the disk returned what was
-- written.
abbrev pub ImportsRows : List Constituency → Delivery → Known → Known → Seen → Seen
    → Result ImportCount ImportFault → Type 0
ImportsRows setup d before after old new result =
    HasCleanDisk new → IsInside old
    → IfOk result (λ count. (text : List ℕ) (s : State) → IsLawfulState setup s
    → AreTables setup text s old.now.trees
    → IsImportedKnown setup text s d before after count new)

-- The rows that are named of it, where it has a count, are those of every lawful state whose tables
-- were there.
abbrev pub NamesImported : List Constituency → Delivery → List NamedRow → List NamedRow → Seen
    → Seen → Result ImportCount ImportFault → Type 0
NamesImported setup d before after old new result =
    HasCleanDisk new → IsInside old
    → OnOk result ((text : List ℕ) (s : State) → IsLawfulState setup s
    → AreTables setup text s old.now.trees → NamesRows setup (Some s) d before after)

-- An import that lodges nothing writes nothing on a connection that is open.
abbrev pub WritesOnlyImported : Seen → Seen → Result ImportCount ImportFault → Type 0
WritesOnlyImported old new result =
    HasCleanDisk new → IsOpenInside old
    → IfOk result (λ count. count.lodged ≡ 0 → IsUnchanged old new)

-- What a call does that lodges the rows of a source in the tables of an office. With a count, these
-- are all rows that the source gave until its end, and nothing is forgotten of what was known. A
-- fault is the one with which the source ended, or the keeper's own. Both hold whatever the tables
-- are.
pub record LodgesRows {S : Type 0} (g : Ghosts S) (setup : List Constituency) (d : Delivery)
    (before after : BTreeMap (List ℕ) Statuses) (old new : Transaction S)
    (result : Result ImportCount ImportFault) : Type 0 where
  pub imported : ImportsRows setup d (known_of before) (known_of after)
      (state g old.conn.now) (state g new.conn.now) result
  pub unwritten : WritesOnlyImported (state g old.conn.now) (state g new.conn.now) result
  pub gave : OnOk result (GaveAll d)
  pub fault : IfErr result (IsImportFault d)
  pub forgets : OnOk result (ForgetsNone (known_of before) (known_of after))
