-- What a Lodge is answered, by what is looked up, and what lodging a return or a row does to the
-- tables.
use Rattle.std.specs.Prelude.{◌≡◌, ◌≤◌, false, ℕ, List, length, Result, Ok, IfOk}
use Rattle.sqlite.specs.declared.error.Error.{Error}
use Rattle.sqlite.specs.State.{State as Seen, HasCleanDisk, IsUnchanged}
use Rattle.tally_frac.specs.Limits.{most_lists}
use Rattle.tally_setup.specs.Constituency.{Constituency}
use Rattle.tally_returns.specs.Counts.{VoteCounts}
use Rattle.tally_returns.specs.Lodge.{lodge_answer, lodge}
use Rattle.tally_returns.specs.State.{State, stations_of}
use Rattle.tally_returns.specs.declared.refusal.Refusal.{Refusal}
use Rattle.tally_returns.specs.declared.reply.LodgeReply.{LodgeReply}
use Rattle.tally_returns.specs.declared.reply.LodgeReply.TheVariants.{Lodged}
use Rattle.tally_machine_law.specs.LawfulState.{IsLawfulState}
use Rattle.tally_machine_law.specs.Runs.{is_act}
use Rattle.tally_keeper.specs.Events.{as_answer}
use Rattle.tally_store_schema.specs.internal.Inside.{IsOpenInside}
use Rattle.tally_store_schema.specs.Office.{IsInside}
use Rattle.tally_store_rows.specs.TablesOfState.{AreTables}
use Rattle.tally_returns_rows.specs.Import.{RowAnswer, after_row, is_lodged, row_answer}
use Rattle.tally_returns_rows.specs.declared.import.Row.{Row}
use Rattle.tally_returns_rows.specs.declared.source.ImportFault.{ImportFault}
use Rattle.tally_store_commands.specs.internal.Requests.{IsInState}

-- What a Lodge is answered, for every lawful state whose tables are there.
abbrev pub IsLodgeAnswer : List Constituency → List ℕ → List ℕ → VoteCounts → Seen →
    Result LodgeReply Refusal → Type 0
IsLodgeAnswer setup station slip counts seen r =
    (text : List ℕ) (s : State) → IsLawfulState setup s → AreTables setup text s seen.now.trees →
    r ≡ lodge_answer (stations_of setup) s.returns station slip counts

-- The same after a call that decides a Lodge, where the disk returned what was written.
abbrev pub DecidesLodge : List Constituency → List ℕ → List ℕ → VoteCounts → Seen → Seen →
    Result (Result LodgeReply Refusal) Error → Type 0
DecidesLodge setup station slip counts old new result =
    HasCleanDisk new → IsInside old → IfOk result (IsLodgeAnswer setup station slip counts old)

-- A return that is to be lodged is for at most 60 lists.
abbrev pub IsFewIfLodged : VoteCounts → Result LodgeReply Refusal → Type 0
IsFewIfLodged counts r = (rev : ℕ) → r ≡ Ok (Lodged rev) → length counts.votes ≤ most_lists

-- A Lodge that does not lodge a return writes nothing on a connection that is open.
abbrev pub WritesOnlyLodged : {E : Type 0} → Seen → Seen → Result (Result LodgeReply Refusal) E
    → Type 0
WritesOnlyLodged old new result =
    HasCleanDisk new → IsOpenInside old →
    IfOk result (λ r. is_act (as_answer r) ≡ false → IsUnchanged old new)

-- and neither does a row
abbrev pub WritesOnlyLodgedRow : {E : Type 0} → Seen → Seen → Result RowAnswer E → Type 0
WritesOnlyLodgedRow old new result =
    HasCleanDisk new → IsOpenInside old →
    IfOk result (λ answer. is_lodged answer ≡ false → IsUnchanged old new)

-- A return was lodged as in this state, or the Lodge was refused. The tables are those of the state
-- after it.
pub record IsLodged (setup : List Constituency) (text : List ℕ) (s : State) (station slip : List ℕ)
    (counts : VoteCounts) (r : Result LodgeReply Refusal) (new : Seen) : Type 0 where
  pub answered : r ≡ lodge_answer (stations_of setup) s.returns station slip counts
  pub in_state : IsInState setup text
      (record s { returns = lodge (stations_of setup) s.returns station slip counts }) new

-- and so for every lawful state whose tables were there
abbrev pub LodgesOf : List Constituency → List ℕ → List ℕ → VoteCounts → Seen → Seen →
    Result LodgeReply Refusal → Type 0
LodgesOf setup station slip counts old new r =
    (text : List ℕ) (s : State) → IsLawfulState setup s → AreTables setup text s old.now.trees →
    IsLodged setup text s station slip counts r new

-- The same after a call that lodges a return, where the disk returned what was written.
abbrev pub Lodges : {E : Type 0} → List Constituency → List ℕ → List ℕ → VoteCounts → Seen → Seen →
    Result (Result LodgeReply Refusal) E → Type 0
Lodges setup station slip counts old new result =
    HasCleanDisk new → IsInside old → IfOk result (LodgesOf setup station slip counts old new)

-- A row was taken as in this state, and the tables are those of the state after it.
pub record IsRowTaken (setup : List Constituency) (text : List ℕ) (s : State) (row : Row)
    (answer : RowAnswer) (new : Seen) : Type 0 where
  pub answered : row_answer (stations_of setup) s.returns row ≡ answer
  pub in_state : IsInState setup text
      (record s { returns = after_row (stations_of setup) s.returns row }) new

-- and so for every lawful state whose tables were there
abbrev pub TakesRow : List Constituency → Row → Seen → Seen → Result RowAnswer ImportFault → Type 0
TakesRow setup row old new result =
    HasCleanDisk new → IsInside old →
    IfOk result (λ answer. (text : List ℕ) (s : State) → IsLawfulState setup s →
    AreTables setup text s old.now.trees → IsRowTaken setup text s row answer new)
