-- What happens to a keeper of the office's state.
use Rattle.std.specs.Prelude.{◌≡◌, ◌≤◌, ◌⊎◌, ◌+◌, All, List, [], ◌∷◌, length, Option, Some, None}
use Rattle.std.specs.Prelude.{Result, Ok, Err, IfSome}
use Rattle.tally_setup.specs.Constituency.{Constituency}
use Rattle.tally_returns.specs.State.{State, stations_of}
use Rattle.tally_machine_law.specs.Step.{IsAnswered, IsNotAccepted}
use Rattle.tally_returns.specs.declared.ask.Ask.{Ask}
use Rattle.tally_returns.specs.declared.refusal.Refusal.{Refusal}
use Rattle.tally_returns.specs.declared.refusal.Refusal.TheVariants as refusal
use Rattle.tally_returns.specs.declared.reply.Reply.{Reply}
use Rattle.tally_returns_rows.specs.Import.{RowAnswer, IsCodedRow, answers, returns_after_import}
use Rattle.tally_returns_rows.specs.Import.{count_of}
use Rattle.tally_returns_rows.specs.Source.{AreAllGiven, AreGiven, Coming, Delivery, IsSudden}
use Rattle.tally_returns_rows.specs.Source.{row_limit}
use Rattle.tally_returns_rows.specs.declared.import.ImportCount.{ImportCount}
use Rattle.tally_returns_rows.specs.declared.import.Row.{Row}
use Rattle.tally_returns_rows.specs.declared.source.ImportFault.{ImportFault}
use Rattle.tally_returns_rows.specs.declared.source.ImportFault.TheVariants.{TooLong, Memory, Store}

-- What happens to a keeper: a request with its answer; an import that was done, with the rows that
-- came, what each of them was answered and the count of that; or an import with a fault.
pub data Event : Type 0 where
  request : Ask → Result Reply Refusal → Event
  whole_import : List Row → List RowAnswer → ImportCount → Event
  failed_import : ImportFault → Event

-- An import that was done leaves what the Lodge commands of its rows leave one by one, refused and
-- bad rows passed over. Their slips are codes.
abbrev pub IsImport : List Constituency → State → List Row → List RowAnswer → ImportCount → State
    → Type 0
IsImport setup s rows answered count t = (length rows ≤ row_limit)
    × (answered ≡ answers (stations_of setup) s.returns rows)
    × (count ≡ count_of answered)
    × (t ≡ record s { returns = returns_after_import (stations_of setup) s.returns rows })
    × All IsCodedRow rows

-- a keeper that is not shut: a request is answered, an import is done, or it has a fault and
-- changes nothing
abbrev pub IsTaken : List Constituency → State → Event → State → Type 0
IsTaken setup s (request ask r) t = IsAnswered setup s ask r t
IsTaken setup s (whole_import rows answered count) t = IsImport setup s rows answered count t
IsTaken setup s (failed_import fault) t = t ≡ s

-- a request was not accepted, or an import was not done
abbrev pub IsNotTaken : Event → Type 0
IsNotTaken (request ask r) = IsNotAccepted r
IsNotTaken (whole_import rows answered count) = ⊥
IsNotTaken (failed_import fault) = Unit {0}

-- a request or an import was answered that the database failed
abbrev pub IsFailed : Event → Type 0
IsFailed (request ask r) = r ≡ Err refusal.Store
IsFailed (whole_import rows answered count) = ⊥
IsFailed (failed_import fault) = fault ≡ Store

-- What happens to a keeper, and the state that it then has. It has none where a disk that failed
-- has shut it: what met that failure was not taken, also where its commit may have been made, and
-- was answered that the database failed. A keeper that was shut stays so and takes nothing. So
-- whatever is answered that memory is out has changed nothing.
abbrev pub Happens : List Constituency → Option State → Event → Option State → Type 0
Happens setup (Some s) event (Some t) = IsTaken setup s event t
Happens setup (Some s) event None = IsFailed event
Happens setup None event (Some t) = ⊥
Happens setup None event None = IsNotTaken event

-- one thing after the other
abbrev pub HappensInTurn : List Constituency → Option State → List Event → Option State → Type 0
HappensInTurn setup old [] new = new ≡ old
HappensInTurn setup old (event ∷ events) new =
    (mid : Option State) × Happens setup old event mid × HappensInTurn setup mid events new

-- ---- requests

-- each request with its answer
abbrev pub requests : List Ask → List (Result Reply Refusal) → List Event
requests (ask ∷ asks) (r ∷ rs) = request ask r ∷ requests asks rs
requests [] rs = []
requests (ask ∷ asks) [] = []

-- requests one after the other, all of them answered
abbrev pub Runs : List Constituency → Option State → List Ask → List (Result Reply Refusal)
    → Option State → Type 0
Runs setup old asks rs new =
    (length rs ≡ length asks) × HappensInTurn setup old (requests asks rs) new

-- ---- imports

-- a fault of a keeper's own: out of memory, or a database that refuses
abbrev pub IsOwnFault : ImportFault → Type 0
IsOwnFault fault = (fault ≡ Memory) ⊎ (fault ≡ Store)

-- the fault with which the source ended, after these rows: a sudden one, or where it is known what
-- comes, the fault that comes after just these rows
abbrev pub IsFaultOfSource : Delivery → List Row → ImportFault → Type 0
IsFaultOfSource d rows fault = (d.finish.ended ≡ Some (Some fault))
    × (IsSudden fault
    ⊎ IfSome d.start.coming (λ coming. (coming.rows ≡ rows) × (coming.fault ≡ Some fault)))

-- A keeper counts too many rows at the first one above the limit, and only where it is not known
-- what comes.
abbrev pub IsCountedTooLong : Delivery → List Row → ImportFault → Type 0
IsCountedTooLong d rows fault =
    (fault ≡ TooLong) × (length rows ≡ row_limit + 1) × (d.start.coming ≡ None)

-- a fault of an import, after the rows that its source gave
abbrev pub IsImportFault : Delivery → ImportFault → Type 0
IsImportFault d fault = (rows : List Row) × AreGiven d rows
    × (IsOwnFault fault ⊎ (IsFaultOfSource d rows fault ⊎ IsCountedTooLong d rows fault))

-- an import of all rows that a source gave, of any source, and what it leaves
abbrev pub IsImportOf : List Constituency → Option State → Delivery → ImportCount → Option State
    → Type 0
IsImportOf setup old d count new =
    (rows : List Row) × (answered : List RowAnswer) × AreAllGiven d rows
    × Happens setup old (whole_import rows answered count) new

-- What an import comes to, by what its source gave.
abbrev pub Imports : List Constituency → Option State → Delivery → Result ImportCount ImportFault
    → Option State → Type 0
Imports setup old d (Ok count) new = IsImportOf setup old d count new
Imports setup old d (Err fault) new =
    IsImportFault d fault × Happens setup old (failed_import fault) new

-- the same where this was known of what comes
abbrev pub ImportsComing : List Constituency → Option State → Option Coming → Delivery
    → Result ImportCount ImportFault → Option State → Type 0
ImportsComing setup old known d r new = (d.start.coming ≡ known) × Imports setup old d r new

-- What the trial of an import comes to: what the import would come to, and the state stays. A fault
-- is as that of an import.
abbrev pub Tries : List Constituency → Option State → Delivery → Result ImportCount ImportFault
    → Option State → Type 0
Tries setup old d (Ok count) new =
    (after : Option State) × IsImportOf setup old d count after × (new ≡ old)
Tries setup old d (Err fault) new = Imports setup old d (Err fault) new
