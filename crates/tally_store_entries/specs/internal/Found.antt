-- What the rows of a constituency read as, where they were looked up by its code.
use Rattle.std.specs.Prelude.{◌≡◌, ◌==◌, ◌<◌, ◌≤◌, ◌+◌, if◌then◌else◌, ℕ, Bool, true, false, List}
use Rattle.std.specs.Prelude.{[], ◌∷◌, length, Option, Some, None, option_map, option_and_then}
use Rattle.std.specs.Prelude.{slice_index_or, Result, IfOk}
use Rattle.std.specs.FinMap.{FinMap, get}
use Rattle.sqlite_value.specs.Order.{Row, column}
use Rattle.sqlite.specs.declared.error.Error.{Error}
use Rattle.sqlite.specs.State.{State as Seen}
use Rattle.tally_store_schema.specs.Values.{number_of}
use Rattle.tally_store_schema.specs.Rows.{AreRowsOf}
use Rattle.tally_setup.specs.Code.{code_cmp}
use Rattle.tally_setup.specs.Constituency.{Constituency}
use Rattle.tally_setup.specs.declared.constituency.Station.{Station}
use Rattle.tally_returns.specs.Return.{StationReturn, Returns as StationReturns}
use Rattle.tally_returns.specs.State.{ConState}
use Rattle.tally_returns.specs.View.{View}
use Rattle.tally_returns.specs.declared.returns.Status.{Status}
use Rattle.tally_returns.specs.declared.returns.Status.TheVariants.{Received, Queried, Corrected}
use Rattle.tally_returns.specs.declared.returns.Status.TheVariants.{Closed}
use Rattle.tally_store_schema.specs.declared.table.KeyedTable.{KeyedTable}
use Rattle.tally_store_schema.specs.declared.table.KeyedTable.TheVariants.{Returns, Cons, Lots}
use Rattle.tally_store_schema.specs.declared.table.KeyedTable.TheVariants.{Seats}
use Rattle.tally_store_schema.specs.declared.table.KeyedTable.TheVariants.{Gone, Totals, Past}
use Rattle.tally_store_schema.specs.Office.{IsFound}
use Rattle.tally_store_rows.specs.Cells.{con_rows, return_rows}
use Rattle.tally_store_rows.specs.Reading.{standing_of, status_of}
use Rattle.tally_store_rows.specs.Views.{Tables, view_from_tables}
use Rattle.tally_store_rows.specs.declared.views.Statuses.{Statuses}
use Rattle.tally_store_entries.specs.internal.Constituencies.{IsKnown}
use Rattle.tally_store_entries.specs.internal.Entries.{stored_in}
use Rattle.tally_store_entries.specs.internal.Statuses.{statuses_in}

-- ---- what rows read as

-- whether a constituency is certified, by its one row
abbrev pub certified_in : List ℕ → List Row → Option Bool
certified_in con rows =
    if length rows == 1
    then option_map (λ standing. standing.1) (standing_of con (slice_index_or rows 0 []))
    else None

-- One of these rows says of a constituency that it is at this edition, and whether it is certified.
pub record IsStageAmong (con : List ℕ) (rows : List Row) (found : ℕ × Bool) : Type 0 where
  pub place : ℕ
  pub within : place < length rows
  pub note : List ℕ
  pub says : standing_of con (slice_index_or rows place []) ≡ Some (found.0, found.1, note)

-- What is found of a constituency is its edition, and whether it is certified.
abbrev pub FindsStage : List ℕ → Seen → ℕ × Bool → Type 0
FindsStage code s found =
    (cons : FinMap code_cmp ConState) (standing : ConState) → get cons code ≡ Some standing →
    AreRowsOf con_rows cons (stored_in Cons s)
    → (found.0 ≡ standing.edition) × (found.1 ≡ standing.certified)

-- the status of a return by its one row, or none where there is no row
abbrev pub status_in : List Row → Option (Option Status)
status_in rows =
    if length rows == 0
    then Some None
    else (if length rows == 1
    then option_map (λ status. Some status)
    (option_and_then status_of (number_of (column (slice_index_or rows 0 []) 4)))
    else None)

-- the rows of a constituency
pub record Rows : Type 0 where
  pub cons : List Row
  pub tables : Tables

-- what is seen of a constituency with these numbers of returns by status, by its one row of `cons`
-- and its other rows
abbrev pub view_of_rows : Constituency → Statuses → Rows → Option View
view_of_rows con statuses rows =
    if length rows.cons == 1
    then view_from_tables con statuses (slice_index_or rows.cons 0 []) rows.tables
    else None

-- where one entry was read, its return is found
abbrev pub GivesOnly : List (List ℕ × StationReturn) → Option StationReturn → Type 0
GivesOnly entries found = (e : List ℕ × StationReturn) → entries ≡ e ∷ [] → found ≡ Some e.1

-- where rows read as no return, none is found
abbrev pub FindsNone : Option (List (List ℕ × StationReturn)) →
    Result (Option StationReturn) Error → Type 0
FindsNone entries result = entries ≡ Some [] → IfOk result (λ found. found ≡ None)

-- where they read as one, that is found
abbrev pub FindsOne : Option (List (List ℕ × StationReturn)) →
    Result (Option StationReturn) Error → Type 0
FindsOne entries result =
    (e : List ℕ × StationReturn) → entries ≡ Some (e ∷ []) → IfOk result (λ found. found ≡ Some e.1)

-- ---- what is looked up

-- these are the rows of a key in a table where they are asked for, and else there are none
abbrev pub IsFoundIf : Bool → KeyedTable → List ℕ → Seen → List Row → Type 0
IsFoundIf true t key s rows = IsFound t key s rows
IsFoundIf false t key s rows = rows ≡ []

-- these are the rows of a constituency in each of the tables that have it for their key, in `past`
-- where those are asked for
pub record AreRowsFound (with_past : Bool) (con : List ℕ) (s : Seen) (rows : Rows) : Type 0 where
  pub cons : IsFound Cons con s rows.cons
  pub lots : IsFound Lots con s rows.tables.lots
  pub seats : IsFound Seats con s rows.tables.seats
  pub gone : IsFound Gone con s rows.tables.gone
  pub totals : IsFound Totals con s rows.tables.totals
  pub past : IsFoundIf with_past Past con s rows.tables.past

-- What is found of a station is the status of its return.
abbrev pub FindsStatus : List ℕ → Seen → Option Status → Type 0
FindsStatus station s found = (setup : List Constituency) (returns : StationReturns) →
    AreRowsOf (return_rows setup) returns (stored_in Returns s) →
    found ≡ option_map (λ (standing : StationReturn). standing.status) (get returns station)

-- What is found of stations is how many of their returns are in each status.
abbrev pub FindsStatuses : List Station → Seen → Statuses → Type 0
FindsStatuses stations s found = (setup : List Constituency) (returns : StationReturns) →
    AreRowsOf (return_rows setup) returns (stored_in Returns s) →
    found ≡ statuses_in returns stations

-- What is found of a constituency is how many of its returns are in each status, where what is
-- known of it is true.
abbrev pub FindsKnownStatuses : Constituency → Option Statuses → Seen → Statuses → Type 0
FindsKnownStatuses con known s found =
    (setup : List Constituency) (returns : StationReturns) → IsKnown con returns known →
    AreRowsOf (return_rows setup) returns (stored_in Returns s) →
    found ≡ statuses_in returns con.stations

-- one station more, whose return has this status, if there is one
abbrev pub with_station : Statuses → Option Status → Statuses
with_station so_far None = record so_far { stations = so_far.stations + 1 }
with_station so_far (Some Received) =
    record so_far { stations = so_far.stations + 1; received = so_far.received + 1 }
with_station so_far (Some Queried) =
    record so_far { stations = so_far.stations + 1; queried = so_far.queried + 1 }
with_station so_far (Some Corrected) =
    record so_far { stations = so_far.stations + 1; corrected = so_far.corrected + 1 }
with_station so_far (Some Closed) =
    record so_far { stations = so_far.stations + 1; closed = so_far.closed + 1 }

-- none of these numbers is above this one
pub record AreWithin (most : ℕ) (so_far : Statuses) : Type 0 where
  pub stations : so_far.stations ≤ most
  pub received : so_far.received ≤ most
  pub queried : so_far.queried ≤ most
  pub corrected : so_far.corrected ≤ most
  pub closed : so_far.closed ≤ most
