-- The rows of a constituency's returns: what comes of a text, and how far they have come.
use Rattle.std.specs.Prelude.{◌≡◌, ◌≢◌, ◌≤◌, ◌⊎◌, if◌then◌else◌, nat_lt, ℕ, Bool, true, false, List}
use Rattle.std.specs.Prelude.{[], ◌∷◌, map, length, take, drop, Option, Some, None, option_map}
use Rattle.std.specs.Prelude.{is_some, IfSome, Result, Ok, Err, codes, ⊤}
use Rattle.std.specs.HashSet.{HashSet, contains}
use Rattle.std.specs.Cmp.Lexicographic.{pointwise}
use Rattle.std.specs.Str.{bytes_eq}
use Rattle.std.specs.declared.hash.BuildHasherDefault.{BuildHasherDefault}
use Rattle.std.specs.declared.hash.FoldHasher.{FoldHasher}
use Rattle.tally_frac.specs.Limits.{most_lists}
use Rattle.tally_setup.specs.Constituency.{Constituency, list_codes}
use Rattle.tally_returns.specs.Lodge.{Stations}
use Rattle.tally_returns.specs.Decide.{station_in, limits_of}
use Rattle.tally_returns_rows.specs.Source.{Coming, Ending, GivesNext, IsSudden, at_end, row_limit}
use Rattle.tally_returns_rows.specs.declared.import.Row.{Row}
use Rattle.tally_returns_rows.specs.declared.source.ImportFault.{ImportFault}
use Rattle.tally_returns_rows.specs.declared.source.ImportFault.TheVariants as cause
use Rattle.tally_import.specs.Header.{same_text}
use Rattle.tally_import_records.specs.Input.{Gave, complete_records, text_records, text_stop}
use Rattle.tally_import_records.specs.Given.{HasGiven, IsReadingOn, WatchAgrees, sep_of}
use Rattle.tally_import.specs.Rows.{row_of}
use Rattle.tally_import_records.specs.declared.end.Stop.{Stop}
use Rattle.tally_import_records.specs.declared.end.Stop.TheVariants as stopped
use Rattle.tally_import.specs.declared.return_rows.Rows.{Rows}
use Rattle.tally_import.specs.declared.return_rows.Stage.{Stage}
use Rattle.tally_import.specs.declared.return_rows.Stage.TheVariants.{Unread, Reading, Ended}
use Rattle.tally_import_records.specs.declared.separator.Sep.{Sep}

-- the stations of a constituency
abbrev pub station_limits_in : Constituency → Stations
station_limits_in con code = option_map (limits_of con) (station_in con code)

-- the header of these lists, and nothing else
abbrev pub header_of : List (List ℕ) → List (List ℕ)
header_of lists = codes "station" ∷ codes "slip" ∷ codes "blank" ∷ codes "spoiled" ∷ lists

abbrev pub is_header : List (List ℕ) → List (List ℕ) → Bool
is_header lists fields = pointwise same_text fields (header_of lists)

-- the fault of an import that a stopped text has
abbrev pub import_fault : Stop → ImportFault
import_fault stopped.TooLong = cause.TooLong
import_fault stopped.Read = cause.Read

-- no row, and this fault
abbrev pub fault_alone : Option ImportFault → Coming
fault_alone fault = record { rows = []; fault = fault }

-- the fault of a text that has no complete record
abbrev pub fault_without_header : Option Stop → ImportFault
fault_without_header None = cause.BadHeader
fault_without_header (Some stop) = import_fault stop

-- the rows that at most 20,000 records are, and after them a fault where there are more, or what
-- stopped the text
abbrev pub rows_coming : Constituency → List (List (List ℕ)) → Option Stop → Coming
rows_coming con records stop = record {
  rows = map (row_of (station_limits_in con) (length con.lists)) (take row_limit records);
  fault =
      if nat_lt row_limit (length records)
      then Some cause.TooLong
      else option_map import_fault stop;
}

-- What comes of a text's complete records, and of what stopped it: the header is looked at first,
-- then the rows, and then what stopped the text.
abbrev pub records_coming : Constituency → List (List (List ℕ)) → Option Stop → Coming
records_coming con [] stop = fault_alone (Some (fault_without_header stop))
records_coming con (header ∷ records) stop =
    if is_header (list_codes con.lists) header
    then rows_coming con records stop
    else fault_alone (Some cause.BadHeader)

-- what comes of the bytes that came, and of what stopped them
abbrev pub bytes_coming : Constituency → Sep → List ℕ → Option Stop → Coming
bytes_coming con sep bytes stop = records_coming con (complete_records sep bytes stop) stop

-- what comes of a text
abbrev pub text_coming : Constituency → Sep → List ℕ → Coming
text_coming con sep text = records_coming con (text_records sep text) (text_stop text)

-- ---- how far the rows have come

-- what is left after this many rows
abbrev pub coming_after : ℕ → Coming → Coming
coming_after came coming = record { rows = drop came coming.rows; fault = coming.fault }

-- A read of this text failed, and all that was complete before it was given first: of the bytes
-- that came, nothing comes after this many rows but the failed read.
abbrev pub AllRowsCame : Constituency → Sep → ℕ → List ℕ → Option (List ℕ) → Type 0
AllRowsCame con sep came text left = (bytes : List ℕ) × Gave text left bytes (Some stopped.Read)
    × (coming_after came (bytes_coming con sep bytes (Some stopped.Read))
    ≡ fault_alone (Some cause.Read))

-- what still comes of a text
abbrev pub still_coming : Constituency → Sep → Stage → List ℕ → Coming
still_coming con sep Unread text = text_coming con sep text
still_coming con sep (Reading rows) text = coming_after rows.came (text_coming con sep text)
still_coming con sep (Ended fault) text = fault_alone fault

-- the set has the stations of the constituency
abbrev pub HasStations : Constituency → HashSet (List ℕ) (BuildHasherDefault FoldHasher) → Type 0
HasStations con set =
    (code : List ℕ) → contains bytes_eq set code ≡ is_some (station_limits_in con code)

-- The header and these records of this text were given.
pub record HasCome (text left : Option (List ℕ)) (rows : Rows) (lists header : List (List ℕ))
    (records : List (List (List ℕ))) : Type 0 where
  pub good : is_header lists header ≡ true
  pub count : length records ≡ rows.came
  pub given : HasGiven text left (header ∷ records) rows.records

-- the rows after the header, at work
pub record IsReadingRows (text left : Option (List ℕ)) (con : Constituency) (sep : Sep)
    (rows : Rows) : Type 0 where
  pub reading : IsReadingOn rows.records
  pub separator : sep_of rows.records ≡ sep
  pub lists : rows.lists ≡ length con.lists
  pub few : length con.lists ≤ most_lists
  pub stations : HasStations con rows.stations
  pub within : rows.came ≤ row_limit
  pub come : (header : List (List ℕ)) × (given : List (List (List ℕ)))
      × HasCome text left rows (list_codes con.lists) header given

-- the stage of the rows of a text, of which this is left
abbrev pub IsAtStage : Option (List ℕ) → Option (List ℕ) → Constituency → Sep → Stage → Type 0
IsAtStage text left con sep Unread = left ≡ text
IsAtStage text left con sep (Reading rows) = IsReadingRows text left con sep rows
IsAtStage text left con sep (Ended fault) = fault ≢ Some cause.Store

-- the fault is out of memory or a failed read, or it is what comes of the text and no row before it
abbrev pub IsNext : Option (List ℕ) → (List ℕ → Coming) → ImportFault → Type 0
IsNext text coming fault =
    (fault ≢ cause.Store)
    × (IsSudden fault ⊎ IfSome text (λ t. ((coming t).rows ≡ []) × ((coming t).fault ≡ Some fault)))

-- What the rows after the header give next, and where they are then.
abbrev pub GivesRow : Option (List ℕ) → Option (List ℕ) → Constituency → Sep → Rows
    → Result (Option Row) ImportFault → Rows → Type 0
GivesRow text left con sep old (Ok (Some row)) new = IsReadingRows text left con sep new
    × IfSome text (λ t. (rest : List Row)
    × (drop old.came (text_coming con sep t).rows ≡ row ∷ rest)
    × (drop new.came (text_coming con sep t).rows ≡ rest))
GivesRow text left con sep old (Ok None) new =
    IfSome text (λ t. coming_after old.came (text_coming con sep t) ≡ fault_alone None)
GivesRow text left con sep old (Err fault) new =
    IsNext text (λ t. coming_after old.came (text_coming con sep t)) fault

-- What a call gives from one stage to the next.
abbrev pub Advances : Option (List ℕ) → Constituency → Sep → Option (List ℕ) → Stage
    → Result (Option Row) ImportFault → Option (List ℕ) → Stage → Type 0
Advances text con sep old_left old result left new = IsAtStage text left con sep new
    × GivesNext (option_map (still_coming con sep old) text) result
    (option_map (still_coming con sep new) text)

-- The header of a text was read, and this is left.
pub record IsBegun (text left : Option (List ℕ)) (con : Constituency) (sep : Sep) (stage : Stage)
    : Type 0 where
  pub rows : Rows
  pub is : stage ≡ Reading rows
  pub first : rows.came ≡ 0
  pub reading : IsReadingRows text left con sep rows

-- something can be given at this stage: the header was read
abbrev pub IsStarted : Stage → Type 0
IsStarted Unread = ⊥
IsStarted (Reading rows) =
    IsReadingOn rows.records × (rows.lists ≤ most_lists) × (rows.came ≤ row_limit)
IsStarted (Ended fault) = ⊤

-- ---- the end

-- how the rows ended, once they did
abbrev pub ending : Stage → Ending
ending Unread = None
ending (Reading rows) = None
ending (Ended fault) = Some fault

-- how many rows came
abbrev pub came_by : Stage → ℕ
came_by Unread = 0
came_by (Reading rows) = rows.came
came_by (Ended fault) = 0

-- Where the rows ended before the call, it answers how, and leaves things so.
abbrev pub EndsAgain : Ending → Result (Option Row) ImportFault → Type 0 → Type 0
EndsAgain ended result LeavesSo = (fault : Option ImportFault)
    → ended ≡ Some fault → (result ≡ at_end fault) × LeavesSo

-- ---- failed reads

-- Where a failed read is answered after this many rows, all that was complete before it came first.
abbrev pub FailsLast : {T : Type 0} → Option (List ℕ) → Constituency → Sep → ℕ
    → Result T ImportFault → Option (List ℕ) → Type 0
FailsLast text con sep came result left =
    result ≡ Err cause.Read → IfSome text (λ t. AllRowsCame con sep came t left)

-- the fault is a failed read only where one of the reader's reads failed
abbrev pub IsTrueFault : ImportFault → Bool → Type 0
IsTrueFault cause.BadHeader failed = ⊤
IsTrueFault cause.TooLong failed = ⊤
IsTrueFault cause.Read failed = failed ≡ true
IsTrueFault cause.Memory failed = ⊤
IsTrueFault cause.Store failed = ⊤

-- the same of all that a call answers; the end comes only where no read failed
abbrev pub IsTrueResult : Result (Option Row) ImportFault → Bool → Type 0
IsTrueResult (Ok (Some row)) failed = ⊤
IsTrueResult (Ok None) failed = failed ≡ false
IsTrueResult (Err fault) failed = IsTrueFault fault failed

-- the same of all that a stage keeps of how the text was stopped
abbrev pub IsTrueAt : Stage → Bool → Type 0
IsTrueAt Unread failed = failed ≡ false
IsTrueAt (Reading rows) failed = WatchAgrees false rows.records failed
IsTrueAt (Ended None) failed = failed ≡ false
IsTrueAt (Ended (Some fault)) failed = IsTrueFault fault failed
