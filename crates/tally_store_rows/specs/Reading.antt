-- What rows read as, or nothing. Whether what they read as is lawful is judged elsewhere.
use Rattle.std.specs.Prelude.{◌==◌, ◌+◌, ◌-◌, if◌then◌else◌, ℕ, zero, suc, nat_le, Bool, true}
use Rattle.std.specs.Prelude.{false, Option, Some, None, option_map, option_and_then, List, [], ◌∷◌}
use Rattle.std.specs.Prelude.{length, bytes_eq, slice_index_or, slice_range, take, drop, ◌≡◌}
use Rattle.std.specs.Prelude.{Result, IfOk, Vec}
use Rattle.std.specs.declared.alloc.Global.{Global}
use Rattle.std.specs.Option.{option_map_or}
use Rattle.std.specs.Str.{is_utf8}
use Rattle.sqlite_value.specs.Order.{Row, column}
use Rattle.sqlite_value.specs.declared.value.Value.{Value}
use Rattle.tally_store_schema.specs.Values.{text_of, number_of, wide_number_of}
use Rattle.tally_setup.specs.Code.{code_of}
use Rattle.tally_setup.specs.Constituency.{Constituency}
use Rattle.tally_setup.specs.Setup.{station_with}
use Rattle.tally_setup.specs.declared.constituency.Station.{Station}
use Rattle.tally_returns.specs.Counts.{VoteCounts}
use Rattle.tally_returns.specs.GoneCandidate.{GoneCandidate}
use Rattle.tally_returns.specs.PastSeats.{PastSeats}
use Rattle.tally_returns.specs.Return.{StationReturn}
use Rattle.tally_returns.specs.declared.returns.Status.{Status}
use Rattle.tally_returns.specs.declared.returns.Status.TheVariants.{Received, Queried, Corrected}
use Rattle.tally_returns.specs.declared.returns.Status.TheVariants.{Closed}
use Rattle.tally_store_rows.specs.Cells.{spoiled_item}

-- one thing read after another, as far as the first that reads as nothing
infixl 10 ◌>>=◌
abbrev pub ◌>>=◌ : {A B : Type 0} → Option A → (A → Option B) → Option B
found >>= next = option_and_then next found

-- ---- what a call says that reads rows

-- the rows were read as these values, or as nothing; or it was out of memory
abbrev pub AreRead : {X E : Type 0} → Result (Option (Vec X Global)) E → Option (List X) → Type 0
AreRead result values = IfOk result (λ found. option_map (λ v. v.items) found ≡ values)

-- ---- columns

-- the column holds this text
abbrev pub has_text : Row → ℕ → List ℕ → Bool
has_text row place text =
    option_map_or (λ found. bytes_eq found text) (text_of (column row place)) false

-- what is read where the column holds the text that has to be there
abbrev pub with_text : {X : Type 0} → Row → ℕ → List ℕ → Option X → Option X
with_text row place text read = if has_text row place text then read else None

-- a text in UTF-8
abbrev pub utf8_of : List ℕ → Option (List ℕ)
utf8_of text = if is_utf8 text then Some text else None

-- the status of a number
abbrev pub status_of : ℕ → Option Status
status_of n =
    if n == 1 then Some Received
    else if n == 2 then Some Queried
    else if n == 3 then Some Corrected
    else if n == 4 then Some Closed
    else None

-- what each row reads as, by its place from this one on, where each reads as something
abbrev pub read_all : {X : Type 0} → (ℕ → Row → Option X) → ℕ → List Row → Option (List X)
read_all read first [] = Some []
read_all read first (row ∷ rows) = do
  x ← read first row
  option_map (λ xs. x ∷ xs) (read_all read (first + 1) rows)

-- ---- rows of a key, an item and a number

-- the number that is read in this way beside this item
abbrev pub item_columns : (Value → Option ℕ) → ℕ → Row → Option ℕ
item_columns read item row = do
  i ← wide_number_of (column row 1)
  if i == item then read (column row 2) else None

-- the number that a row has for this item of a key, where it is such a row and its number is read
-- in this way
abbrev pub item_for : (Value → Option ℕ) → Row → List ℕ → ℕ → Option ℕ
item_for read row key item =
    if length row == 3 then with_text row 0 key (item_columns read item row) else None

-- the numbers of the items from this one on, one row for each and in order
abbrev pub items_from : (Value → Option ℕ) → List ℕ → ℕ → List Row → Option (List ℕ)
items_from read key = read_all (λ item row. item_for read row key item)

-- the blank votes, those of each list and the spoiled ones, one row for each and in order
abbrev pub count_lines : (Value → Option ℕ) → List ℕ → List Row → Option VoteCounts
count_lines read key rows = do
  blank ← item_for read (slice_index_or rows 0 []) key 0
  spoiled ← item_for read (slice_index_or rows (length rows - 1) []) key spoiled_item
  option_map (λ votes. record { votes = votes; blank = blank; spoiled = spoiled })
      (items_from read key 1 (slice_range rows 1 (length rows - 1)))

-- the same, where there are rows for the blank and the spoiled ones
abbrev pub counts_by : (Value → Option ℕ) → List ℕ → List Row → Option VoteCounts
counts_by read key rows = if nat_le 2 (length rows) then count_lines read key rows else None

-- numbers of 32 bits
abbrev pub numbers_from : List ℕ → ℕ → List Row → Option (List ℕ)
numbers_from = items_from number_of

-- the counts whose rows these are
abbrev pub counts_of : List ℕ → List Row → Option VoteCounts
counts_of = counts_by number_of

-- the sums of counts whose rows these are: numbers of any size
abbrev pub sums_of : List ℕ → List Row → Option VoteCounts
sums_of = counts_by wide_number_of

-- ---- rows of returns

-- a return, but for its station and constituency, with these counts
abbrev pub return_columns : VoteCounts → Row → Option StationReturn
return_columns counts row = do
  rev ← number_of (column row 2)
  slip ← option_and_then code_of (text_of (column row 3))
  status ← option_and_then status_of (number_of (column row 4))
  option_map
      (λ note. record { rev = rev; slip = slip; status = status; note = note; counts = counts })
      (option_and_then utf8_of (text_of (column row 5)))

-- the return of this station of this constituency whose row this is, with these counts
abbrev pub return_of : List ℕ → List ℕ → VoteCounts → Row → Option StationReturn
return_of station con counts row =
    if length row == 6
    then with_text row 0 station (with_text row 1 con (return_columns counts row))
    else None

-- the station that a row of `returns` names, with its constituency
abbrev pub station_of_row : List Constituency → Row → Option (Constituency × Station)
station_of_row setup row = do
  code ← option_and_then code_of (text_of (column row 0))
  station_with code setup

-- the return of a station of a constituency whose rows these are
abbrev pub entry_of : List ℕ → List ℕ → Row → List Row → Option (List ℕ × StationReturn)
entry_of con station row rows = do
  counts ← counts_of station rows
  option_map (λ standing. (station, standing)) (return_of station con counts row)

-- the first return, by this many rows of `counts`, and those that the other rows read as
abbrev pub entry_before : (List Row → Option (List (List ℕ × StationReturn))) → ℕ
    → Constituency × Station → Row → List Row → Option (List (List ℕ × StationReturn))
entry_before others items place row counts = do
  e ← entry_of place.0.code place.1.code row (take items counts)
  option_map (λ es. e ∷ es) (others (drop items counts))

-- the same, where there are this many rows
abbrev pub next_entry : (List Row → Option (List (List ℕ × StationReturn))) → ℕ
    → Constituency × Station → Row → List Row → Option (List (List ℕ × StationReturn))
next_entry others items place row counts =
    if nat_le items (length counts) then entry_before others items place row counts else None

-- the returns whose rows the two tables hold, one after the other: for each row of `returns`, a row
-- of `counts` for each list and two more
abbrev pub entries_in : List Constituency → List Row → List Row
    → Option (List (List ℕ × StationReturn))
entries_in setup [] [] = Some []
entries_in setup [] (count ∷ counts) = None
entries_in setup (row ∷ rows) counts = do
  place ← station_of_row setup row
  next_entry (entries_in setup rows) (length place.0.lists + 2) place row counts

-- ---- rows of constituencies

-- whether a constituency is certified, by its number in the table
abbrev pub flag_of : ℕ → Option Bool
flag_of n = if n == 0 then Some false else (if n == 1 then Some true else None)

-- a text in UTF-8 in a column
abbrev pub note_in : Row → ℕ → Option (List ℕ)
note_in row place = option_and_then utf8_of (text_of (column row place))

-- the edition of a constituency, whether it is certified, and the note of its last reopening
abbrev pub standing_columns : Row → Option (ℕ × Bool × List ℕ)
standing_columns row = do
  edition ← number_of (column row 1)
  certified ← option_and_then flag_of (number_of (column row 2))
  option_map (λ note. (edition, certified, note)) (note_in row 3)

-- the same of the constituency of a code
abbrev pub standing_of : List ℕ → Row → Option (ℕ × Bool × List ℕ)
standing_of con row = if length row == 4 then with_text row 0 con (standing_columns row) else None

-- a candidate who is gone
abbrev pub gone_columns : Row → Option GoneCandidate
gone_columns row = do
  list ← number_of (column row 1)
  place ← number_of (column row 2)
  option_map (λ note. record { list = list; place = place; note = note }) (note_in row 3)

-- the same, of the constituency of a code
abbrev pub gone_in_row : List ℕ → Row → Option GoneCandidate
gone_in_row con row = if length row == 4 then with_text row 0 con (gone_columns row) else None

abbrev pub all_gone_of : List ℕ → List Row → Option (List GoneCandidate)
all_gone_of con = read_all (λ place row. gone_in_row con row) 1

-- the number that a row has for this list, by its place
abbrev pub seats_column : ℕ → Row → Option ℕ
seats_column place row = do
  l ← wide_number_of (column row 2)
  if l == place then number_of (column row 3) else None

-- the seats of a list, by its place, that a certificate of this edition gave
abbrev pub past_columns : ℕ → ℕ → Row → Option ℕ
past_columns edition place row = do
  e ← number_of (column row 1)
  if e == edition then seats_column place row else None

-- the same of the constituency of a code
abbrev pub past_for : List ℕ → ℕ → ℕ → Row → Option ℕ
past_for con edition place row =
    if length row == 4 then with_text row 0 con (past_columns edition place row) else None

abbrev pub past_from : List ℕ → ℕ → ℕ → List Row → Option (List ℕ)
past_from con edition = read_all (λ place row. past_for con edition place row)

-- the certificate whose rows these are, one for each list
abbrev pub record_of : List ℕ → List Row → Option PastSeats
record_of con rows = do
  edition ← number_of (column (slice_index_or rows 0 []) 1)
  option_map (λ seats. record { edition = edition; seats = seats }) (past_from con edition 1 rows)

-- the first certificate, by this many rows, and those that the other rows read as
abbrev pub record_before : (List Row → Option (List PastSeats)) → List ℕ → ℕ → List Row
    → Option (List PastSeats)
record_before others con lists rows = do
  r ← record_of con (take lists rows)
  option_map (λ rs. r ∷ rs) (others (drop lists rows))

-- the same, where there are this many rows
abbrev pub next_record : (List Row → Option (List PastSeats)) → List ℕ → ℕ → List Row
    → Option (List PastSeats)
next_record others con lists rows =
    if nat_le lists (length rows) then record_before others con lists rows else None

-- the certificates whose rows these are, at most this many: of each a row for each list
abbrev pub records_of : List ℕ → ℕ → ℕ → List Row → Option (List PastSeats)
records_of con lists most [] = Some []
records_of con lists zero (row ∷ rows) = None
records_of con lists (suc most) (row ∷ rows) =
    next_record (records_of con lists most) con lists (row ∷ rows)

abbrev pub past_of : List ℕ → ℕ → List Row → Option (List PastSeats)
past_of con lists rows = records_of con lists (length rows) rows
