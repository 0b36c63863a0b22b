-- The check of a text of returns.
use Rattle.std.specs.Prelude.{◌≡◌, ◌+◌, ◌++◌, if◌then◌else◌, nat_lt, ℕ, Bool, true, false, List, []}
use Rattle.std.specs.Prelude.{◌∷◌, map, length, sum_by, slice_index, take, Option, Some, None}
use Rattle.std.specs.Prelude.{Result, Ok, Err, codes}
use Rattle.std.specs.FinMap.{empty}
use Rattle.std.specs.Io.KnownBytes.{Appends, Keeps}
use Rattle.tally_setup.specs.Limits.{most_electors}
use Rattle.tally_setup.specs.declared.constituency.Entry.TheVariants.{Single}
use Rattle.tally_returns.specs.Counts.{VoteCounts}
use Rattle.tally_returns.specs.Lodge.{Stations, limits_for}
use Rattle.tally_returns_rows.specs.Import.{answers, count_of, lodged_counts}
use Rattle.tally_returns_rows.specs.NamedRows.{named_rows}
use Rattle.tally_returns_rows.specs.Source.{row_limit}
use Rattle.tally_returns_rows.specs.declared.import.NamedRow.{NamedRow}
use Rattle.tally_returns_rows.specs.declared.import.Row.{Row}
use Rattle.tally_import.specs.CountLines.{count_text, named_number}
use Rattle.tally_import.specs.Faults.{check_fault}
use Rattle.tally_import.specs.Header.{header_lists}
use Rattle.tally_import_records.specs.Input.{Gave, complete_records}
use Rattle.tally_import.specs.RowLines.{row_lines}
use Rattle.tally_import.specs.Rows.{row_of}
use Rattle.tally_import_records.specs.declared.end.Stop.{Stop}
use Rattle.tally_import.specs.declared.fault.CheckFault.{CheckFault}
use Rattle.tally_import.specs.declared.fault.CheckFault.TheVariants.{BadHeader, TooLong, Read}
use Rattle.tally_import.specs.declared.fault.CheckFault.TheVariants.{Memory, Write}
use Rattle.tally_import_records.specs.declared.separator.Sep.{Sep}

-- every code is a station, with as many electors as a station may have: 1,000,000
abbrev pub every_code : ℕ → Stations
every_code lists station = Some (limits_for lists most_electors Single)

-- ---- the check text

-- the votes of the list at a place (from 0), together
abbrev pub votes_for : ℕ → List VoteCounts → ℕ
votes_for place returns = sum_by (λ c. slice_index c.votes place) returns

-- the totals of the returns, the lists from this place on
abbrev pub lists_text : ℕ → List (List ℕ) → List VoteCounts → List ℕ
lists_text place [] returns = []
lists_text place (code ∷ lists) returns =
    named_number code (votes_for place returns) ++ lists_text (place + 1) lists returns

abbrev pub totals_text : List (List ℕ) → List VoteCounts → List ℕ
totals_text lists returns =
    named_number (codes "blank") (sum_by (λ c. c.blank) returns)
    ++ named_number (codes "spoiled") (sum_by (λ c. c.spoiled) returns)
    ++ lists_text 0 lists returns

-- The check text of the import of these rows into the empty map: the counts of the rows, and the
-- totals of the returns that were lodged.
abbrev pub check_text : List (List ℕ) → List Row → List ℕ
check_text lists rows =
    let answered = answers (every_code (length lists)) empty rows in
    count_text (count_of answered) ++ totals_text lists (lodged_counts rows answered)

-- the rows of that import that are named
abbrev pub named_in_check : ℕ → List Row → List NamedRow
named_in_check lists rows = named_rows 1 rows (answers (every_code lists) empty rows)

-- ---- the check of a text

-- What a text is that was read as a whole: the lists of its header, and its rows.
pub record Checked : Type 0 where
  pub lists : List (List ℕ)
  pub rows : List Row

-- what is written of it: the check text, and where they are asked for the lines of its rows
abbrev pub text_of : Bool → Checked → List ℕ
text_of false checked = check_text checked.lists checked.rows
text_of true checked =
    check_text checked.lists checked.rows
    ++ row_lines checked.lists (named_in_check (length checked.lists) checked.rows)

-- the rows that records are, under a header of this many lists
abbrev pub rows_of_records : ℕ → List (List (List ℕ)) → List Row
rows_of_records lists records = map (row_of (every_code lists) lists) records

abbrev pub result_at_end : List (List ℕ) → List (List (List ℕ)) → Option Stop
    → Result Checked CheckFault
result_at_end lists records None =
    Ok (record { lists = lists; rows = rows_of_records (length lists) records })
result_at_end lists records (Some stop) = Err (check_fault stop)

abbrev pub under_header : Option (List (List ℕ)) → List (List (List ℕ)) → Option Stop
    → Result Checked CheckFault
under_header None records stop = Err BadHeader
under_header (Some lists) records stop =
    if nat_lt row_limit (length records) then Err TooLong else result_at_end lists records stop

abbrev pub no_header : Option Stop → Result Checked CheckFault
no_header None = Err BadHeader
no_header (Some stop) = Err (check_fault stop)

-- what a text is by its complete records, or the fault that comes first: the header is looked at
-- first, then the rows, and then what stopped the text
abbrev pub records_result : List (List (List ℕ)) → Option Stop → Result Checked CheckFault
records_result [] stop = no_header stop
records_result (header ∷ records) stop = under_header (header_lists header) records stop

-- the same of the bytes that came, and what stopped them
abbrev pub check_result : Sep → List ℕ → Option Stop → Result Checked CheckFault
check_result sep bytes stop = records_result (complete_records sep bytes stop) stop

-- What is found in the bytes that came of a text, of which `left` is not read, before its end or
-- before what stopped it: its lists and its rows, or the first fault.
abbrev pub Found : Sep → List ℕ → Option (List ℕ) → (Result Checked CheckFault → Type 0) → Type 0
Found sep text left P =
    (bytes : List ℕ) × (stop : Option Stop) × Gave text left bytes stop
    × P (check_result sep bytes stop)

-- What the check of a text answers, and what it leaves on its writer: the check text is written,
-- with the lines of the rows or without, or the first fault is answered and nothing written. A
-- write that failed leaves a prefix of the text. Out of memory may come at any place.
abbrev pub Checks : Bool → Sep → List ℕ → Option (List ℕ) → Option (List ℕ) → Option (List ℕ)
    → Result (Unit {0}) CheckFault → Type 0
Checks lines sep text left old new (Ok u) =
    Found sep text left
    (λ found. (c : Checked) × (found ≡ Ok c) × Appends old new (text_of lines c))
Checks lines sep text left old new (Err BadHeader) =
    Found sep text left (λ found. found ≡ Err BadHeader) × Keeps old new
Checks lines sep text left old new (Err TooLong) =
    Found sep text left (λ found. found ≡ Err TooLong) × Keeps old new
Checks lines sep text left old new (Err Read) =
    Found sep text left (λ found. found ≡ Err Read) × Keeps old new
Checks lines sep text left old new (Err Memory) = Keeps old new
Checks lines sep text left old new (Err Write) =
    Found sep text left
    (λ found. (c : Checked) × (n : ℕ) × (found ≡ Ok c)
    × Appends old new (take n (text_of lines c)))

-- a failed check has written nothing, except one whose writing failed
abbrev pub IsSilent : Option (List ℕ) → Option (List ℕ) → Result (Unit {0}) CheckFault → Type 0
IsSilent old new (Ok u) = Unit {0}
IsSilent old new (Err Write) = Unit {0}
IsSilent old new (Err BadHeader) = Keeps old new
IsSilent old new (Err TooLong) = Keeps old new
IsSilent old new (Err Read) = Keeps old new
IsSilent old new (Err Memory) = Keeps old new
