-- What the parts of a check leave.
use Rattle.std.specs.Prelude.{◌≡◌, ◌<◌, ◌≤◌, ◌++◌, ◌⊎◌, ⊤, ℕ, Bool, true, List, length, Option}
use Rattle.std.specs.Prelude.{Some, None, IfSome, option_map, Result, Ok, Err, String, string_bytes}
use Rattle.std.specs.declared.alloc.Global.{Global}
use Rattle.tally_returns_rows.specs.Source.{row_limit}
use Rattle.tally_import_check.specs.Check.{Checked, Found, rows_of_records, text_of}
use Rattle.tally_import.specs.Faults.{check_fault}
use Rattle.tally_import_check.specs.internal.Progress.{HasTaken}
use Rattle.tally_import_records.specs.Input.{AreAll}
use Rattle.tally_import_records.specs.Given.{HasGiven, sep_of}
use Rattle.tally_import_records.specs.declared.end.Stop.{Stop}
use Rattle.tally_import_records.specs.RecordsValue.{Records}
use Rattle.tally_import.specs.declared.fault.CheckFault.{CheckFault}
use Rattle.tally_import.specs.declared.fault.CheckFault.TheVariants.{BadHeader, TooLong, Read}
use Rattle.tally_import.specs.declared.fault.CheckFault.TheVariants.{Memory, Write}
use Rattle.tally_import_check.specs.declared.import.Import.{Import}
use Rattle.tally_import_records.specs.declared.separator.Sep.{Sep}

-- the fault of a text that was stopped, and none of one that came to its end
abbrev pub ended_text : Option Stop → Result (Unit {0}) CheckFault
ended_text None = Ok tt
ended_text (Some stop) = Err (check_fault stop)

-- After the records given so far these are the complete ones of what comes of a text.
abbrev pub AreRecordsAfter : Option (List ℕ) → Option (List ℕ) → Records → List (List (List ℕ)) →
    Option Stop → Type 0
AreRecordsAfter old_left left r rows stop =
    (text : Option (List ℕ)) (before : List (List (List ℕ))) → HasGiven text old_left before r →
    AreAll (sep_of r) text left (before ++ rows) stop

-- The import, under a header of this many lists, is of rows that are all; or there is the fault of
-- too many, or what stopped them. Out of memory may come at any place.
abbrev pub ImportsRecords : ℕ → (List (List (List ℕ)) → Option Stop → Type 0) → Import →
    Result (Unit {0}) CheckFault → Type 0
ImportsRecords lists AreRows import (Ok _) = (rows : List (List (List ℕ))) × AreRows rows None
    × HasTaken (record { lists = lists; rows = rows_of_records lists rows }) import ×
    (length rows ≤ row_limit)
ImportsRecords lists AreRows import (Err fault) =
    (fault ≡ Memory) ⊎ ((rows : List (List (List ℕ))) × (stop : Option Stop) × AreRows rows stop
    × (((fault ≡ TooLong) × (row_limit < length rows)) ⊎
    ((option_map check_fault stop ≡ Some fault) × (length rows ≤ row_limit))))

-- this is what is written of a text that was read as a whole
abbrev pub IsWrittenOf : Bool → List ℕ → Result Checked CheckFault → Type 0
IsWrittenOf lines written found = (c : Checked) × (found ≡ Ok c) × (written ≡ text_of lines c)

-- What is written of a text, or the fault that comes first; out of memory may come at any place.
abbrev pub FindsCheckText : Bool → Sep → List ℕ → Option (List ℕ) →
    Result (String Global) CheckFault → Type 0
FindsCheckText lines sep text left (Ok found) =
    Found sep text left (IsWrittenOf lines (string_bytes found))
FindsCheckText lines sep text left (Err fault) =
    (fault ≡ Memory) ⊎ Found sep text left (λ f. f ≡ Err fault)

-- The same of the text of which these records were given so far.
abbrev pub FindsAfter : Bool → List (List (List ℕ)) → Records → Option (List ℕ)
    → Option (List ℕ) → Result (String Global) CheckFault → Type 0
FindsAfter lines given r old_left left result = (text : Option (List ℕ))
    → HasGiven text old_left given r
    → IfSome text (λ t. FindsCheckText lines (sep_of r) t left result)

-- A fault that comes before anything is written: Read only where a read failed, and never Write.
abbrev pub IsOfReading : CheckFault → Bool → Type 0
IsOfReading BadHeader failed = ⊤
IsOfReading TooLong failed = ⊤
IsOfReading Read failed = failed ≡ true
IsOfReading Memory failed = ⊤
IsOfReading Write failed = ⊥
