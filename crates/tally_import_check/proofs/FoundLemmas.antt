-- What is found in a text, by the records that came of it.
use Rattle.std.proofs.Common.{◌≡◌, ◌<◌, ◌≤◌, ◌∷◌, ◌∙◌, ℕ, List, Bool, false, Option, Some, None, Result, Ok, Err, length, refl, sym, ap, arith, inl, inr}
use Rattle.std.specs.Prelude.{◌⊎◌, IfSome, IfOk, IfErr, String, string_bytes, nat_lt, option_map, if◌then◌else◌}
use Rattle.std.specs.declared.alloc.Global.{Global}
use Rattle.std.proofs.lemmas.Bool.{lt-ltb}
use Rattle.std.proofs.lemmas.Bool.Decides.{nat_tests}
use Rattle.tally_returns_rows.specs.Source.{row_limit}
use Rattle.tally_import.specs.Header.{header_lists}
use Rattle.tally_import_check.specs.Check.{Checked, Found, records_result, result_at_end, under_header, rows_of_records, text_of}
use Rattle.tally_import.specs.Faults.{check_fault}
use Rattle.tally_import_records.specs.Input.{AreAll}
use Rattle.tally_import_check.specs.internal.Progress.{HasTaken}
use Rattle.tally_import_check.specs.internal.Rounds.{FindsCheckText, ImportsRecords, ended_text}
use Rattle.tally_import_check.specs.declared.import.Import.{Import}
use Rattle.tally_import_records.specs.declared.end.Stop.{Stop}
use Rattle.tally_import.specs.declared.fault.CheckFault.{CheckFault}
use Rattle.tally_import.specs.declared.fault.CheckFault.TheVariants.{BadHeader, TooLong, Memory}
use Rattle.tally_import_records.specs.declared.separator.Sep.{Sep}
use Rattle.tally_import_check.proofs.RoundsLemmas.{examined-whole}

pub Found-memory : (sep : Sep) (text left : Option (List ℕ)) (fault : CheckFault) → fault ≡ Memory
    → IfSome text (λ t. (fault ≡ Memory) ⊎ Found sep t left (λ f. f ≡ Err fault))
Found-memory sep None left fault is = tt
Found-memory sep (Some t) left fault is = inl is

pub Found-fault : (sep : Sep) (text left : Option (List ℕ)) (records : List (List (List ℕ))) (stop : Option Stop) (fault : CheckFault)
    → AreAll sep text left records stop → ◌≡◌ {A = Result Checked CheckFault} (records_result records stop) (Err fault)
    → IfSome text (λ t. (fault ≡ Memory) ⊎ Found sep t left (λ f. f ≡ Err fault))
Found-fault sep None left records stop fault all is = tt
Found-fault sep (Some t) left records stop fault all is = inr (all.0, stop, all.1, ap (λ r. records_result r stop) all.2 ∙ is)

-- a first record that is no header
pub no-lists : (header : List (List ℕ)) (records : List (List (List ℕ))) (stop : Option Stop) → header_lists header ≡ None
    → ◌≡◌ {A = Result Checked CheckFault} (records_result (header ∷ records) stop) (Err BadHeader)
no-lists header records stop none = ap (λ o. under_header o records stop) none

-- rows under a header: too many, or stopped
pub under-fault : (header : List (List ℕ)) (lists : List (List ℕ)) (records : List (List (List ℕ))) (stop : Option Stop) (fault : CheckFault)
    → Some lists ≡ header_lists header → ((fault ≡ TooLong) × (row_limit < length records)) ⊎ ((option_map check_fault stop ≡ Some fault) × (length records ≤ row_limit))
    → ◌≡◌ {A = Result Checked CheckFault} (records_result (header ∷ records) stop) (Err fault)
under-fault header lists records stop fault named (inl many) =
    ap (λ o. under_header o records stop) (sym named)
    ∙ ap (λ b. if b then Err TooLong else result_at_end lists records stop) (lt-ltb row_limit (length records) many.1) ∙ ap Err (sym many.0)
under-fault header lists records stop fault named (inr stopped) =
    ap (λ o. under_header o records stop) (sym named)
    ∙ ap (λ b. if b then Err TooLong else result_at_end lists records stop) (not_more (length records) stopped.1) ∙ end stop stopped.0
  where
    end : (s : Option Stop) → option_map check_fault s ≡ Some fault → ◌≡◌ {A = Result Checked CheckFault} (result_at_end lists records s) (Err fault)
    end None same = cc
    end (Some s) same = ap Err (let is : ◌≡◌ {A = CheckFault} (check_fault s) fault = cc in is)

    not_more : (n : ℕ) → n ≤ row_limit → nat_lt row_limit n ≡ false
    not_more n few = grind (arith, nat_tests)

-- an import of all rows, or of those before what stopped the text
pub Imports-ended : (lists : ℕ) (AreRows : List (List (List ℕ)) → Option Stop → Type 0) (import : Import) (rows : List (List (List ℕ))) (stop : Option Stop)
    → AreRows rows stop → HasTaken (record { lists = lists; rows = rows_of_records lists rows }) import → length rows ≤ row_limit
    → ImportsRecords lists AreRows import (ended_text stop)
Imports-ended lists AreRows import rows None are taken few = (rows, are, taken, few)
Imports-ended lists AreRows import rows (Some fault) are taken few = inr (rows, Some fault, are, inr (refl, few))

-- what an import that failed shows of the text
pub Found-rows : (sep : Sep) (text left : Option (List ℕ)) (header : List (List ℕ)) (lists : List (List ℕ)) (n : ℕ) (fault : CheckFault)
    (AreRows : List (List (List ℕ)) → Option Stop → Type 0) (import : Import)
    → Some lists ≡ header_lists header
    → ((rows : List (List (List ℕ))) (stop : Option Stop) → AreRows rows stop → AreAll sep text left (header ∷ rows) stop)
    → ImportsRecords n AreRows import (Err fault)
    → IfSome text (λ t. (fault ≡ Memory) ⊎ Found sep t left (λ f. f ≡ Err fault))
Found-rows sep text left header lists n fault AreRows import named all (inl memory) = Found-memory sep text left fault memory
Found-rows sep text left header lists n fault AreRows import named all (inr found) =
    Found-fault sep text left (header ∷ found.0) found.1 fault (all found.0 found.1 found.2) (under-fault header lists found.0 found.1 fault named found.3)

-- what the text that was made of an import shows of the text that was read
pub Found-text : (lines : Bool) (sep : Sep) (text left : Option (List ℕ)) (header : List (List ℕ)) (lists : List (List ℕ)) (rows : List (List (List ℕ))) (result : Result (String Global) CheckFault)
    → Some lists ≡ header_lists header → AreAll sep text left (header ∷ rows) None → length rows ≤ row_limit
    → IfOk result (λ s. string_bytes s ≡ text_of lines (record { lists = lists; rows = rows_of_records (length lists) rows })) → IfErr result (λ fault. fault ≡ Memory)
    → IfSome text (λ t. FindsCheckText lines sep t left result)
Found-text lines sep None left header lists rows result named all few shown fault = tt
Found-text lines sep (Some t) left header lists rows (Ok s) named all few shown fault =
    (all.0, None, all.1, (record { lists = lists; rows = rows_of_records (length lists) rows }, ap (λ r. records_result r None) all.2 ∙ examined-whole header rows lists named few, shown))
Found-text lines sep (Some t) left header lists rows (Err f) named all few shown fault = inl fault
