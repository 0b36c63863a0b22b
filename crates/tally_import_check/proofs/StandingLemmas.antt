-- What is found in a text that was stopped, and not its end, is found in the whole text.
use Rattle.std.proofs.Common.{◌≡◌, ◌++◌, ◌∷◌, ◌∙◌, ℕ, List, [], Bool, true, false, Option, Some, None, Result, Err, length, refl, sym, ap, arith, length-append}
use Rattle.std.specs.Prelude.{◌≢◌, if◌then◌else◌, nat_lt}
use Rattle.std.proofs.lemmas.Bool.{ltb-true, lt-ltb}
use Rattle.tally_import_records.specs.Input.{complete_records}
use Rattle.tally_import_records.specs.declared.end.Stop.{Stop}
use Rattle.tally_import_records.specs.declared.separator.Sep.{Sep}
use Rattle.tally_import_records.proofs.FrontLemmas.{complete_records-front}
use Rattle.tally_returns_rows.specs.Source.{row_limit}
use Rattle.tally_import_check.specs.Check.{Checked, result_at_end, under_header, records_result, check_result}
use Rattle.tally_import.specs.Faults.{check_fault}
use Rattle.tally_import.specs.Header.{header_lists}
use Rattle.tally_import.specs.declared.fault.CheckFault.{CheckFault}
use Rattle.tally_import.specs.declared.fault.CheckFault.TheVariants.{TooLong}

-- a fault that the records tell, and not the end of their bytes, is found with more records too
examined-more : (records behind : List (List (List ℕ))) (stop : Stop) (fault : CheckFault) → ◌≡◌ {A = Result Checked CheckFault} (records_result records (Some stop)) (Err fault) → fault ≢ check_fault stop
    → records_result (records ++ behind) None ≡ Err fault
examined-more [] behind stop fault e other = absurd (other (let is : ◌≡◌ {A = CheckFault} (check_fault stop) fault = cc in sym is))
examined-more (header ∷ records) behind stop fault e other = under (header_lists header) e
  where
    many : (lists : List (List ℕ)) (b : Bool) → nat_lt row_limit (length records) ≡ b → ◌≡◌ {A = Result Checked CheckFault} (if b then Err TooLong else Err (check_fault stop)) (Err fault)
        → under_header (Some lists) (records ++ behind) None ≡ Err fault
    many lists true is same =
        let more : nat_lt row_limit (length (records ++ behind)) ≡ true = lt-ltb _ _ (omega (arith, ltb-true row_limit (length records) is, length-append records behind)) in
        ap (λ b. if b then Err TooLong else result_at_end lists (records ++ behind) None) more ∙ same
    many lists false is same = absurd (other (let was : ◌≡◌ {A = CheckFault} (check_fault stop) fault = cc in sym was))

    under : (lists : Option (List (List ℕ))) → ◌≡◌ {A = Result Checked CheckFault} (under_header lists records (Some stop)) (Err fault) → under_header lists (records ++ behind) None ≡ Err fault
    under None same = same
    under (Some lists) same = many lists (nat_lt row_limit (length records)) refl same

pub checked-more : (sep : Sep) (bytes rest : List ℕ) (stop : Stop) (fault : CheckFault) → ◌≡◌ {A = Result Checked CheckFault} (check_result sep bytes (Some stop)) (Err fault) → fault ≢ check_fault stop
    → check_result sep (bytes ++ rest) None ≡ Err fault
checked-more sep bytes rest stop fault e other =
    let front = complete_records-front sep bytes rest stop in
    ap (λ l. records_result l None) front.1 ∙ examined-more (complete_records sep bytes (Some stop)) front.0 stop fault e other
