-- The rounds of a check: one record more, or the last.
use Rattle.std.proofs.Common.{◌≡◌, ◌≤◌, ◌+◌, ◌++◌, ◌∷◌, ◌∙◌, ℕ, List, [], false, length, sym, ap, subst, arith}
use Rattle.std.specs.Prelude.{if◌then◌else◌}
use Rattle.std.proofs.lemmas.Bool.Decides.{nat_tests}
use Rattle.std.proofs.lemmas.List.{map-append, length-map}
use Rattle.std.proofs.Common.{Some, None, Ok, Err}
use Rattle.std.specs.Prelude.{nat_lt}
use Rattle.tally_returns_rows.specs.Source.{row_limit}
use Rattle.tally_import.specs.Header.{header_lists}
use Rattle.tally_import.specs.declared.fault.CheckFault.TheVariants.{TooLong}
use Rattle.tally_import_check.specs.Check.{rows_of_records, every_code, records_result, under_header}
use Rattle.tally_import.specs.Rows.{row_of}
use Rattle.tally_import_check.specs.internal.Progress.{HasTaken}
use Rattle.tally_import_check.specs.declared.import.Import.{Import}

-- the rows of one record more
rows-more : (lists : ℕ) (records : List (List (List ℕ))) (fields : List (List ℕ))
    → rows_of_records lists (records ++ fields ∷ []) ≡ rows_of_records lists records ++ row_of (every_code lists) lists fields ∷ []
rows-more lists records fields = map-append (row_of (every_code lists) lists) records (fields ∷ [])

length-rows : (lists : ℕ) (records : List (List (List ℕ))) → length (rows_of_records lists records) ≡ length records
length-rows lists records = length-map records (row_of (every_code lists) lists)

-- the number of the row that comes next
pub taken-next : (lists : ℕ) (records : List (List (List ℕ))) (taken : ℕ) → length records ≡ taken → taken + 1 ≡ length (rows_of_records lists records) + 1
taken-next lists records taken are = ap (λ n. n + 1) (sym (length-rows lists records ∙ are))

-- one more record was taken
pub more-taken : (lists : ℕ) (records : List (List (List ℕ))) (new : Import) (fields : List (List ℕ))
    → HasTaken (record { lists = lists; rows = rows_of_records lists records ++ row_of (every_code lists) lists fields ∷ [] }) new
    → HasTaken (record { lists = lists; rows = rows_of_records lists (records ++ fields ∷ []) }) new
more-taken lists records new fields h = subst (λ rs. HasTaken (record { lists = lists; rows = rs }) new) (sym (rows-more lists records fields)) h

-- what a whole text is
pub examined-whole : (header : List (List ℕ)) (rest : List (List (List ℕ))) (lists : List (List ℕ))
    → Some lists ≡ header_lists header → length rest ≤ row_limit
    → records_result (header ∷ rest) None ≡ Ok (record { lists = lists; rows = rows_of_records (length lists) rest })
examined-whole header rest lists named few =
    ap (λ o. under_header o rest None) (sym named)
    ∙ ap (λ b. if b then Err TooLong else Ok (record { lists = lists; rows = rows_of_records (length lists) rest })) (not_more (length rest) few)
  where
    not_more : (n : ℕ) → n ≤ row_limit → nat_lt row_limit n ≡ false
    not_more n few = grind (arith, nat_tests)
