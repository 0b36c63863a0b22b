-- What comes of a text is at most 20,000 rows, and then its end or a fault of its own.
use Rattle.std.proofs.Common.{◌≤◌, ℕ, zero, suc, List, [], ◌∷◌, Bool, true, false, Option, Some}
use Rattle.std.proofs.Common.{None, length, take, map, arith, length-drop}
use Rattle.std.specs.Prelude.{◌≢◌, if◌then◌else◌, nat_lt, option_map, IfSome}
use Rattle.tally_setup.specs.Constituency.{Constituency, list_codes}
use Rattle.tally_returns_rows.specs.Source.{IsWithinRowLimit, row_limit}
use Rattle.tally_returns_rows.specs.declared.source.ImportFault.{ImportFault}
use Rattle.tally_returns_rows.specs.declared.source.ImportFault.TheVariants as cause
use Rattle.tally_import_records.specs.Input.{size_limit, text_records}
use Rattle.tally_import.specs.ReturnRows.{records_coming, import_fault, is_header, fault_alone}
use Rattle.tally_import.specs.ReturnRows.{rows_coming, text_coming}
use Rattle.tally_import.specs.ReturnRowsValue.{ReturnRows, rows_to_come, coming_at, own_fault}
use Rattle.tally_import_records.specs.declared.end.Stop.TheVariants as stopped
use Rattle.tally_import_records.specs.declared.separator.Sep.{Sep}

few : {X Y : Type 0} (f : X → Y) (n : ℕ) (xs : List X) → length (map f (take n xs)) ≤ n
few f zero xs = omega arith
few f (suc n) [] = omega arith
few f (suc n) (x ∷ xs) = omega (arith, few f n xs)

rows-within : (con : Constituency) (records : List (List (List ℕ))) (long : Bool)
    → IsWithinRowLimit (rows_coming con records (if long then Some stopped.TooLong else None))
rows-within con records long =
    (few _ row_limit records, go (nat_lt row_limit (length records)) long)
  where
    go : (many long : Bool)
        → ◌≢◌ {A = Option ImportFault}
        (if many then Some cause.TooLong
        else option_map import_fault (if long then Some stopped.TooLong else None))
        (Some cause.Store)
    go true long e = cc
    go false true e = cc
    go false false e = cc

records-within : (con : Constituency) (records : List (List (List ℕ))) (long : Bool)
    → IsWithinRowLimit (records_coming con records (if long then Some stopped.TooLong else None))
records-within con [] true = (omega arith, λ e. cc)
records-within con [] false = (omega arith, λ e. cc)
records-within con (header ∷ records) long = go (is_header (list_codes con.lists) header)
  where
    go : (good : Bool) → IsWithinRowLimit
        (if good then rows_coming con records (if long then Some stopped.TooLong else None)
        else fault_alone (Some cause.BadHeader))
    go true = rows-within con records long
    go false = (omega arith, λ e. cc)

text-within : (con : Constituency) (sep : Sep) (text : List ℕ) →
    IsWithinRowLimit (text_coming con sep text)
text-within con sep text =
    records-within con (text_records sep text) (nat_lt size_limit (length text))

own-within : (fault : Option ImportFault) →
    IsWithinRowLimit (fault_alone (option_map own_fault fault))
own-within None = (omega arith, λ e. cc)
own-within (Some cause.BadHeader) = (omega arith, λ e. cc)
own-within (Some cause.TooLong) = (omega arith, λ e. cc)
own-within (Some cause.Read) = (omega arith, λ e. cc)
own-within (Some cause.Memory) = (omega arith, λ e. cc)
own-within (Some cause.Store) = (omega arith, λ e. cc)

at-within : (con : Constituency) (sep : Sep) (came : ℕ) (ended : Option (Option ImportFault))
    (text : Option (List ℕ))
    → IfSome (option_map (coming_at con sep came ended) text) IsWithinRowLimit
at-within con sep came ended None = tt
at-within con sep came None (Some text) =
    let whole = text-within con sep text in
    (omega (arith, length-drop came (text_coming con sep text).rows, whole.0), whole.1)
at-within con sep came (Some fault) (Some text) = own-within fault

pub coming-within : (rows : ReturnRows) → IfSome (rows_to_come rows) IsWithinRowLimit
coming-within rows = at-within rows.con rows.sep rows.came rows.ended rows.text
