-- The records that a text in memory still has to give. No promise to a caller speaks of it.
use Rattle.std.specs.Prelude.{ℕ, Bool, true, false, List, ◌∷◌}
use Rattle.csv.specs.Records.{fields_of}
use Rattle.tally_import_records.specs.Input.{without_last}
use Rattle.tally_import_records.specs.internal.Reading.{IsReading, rows_left}
use Rattle.tally_import_records.specs.declared.text_records.TextRecords.{TextRecords}

-- the complete ones of what is left, the one ahead first where the text was stopped
abbrev pub complete_left : Bool → List (List ℕ) → List (List (List ℕ)) → List (List (List ℕ))
complete_left true ahead rows = rows
complete_left false ahead rows = without_last (ahead ∷ rows)

abbrev pub text_records_left : TextRecords → List (List (List ℕ))
text_records_left r =
    complete_left r.is_whole (fields_of r.rest.ahead) (rows_left r.rest.reader.reader.value)

-- more records can be asked for
abbrev pub IsReadingText : TextRecords → Type 0
IsReadingText r = IsReading r.rest.reader.reader.value
