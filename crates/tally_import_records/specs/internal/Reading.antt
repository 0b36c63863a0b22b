-- What a reader of a text in memory still gives.
use Rattle.std.specs.Prelude.{◌≡◌, ◌+◌, ◌∷◌, if◌then◌else◌, ℕ, Bool, true, false, List, [], length}
use Rattle.std.specs.Prelude.{Option, Some, None, IsSome}
use Rattle.csv.specs.Machine.{ends_at_end}
use Rattle.csv.specs.Reading.{Ready, source_of, is_flexible, reader_config, reader_state}
use Rattle.csv.specs.Reading.{reader_trim, records_from}
use Rattle.csv.specs.declared.reader.Reader.{Reader}
use Rattle.csv.specs.declared.reader.Trim.TheVariants as trim
use Rattle.tally_import_records.specs.internal.Text.{text_left}
use Rattle.tally_import_records.specs.declared.text.Text.{Text}

-- the bytes that it reads from
abbrev pub unread_bytes : Reader Text → Option (List ℕ)
unread_bytes reader = source_of text_left reader

abbrev pub records_read_from : Reader Text → Option (List ℕ) → List (List (List ℕ))
records_read_from reader None = []
records_read_from reader (Some text) =
    records_from (reader_config reader) (length text + 1) (reader_state reader) text

-- the records that it still gives
abbrev pub rows_left : Reader Text → List (List (List ℕ))
rows_left reader = records_read_from reader (unread_bytes reader)

-- it gives this record next, if it found one, and else none is left
abbrev pub GivesNextRecord : Reader Text → Reader Text → List (List ℕ) → Bool → Type 0
GivesNextRecord old new fields found =
    rows_left old ≡ (if found then fields ∷ rows_left new else [])

-- it is between two records, and reads the next one, of any length, just as it is, with no header
-- row of its own
pub record IsReading (reader : Reader Text) : Type 0 where
  pub untrimmed : reader_trim reader ≡ trim.None
  pub ready : Ready reader
  pub any_length : is_flexible reader ≡ true
  pub source : IsSome (unread_bytes reader)
  pub between : ends_at_end (reader_state reader) ≡ false
