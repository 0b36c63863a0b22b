-- The lines of a text's rows: one for each row that was neither lodged nor there already.
--
--     row 4 7 differs s2
--     row 5 0 bad_number A
--     row 6 6 too_many_votes s4
use Rattle.std.specs.Prelude.{◌++◌, ℕ, List, [], ◌∷◌, codes, slice_index_or}
use Rattle.std.specs.Fmt.{decimal}
use Rattle.std.specs.List.{flat_map}
use Rattle.tally_returns.specs.Refusals.{refusal_word}
use Rattle.tally_returns_rows.specs.NamedRows.{cause_number}
use Rattle.tally_returns_rows.specs.declared.import.BadRow.{BadRow}
use Rattle.tally_returns_rows.specs.declared.import.BadRow.TheVariants as bad
use Rattle.tally_returns_rows.specs.declared.import.Column.{Column}
use Rattle.tally_returns_rows.specs.declared.import.Column.TheVariants as column
use Rattle.tally_returns_rows.specs.declared.import.NamedRow.{NamedRow}
use Rattle.tally_returns_rows.specs.declared.import.RowCause.{RowCause}
use Rattle.tally_returns_rows.specs.declared.import.RowCause.TheVariants as cause

-- the name of a column in the header of these lists
abbrev pub column_name : List (List ℕ) → Column → List ℕ
column_name lists column.Blank = codes "blank"
column_name lists column.Spoiled = codes "spoiled"
column_name lists (column.List place) = slice_index_or lists place []

-- the word of a bad row, and what belongs to it
abbrev pub bad_words : List (List ℕ) → BadRow → List ℕ
bad_words lists (bad.Fields count) = codes "fields " ++ decimal count
bad_words lists bad.BadStation = codes "bad_station"
bad_words lists bad.NoStation = codes "no_station"
bad_words lists bad.BadSlip = codes "bad_slip"
bad_words lists (bad.BadNumber column) = codes "bad_number " ++ column_name lists column

-- the word of a cause: of a refusal, with the station's code
abbrev pub cause_words : List (List ℕ) → RowCause → List ℕ
cause_words lists (cause.Bad why) = bad_words lists why
cause_words lists (cause.Refused station refusal) = refusal_word refusal ++ 32 ∷ station

-- the row's number, and the number of its cause
abbrev pub row_numbers : NamedRow → List ℕ
row_numbers named =
    codes "row " ++ decimal named.row ++ 32 ∷ decimal (cause_number named.cause) ++ 32 ∷ []

abbrev pub row_line : List (List ℕ) → NamedRow → List ℕ
row_line lists named = row_numbers named ++ cause_words lists named.cause ++ 10 ∷ []

abbrev pub row_lines : List (List ℕ) → List NamedRow → List ℕ
row_lines lists named = flat_map (row_line lists) named
