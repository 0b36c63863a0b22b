-- The rows of an import that were neither lodged nor there already, each by its number and with its
-- cause.
use Rattle.std.specs.Prelude.{◌≡◌, ◌+◌, ◌++◌, ℕ, List, [], ◌∷◌, Option, Some, None, Err}
use Rattle.tally_setup.specs.Constituency.{Constituency}
use Rattle.tally_returns.specs.Refusals.{refusal_number}
use Rattle.tally_returns.specs.State.{State, stations_of}
use Rattle.tally_returns.specs.declared.ask.Ask.TheVariants.{Lodge}
use Rattle.tally_returns_rows.specs.Import.{RowAnswer, answers}
use Rattle.tally_returns_rows.specs.Source.{AreAllGiven, Delivery}
use Rattle.tally_returns_rows.specs.declared.import.FirstRow.{FirstRow}
use Rattle.tally_returns_rows.specs.declared.import.Row.{Row}
use Rattle.tally_returns_rows.specs.declared.import.Row.TheVariants as row
use Rattle.tally_returns_rows.specs.declared.import.NamedRow.{NamedRow}
use Rattle.tally_returns_rows.specs.declared.import.RowCause.{RowCause}
use Rattle.tally_returns_rows.specs.declared.import.RowCause.TheVariants as cause

-- The row with this number and this answer, where it is named: a bad one with its cause, a refused
-- one with its station and its refusal.
abbrev pub named_row : ℕ → Row → RowAnswer → List NamedRow
named_row number (row.Bad why) answer = record { row = number; cause = cause.Bad why } ∷ []
named_row number (row.Lodge (Lodge station slip counts)) (Some (Err refusal)) =
    record { row = number; cause = cause.Refused station refusal } ∷ []
named_row number r answer = []

-- the number of a cause: that of the refusal, or 0 of a bad row
abbrev pub cause_number : RowCause → ℕ
cause_number (cause.Bad why) = 0
cause_number (cause.Refused station refusal) = refusal_number refusal

-- a row as the count of an import notes it
abbrev pub noted_row : NamedRow → FirstRow
noted_row named = record { row = named.row; number = cause_number named.cause }

-- the rows that are named, in order, where the first row of the list has this number
abbrev pub named_rows : ℕ → List Row → List RowAnswer → List NamedRow
named_rows number (r ∷ rows) (a ∷ answered) =
    named_row number r a ++ named_rows (number + 1) rows answered
named_rows number [] answered = []
named_rows number (r ∷ rows) [] = []

-- The rows that are named of an import of all rows that a source gave, added to a list: each row is
-- judged over what the rows before it lodge.
abbrev pub NamesRows : List Constituency → Option State → Delivery → List NamedRow
    → List NamedRow → Type 0
NamesRows setup (Some s) d before after = (rows : List Row) × AreAllGiven d rows
    × (after ≡ before ++ named_rows 1 rows (answers (stations_of setup) s.returns rows))
NamesRows setup None d before after = ⊥
