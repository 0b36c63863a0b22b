-- A row: a Lodge, or bad, with the cause.
use Rattle.std.specs.Prelude.{◌+◌, ◌-◌, ◌*◌, ◌==◌, ◌&&◌, if◌then◌else◌, not, ℕ, Bool, List, [], ◌∷◌}
use Rattle.std.specs.Prelude.{length, map, fold, nat_le, Option, Some, None, is_some}
use Rattle.std.specs.Char.{is_ascii_digit}
use Rattle.std.specs.List.{list_all}
use Rattle.tally_setup.specs.Code.{is_code}
use Rattle.tally_returns.specs.Lodge.{Stations}
use Rattle.tally_returns.specs.declared.ask.Ask.TheVariants as ask
use Rattle.tally_returns_rows.specs.declared.import.Row.{Row}
use Rattle.tally_returns_rows.specs.declared.import.Row.TheVariants.{Lodge, Bad}
use Rattle.tally_returns_rows.specs.declared.import.BadRow.TheVariants.{Fields, BadStation}
use Rattle.tally_returns_rows.specs.declared.import.BadRow.TheVariants.{NoStation}
use Rattle.tally_returns_rows.specs.declared.import.BadRow.TheVariants.{BadSlip, BadNumber}
use Rattle.tally_returns_rows.specs.declared.import.Column.TheVariants as column

-- 1 to 9 digits; leading zeros are allowed
abbrev pub is_number_text : List ℕ → Bool
is_number_text text =
    nat_le 1 (length text) && nat_le (length text) 9 && list_all is_ascii_digit text

-- the number that digits write
abbrev pub written_number : List ℕ → ℕ
written_number text = fold (λ n digit. 10 * n + (digit - 48)) 0 text

-- the place of the first text that is no number, where the first of them is at this place
abbrev pub first_unread : ℕ → List (List ℕ) → Option ℕ
first_unread place [] = None
first_unread place (text ∷ texts) =
    if is_number_text text then first_unread (place + 1) texts else Some place

-- a row, unless the number of the list at a place cannot be read
abbrev pub unless_unread : Option ℕ → Row → Row
unless_unread None row = row
unless_unread (Some place) row = Bad (BadNumber (column.List place))

-- The row that a record is, where these are the stations and there are this many lists: station,
-- slip, blank, spoiled and one number for each list. If it cannot be read it is bad, by the first
-- of the causes.
abbrev pub row_of : Stations → ℕ → List (List ℕ) → Row
row_of stations lists (station ∷ slip ∷ blank ∷ spoiled ∷ votes) =
    if not (length votes == lists) then Bad (Fields (4 + length votes))
    else if not (is_code station) then Bad BadStation
    else if not (is_some (stations station)) then Bad NoStation
    else if not (is_code slip) then Bad BadSlip
    else if not (is_number_text blank) then Bad (BadNumber column.Blank)
    else if not (is_number_text spoiled) then Bad (BadNumber column.Spoiled)
    else unless_unread (first_unread 0 votes) (Lodge (ask.Lodge station slip (record {
      votes = map written_number votes;
      blank = written_number blank;
      spoiled = written_number spoiled;
    })))
row_of stations lists fields = Bad (Fields (length fields))
