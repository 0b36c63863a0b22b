-- What a recount counts: each row that would be lodged in a fresh office, as it is closed. The rows
-- of stations that are left out are passed over before anything is asked of them, but for those
-- that cannot be read.
use Rattle.std.specs.Prelude.{◌≡◌, if◌then◌else◌, not, ℕ, Bool, false, List, [], ◌∷◌, map, count_by}
use Rattle.std.specs.Prelude.{Option, Some, None, option_map, is_some}
use Rattle.std.specs.FinMap.{empty, get}
use Rattle.std.specs.List.{filter}
use Rattle.tally_setup.specs.Code.{is_code}
use Rattle.tally_setup.specs.Codes.{is_among_codes}
use Rattle.tally_setup.specs.Constituency.{Constituency, list_codes}
use Rattle.tally_setup.specs.Limits.{IsSetup}
use Rattle.tally_setup.specs.Setup.{constituency_with}
use Rattle.tally_setup.specs.declared.constituency.Station.{Station}
use Rattle.tally_returns.specs.Counts.{VoteCounts}
use Rattle.tally_returns.specs.Decide.{station_in}
use Rattle.tally_returns.specs.Return.{Returns}
use Rattle.tally_returns.specs.declared.ask.Ask.TheVariants.{Lodge}
use Rattle.tally_returns_rows.specs.Import.{RowAnswer, answers, is_lodged, returns_after_import}
use Rattle.tally_returns_rows.specs.declared.import.Row.{Row}
use Rattle.tally_returns_rows.specs.declared.import.Row.TheVariants as row
use Rattle.tally_import.specs.ReturnRows.{station_limits_in}
use Rattle.tally_import_votes.specs.Lot.{lot_places, words_given}
use Rattle.tally_report_allotment.specs.Recount.{Recounted}
use Rattle.tally_import_options.specs.WantedRecount.{Wanted}

-- The constituency is one of a setup, in which no two stations have one code.
abbrev pub IsOfSetup : Constituency → Type 0
IsOfSetup con = (setup : List Constituency) × (code : List ℕ)
    × IsSetup setup × (constituency_with code setup ≡ Some con)

-- ---- stations that are left out

-- The code of the first of some words that is not the code of a station; nothing in its place,
-- where the word is no code.
abbrev pub no_station : Constituency → List (List ℕ) → Option (Option (List ℕ))
no_station con [] = None
no_station con (word ∷ words) =
    if not (is_code word) then Some None
    else if is_some (station_in con word) then no_station con words
    else Some (Some word)

-- a row that can be read, of a station that these words name
abbrev pub is_left_out : List (List ℕ) → Row → Bool
is_left_out words (row.Lodge (Lodge station slip counts)) = is_among_codes station words
is_left_out words other = false

-- how many of these stations they name
abbrev pub count_named : List Station → List (List ℕ) → ℕ
count_named stations words =
    count_by (λ (station : Station). is_among_codes station.code words) stations

-- ---- what is counted

-- the rows that are judged
abbrev pub rows_judged : List (List ℕ) → List Row → List Row
rows_judged words rows = filter (λ r. not (is_left_out words r)) rows

-- the returns that they leave in a fresh office, and what they are answered there
abbrev pub returns_judged : Constituency → List (List ℕ) → List Row → Returns
returns_judged con words rows =
    returns_after_import (station_limits_in con) empty (rows_judged words rows)

abbrev pub answers_judged : Constituency → List (List ℕ) → List Row → List RowAnswer
answers_judged con words rows = answers (station_limits_in con) empty (rows_judged words rows)

abbrev pub is_passed : RowAnswer → Bool
is_passed answer = not (is_lodged answer)

-- the counts of the return of a station, where it has one
abbrev pub counts_in : Returns → Station → Option VoteCounts
counts_in returns station = option_map (λ standing. standing.counts) (get returns station.code)

-- What is counted of these rows: for each station the counts of its return, the number of stations
-- that are left out, and the number of rows that were judged and not lodged.
abbrev pub recounted_rows : Constituency → Wanted → List Row → Recounted
recounted_rows con w rows =
    let words = words_given w.without in
    record {
      returns = map (counts_in (returns_judged con words rows)) con.stations;
      without = count_named con.stations words;
      passed = count_by is_passed (answers_judged con words rows);
      lot = lot_places (list_codes con.lists) w.lot;
      awards = w.awards;
      decisive = w.decisive;
    }
