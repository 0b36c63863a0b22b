-- The tables of a state: the rows that each entry of its maps has in each table, without their
-- rowids.
use Rattle.std.specs.Prelude.{◌+◌, ℕ, pos, List, [], ◌∷◌, ◌++◌, length, map, slice_index}
use Rattle.std.specs.List.{flat_map}
use Rattle.std.specs.Option.{option_map_or}
use Rattle.std.specs.FinMap.{entries}
use Rattle.sqlite_value.specs.declared.value.Value.TheVariants.{Int, Text}
use Rattle.sqlite_value.specs.Order.{Row}
use Rattle.tally_setup.specs.Constituency.{Constituency}
use Rattle.tally_setup.specs.Setup.{constituency_with, station_with}
use Rattle.tally_setup.specs.declared.constituency.Station.{Station}
use Rattle.tally_returns.specs.Counts.{VoteCounts}
use Rattle.tally_returns.specs.Return.{StationReturn, Returns}
use Rattle.tally_returns.specs.declared.returns.Status.{Status}
use Rattle.tally_returns.specs.declared.returns.Status.TheVariants.{Received, Queried, Corrected}
use Rattle.tally_returns.specs.declared.returns.Status.TheVariants.{Closed}
use Rattle.tally_returns.specs.State.{ConState}
use Rattle.tally_store_schema.specs.Cells.{flag}
use Rattle.tally_returns.specs.View.{closed_counts, votes_of_lists, blank_of, spoiled_of}

-- the number of a status
abbrev pub status_number : Status → ℕ
status_number Received = 1
status_number Queried = 2
status_number Corrected = 3
status_number Closed = 4

-- ---- rows of a key, an item and a number

abbrev pub item_row : List ℕ → ℕ × ℕ → Row
item_row key item = Text key ∷ Int (pos item.0) ∷ Int (pos item.1) ∷ []

-- each number with its place, counted from this one
abbrev pub numbers_with_places : ℕ → List ℕ → List (ℕ × ℕ)
numbers_with_places first [] = []
numbers_with_places first (n ∷ ns) = (first, n) ∷ numbers_with_places (first + 1) ns

-- the item of the spoiled votes: after those of 60 lists
abbrev pub spoiled_item : ℕ
spoiled_item = 61

-- the blank votes are item 0, those of a list are the item of its place, and the spoiled ones are
-- the last item
abbrev pub items_of : VoteCounts → List (ℕ × ℕ)
items_of counts =
    (0, counts.blank) ∷ numbers_with_places 1 counts.votes ++ (spoiled_item, counts.spoiled) ∷ []

-- ---- returns

-- the code of the constituency of a station
abbrev pub constituency_of : List Constituency → List ℕ → List ℕ
constituency_of setup station =
    option_map_or (λ (place : Constituency × Station). place.0.code) (station_with station setup) []

abbrev pub return_row : List ℕ → List ℕ × StationReturn → Row
return_row con e =
    Text e.0 ∷ Text con ∷ Int (pos e.1.rev) ∷ Text e.1.slip ∷ Int (pos (status_number e.1.status))
    ∷ Text e.1.note ∷ []

abbrev pub return_rows : List Constituency → List ℕ × StationReturn → List Row
return_rows setup e = return_row (constituency_of setup e.0) e ∷ []

abbrev pub count_rows : List ℕ × StationReturn → List Row
count_rows e = map (item_row e.0) (items_of e.1.counts)

-- ---- constituencies

abbrev pub con_rows : List ℕ × ConState → List Row
con_rows e =
    (Text e.0 ∷ Int (pos e.1.edition) ∷ Int (pos (flag e.1.certified)) ∷ Text e.1.note ∷ []) ∷ []

-- for each place of the lot, from 1, the place of its list in the setup
abbrev pub lot_rows : List ℕ × ConState → List Row
lot_rows e = map (item_row e.0) (numbers_with_places 1 e.1.lot)

-- for each list, by its place from 1, the seats that the certificate gave it; a constituency that
-- is not certified has no seats
abbrev pub seat_rows : (List ℕ → List ℕ) → List ℕ × ConState → List Row
seat_rows seats e = map (item_row e.0) (numbers_with_places 1 (seats e.0))

-- for each candidate who is gone, the place of the list, the candidate's own place there, and the
-- note
abbrev pub gone_row : List ℕ → List ℕ × List ℕ → Row
gone_row con entry =
    Text con ∷ Int (pos (slice_index entry.0 0)) ∷ Int (pos (slice_index entry.0 1)) ∷ Text entry.1
    ∷ []

abbrev pub gone_rows : List ℕ × ConState → List Row
gone_rows e = map (gone_row e.0) (entries e.1.gone)

-- the sums of the closed returns of a constituency
abbrev pub closed_totals : Returns → Constituency → VoteCounts
closed_totals returns con = record {
  votes = votes_of_lists (length con.lists) (closed_counts returns con.stations);
  blank = blank_of (closed_counts returns con.stations);
  spoiled = spoiled_of (closed_counts returns con.stations);
}

-- the same of the constituency of a code; none of no constituency
abbrev pub totals_of : List Constituency → Returns → List ℕ → VoteCounts
totals_of setup returns code =
    option_map_or (closed_totals returns) (constituency_with code setup)
    (record { votes = []; blank = 0; spoiled = 0 })

abbrev pub total_rows : List Constituency → Returns → List ℕ × ConState → List Row
total_rows setup returns e = map (item_row e.0) (items_of (totals_of setup returns e.0))

-- for each certificate that was reopened and each list, by its place from 1, the seats that it gave
-- the list
abbrev pub past_row : List ℕ → ℕ → ℕ × ℕ → Row
past_row con edition item = Text con ∷ Int (pos edition) ∷ Int (pos item.0) ∷ Int (pos item.1) ∷ []

abbrev pub record_rows : List ℕ → ℕ × List ℕ → List Row
record_rows con entry = map (past_row con entry.0) (numbers_with_places 1 entry.1)

abbrev pub past_rows : List ℕ × ConState → List Row
past_rows e = flat_map (record_rows e.0) (entries e.1.past)
