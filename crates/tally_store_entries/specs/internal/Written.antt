-- What a call writes: rows that are added, the row of a return, the numbers of a key.
use Rattle.std.specs.Prelude.{◌≡◌, ◌++◌, ℕ, List, [], length, map, filter, IsPermutation, Result}
use Rattle.std.specs.Prelude.{OnOk, ◌∷◌}
use Rattle.sqlite_value.specs.Order.{Row}
use Rattle.sqlite.specs.declared.error.Error.{Error}
use Rattle.sqlite.specs.State.{State as Seen, HasCleanDisk}
use Rattle.tally_store_schema.specs.Rows.{has_key}
use Rattle.tally_returns.specs.Counts.{VoteCounts}
use Rattle.tally_returns.specs.Return.{StationReturn}
use Rattle.tally_store_schema.specs.declared.table.KeyedTable.{KeyedTable}
use Rattle.tally_store_schema.specs.declared.table.KeyedTable.TheVariants.{Returns as Heads, Counts}
use Rattle.tally_store_schema.specs.Office.{rows_in, IsInside, HasRows, Replaces}
use Rattle.tally_store_rows.specs.Cells.{item_row, items_of, return_row, gone_row}
use Rattle.tally_returns.specs.GoneCandidate.{GoneCandidate}

-- the table has these rows in addition
abbrev pub Adds : KeyedTable → List Row → Seen → Seen → Type 0
Adds t rows old new = HasRows t (rows ++ rows_in t old) old new

-- What holds after a call that adds rows, where the disk returned what was written.
abbrev pub AddsRows : KeyedTable → List Row → Seen → Seen → Result Unit Error → Type 0
AddsRows t rows old new result = HasCleanDisk new → IsInside old → OnOk result (Adds t rows old new)

-- the row of a return of this constituency takes the place of the row of its station
abbrev pub ReplacesHead : List ℕ → StationReturn → Seen → Seen → Result Unit Error → Type 0
ReplacesHead station standing old new result =
    (con : List ℕ) (before : StationReturn) →
    Replaces Heads station (return_row con (station, before))
    (return_row con (station, standing)) old new result

-- the table has the rows of these numbers of a key, beside these rows
abbrev pub HasItems : KeyedTable → List ℕ → VoteCounts → List Row → Seen → Seen → Type 0
HasItems t key c rest old new = HasRows t (map (item_row key) (items_of c) ++ rest) old new

-- the numbers of the lists of a key are these, where it had rows for as many lists
abbrev pub SetsNumbers : KeyedTable → List ℕ → List ℕ → Seen → Seen → Result Unit Error → Type 0
SetsNumbers t key votes old new result =
    HasCleanDisk new → IsInside old → (c : VoteCounts) (rest : List Row) →
    length c.votes ≡ length votes → filter (has_key key) rest ≡ [] →
    IsPermutation (map (item_row key) (items_of c) ++ rest) (rows_in t old)
    → OnOk result (HasItems t key (record c { votes = votes }) rest old new)

-- and so are the blank and the spoiled ones
abbrev pub SetsItems : KeyedTable → List ℕ → VoteCounts → Seen → Seen → Result Unit Error → Type 0
SetsItems t key counts old new result =
    HasCleanDisk new → IsInside old → (c : VoteCounts) (rest : List Row) →
    length c.votes ≡ length counts.votes → filter (has_key key) rest ≡ [] →
    IsPermutation (map (item_row key) (items_of c) ++ rest) (rows_in t old)
    → OnOk result (HasItems t key counts rest old new)

abbrev pub HasCounts : List ℕ → VoteCounts → List Row → Seen → Seen → Type 0
HasCounts = HasItems Counts

abbrev pub SetsVotes : List ℕ → List ℕ → Seen → Seen → Result Unit Error → Type 0
SetsVotes = SetsNumbers Counts

abbrev pub SetsCounts : List ℕ → VoteCounts → Seen → Seen → Result Unit Error → Type 0
SetsCounts = SetsItems Counts

-- the row of a candidate who is gone
abbrev pub candidate_row : List ℕ → GoneCandidate → Row
candidate_row con gone = gone_row con (gone.list ∷ gone.place ∷ [], gone.note)
