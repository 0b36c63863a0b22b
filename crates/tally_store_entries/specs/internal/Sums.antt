-- What setting numbers of a key does, where those that are moved by 0 are not written.
use Rattle.std.specs.Prelude.{◌≡◌, ◌++◌, ℕ, List, [], ◌∷◌, length, map, filter, slice_index}
use Rattle.std.specs.Prelude.{IsPermutation, Result, OnOk}
use Rattle.sqlite_value.specs.Order.{Row}
use Rattle.sqlite.specs.declared.error.Error.{Error}
use Rattle.sqlite.specs.State.{State as Seen, HasCleanDisk}
use Rattle.tally_store_schema.specs.Rows.{has_key}
use Rattle.tally_returns.specs.Counts.{VoteCounts}
use Rattle.tally_store_schema.specs.declared.table.KeyedTable.{KeyedTable}
use Rattle.tally_store_schema.specs.Office.{rows_in, HasRows, IsInside, is_item, item_cells}
use Rattle.tally_store_rows.specs.Cells.{item_row, items_of}
use Rattle.tally_store_entries.specs.internal.Written.{HasItems}

-- The number of an item of a key is this one, where it was that already or is moved by more than 0.
abbrev pub MovesItem : KeyedTable → List ℕ → ℕ → ℕ → ℕ → Seen → Seen → Result Unit Error → Type 0
MovesItem t key item by n old new result =
    HasCleanDisk new → IsInside old → (before : ℕ) (rest : List Row) → (by ≡ 0 → before ≡ n) →
    filter (is_item key item) rest ≡ [] →
    IsPermutation (item_cells key item before ∷ rest) (rows_in t old)
    → OnOk result (HasRows t (item_cells key item n ∷ rest) old new)

-- and so are the numbers of the lists of a key, where it had rows for as many lists
abbrev pub MovesNumbers : KeyedTable → List ℕ → List ℕ → List ℕ → Seen → Seen →
    Result Unit Error → Type 0
MovesNumbers t key by votes old new result =
    HasCleanDisk new → IsInside old → (c : VoteCounts) (rest : List Row) →
    length c.votes ≡ length votes
    → ((place : ℕ) → slice_index by place ≡ 0 → slice_index c.votes place ≡ slice_index votes place)
    → filter (has_key key) rest ≡ [] →
    IsPermutation (map (item_row key) (items_of c) ++ rest) (rows_in t old)
    → OnOk result (HasItems t key (record c { votes = votes }) rest old new)
