-- Tables whose rows end with an item and its number.
use Rattle.std.specs.Prelude.{◌≡◌, ◌+◌, ℕ, pos, List, [], ◌∷◌}
use Rattle.sqlite_value.specs.declared.value.Value.TheVariants.{Int, Text}
use Rattle.sqlite_value.specs.Order.{Row}
use Rattle.tally_store_schema.specs.declared.numbered.NumberedTable.{NumberedTable}
use Rattle.tally_store_schema.specs.declared.numbered.NumberedTable.TheVariants as numbered
use Rattle.tally_store_schema.specs.declared.table.KeyedTable.{KeyedTable}
use Rattle.tally_store_schema.specs.declared.table.KeyedTable.TheVariants.{Counts, Lots, Seats}
use Rattle.tally_store_schema.specs.declared.table.KeyedTable.TheVariants.{Past}

abbrev pub keyed_table : NumberedTable → KeyedTable
keyed_table numbered.Counts = Counts
keyed_table numbered.Lots = Lots
keyed_table numbered.Seats = Seats
keyed_table numbered.Past = Past

-- each number after its item, counted from the first
abbrev pub pairs : ℕ → List ℕ → Row
pairs first [] = []
pairs first (n ∷ ns) = Int (pos first) ∷ Int (pos n) ∷ pairs (first + 1) ns

-- rows begin with a key, and in `past` with the edition after it
abbrev pub IsFront : NumberedTable → Row → Type 0
IsFront numbered.Past front =
    (con : List ℕ) × (edition : ℕ) × (front ≡ Text con ∷ Int (pos edition) ∷ [])
IsFront _ front = (key : List ℕ) × (front ≡ Text key ∷ [])
