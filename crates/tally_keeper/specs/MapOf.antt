-- Rows as a map.
use Rattle.std.specs.Prelude.{List, map}
use Rattle.std.specs.FinMap.{FinMap, from_entries}
use Rattle.std.specs.declared.cmp.Ordering.{Ordering}

-- the value of each row under its key
abbrev pub map_of : {K V X : Type 0} {R : K → K → Ordering} → (X → K) → (X → V) → List X
    → FinMap R V
map_of key value rows = from_entries (map (λ row. (key row, value row)) rows)
