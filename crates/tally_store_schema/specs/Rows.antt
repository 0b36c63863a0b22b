-- The rows of a table, and the map whose entries they are.
use Rattle.std.specs.Prelude.{◌≡◌, ℕ, Bool, false, not, List, [], ◌∷◌, map, drop, filter, IsTrue}
use Rattle.std.specs.Prelude.{IsPermutation}
use Rattle.std.specs.List.{flat_map}
use Rattle.std.specs.declared.cmp.Ordering.{Ordering}
use Rattle.std.specs.Ordering.{is_eq, nat_cmp}
use Rattle.std.specs.Cmp.Lexicographic.{slice_cmp}
use Rattle.std.specs.FinMap.{FinMap, entries}
use Rattle.sqlite_value.specs.declared.value.Value.TheVariants.{Text}
use Rattle.sqlite_value.specs.Order.{Row, column, value_cmp}
use Rattle.sqlite_trees.specs.Tree.{rowid}
use Rattle.sqlite_trees.specs.View.{is_int}
use Rattle.sqlite_rules.specs.Edit.{is_taken}

-- texts in the order of their bytes
abbrev pub text_cmp : List ℕ → List ℕ → Ordering
text_cmp = slice_cmp nat_cmp

-- the columns of each row, without its rowid
abbrev pub cells : List Row → List Row
cells rows = map (drop 1) rows

-- the rows of a table are those of a map: for each entry the rows that it has, and no others, in
-- any order
pub record AreRowsOf {X : Type 0} (rows_of : List ℕ × X → List Row) (m : FinMap text_cmp X)
    (rows : List Row) : Type 0 where
  pub each : IsPermutation (flat_map rows_of (entries m)) (cells rows)

-- each row has an integer for its rowid, and no two rows have the same one
abbrev pub HaveDistinctRowids : List Row → Type 0
HaveDistinctRowids [] = Unit {0}
HaveDistinctRowids (r ∷ rows) =
    IsTrue (is_int (rowid r)) × (is_taken rows r ≡ false) × HaveDistinctRowids rows

-- the first column holds this key
abbrev pub has_key : List ℕ → Row → Bool
has_key k row = is_eq (value_cmp (column row 0) (Text k))

-- the rows that do not pass a test
abbrev pub without : (Row → Bool) → List Row → List Row
without p = filter (λ row. not (p row))

-- the rows of other keys
abbrev pub others : List ℕ → List Row → List Row
others k = without (has_key k)
