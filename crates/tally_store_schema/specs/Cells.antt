-- How values are stored in rows.
use Rattle.std.specs.Prelude.{ℕ, pos, Bool, if◌then◌else◌, List, [], ◌∷◌}
use Rattle.sqlite_value.specs.declared.value.Value.TheVariants.{Null, Int, Text}
use Rattle.sqlite_value.specs.Order.{Row}

-- yes and no, as numbers
abbrev pub flag : Bool → ℕ
flag b = if b then 1 else 0

-- the row of `setup`: its id is the rowid 1, and is stored only there
abbrev pub setup_row : ℕ → List ℕ → Row
setup_row version text = Int (pos 1) ∷ Null ∷ Int (pos version) ∷ Text text ∷ []
