-- The six lines of an import: how many of its rows were answered what.
use Rattle.std.specs.Prelude.{◌++◌, ℕ, List, [], ◌∷◌, Option, Some, None, codes}
use Rattle.std.specs.Fmt.{decimal}
use Rattle.tally_returns_rows.specs.declared.import.ImportCount.{ImportCount}
use Rattle.tally_returns_rows.specs.declared.import.FirstRow.{FirstRow}

-- a line of a name and a number
abbrev pub named_number : List ℕ → ℕ → List ℕ
named_number name n = name ++ 32 ∷ decimal n ++ 10 ∷ []

abbrev pub first_text : Option FirstRow → List ℕ
first_text None = codes "first -\n"
first_text (Some first) =
    codes "first " ++ decimal first.row ++ 32 ∷ decimal first.number ++ 10 ∷ []

-- the six lines of an import
abbrev pub count_text : ImportCount → List ℕ
count_text count =
    named_number (codes "lodged") count.lodged
    ++ named_number (codes "same") count.same
    ++ named_number (codes "differs") count.differs
    ++ named_number (codes "refused") count.refused
    ++ named_number (codes "bad") count.bad
    ++ first_text count.first
