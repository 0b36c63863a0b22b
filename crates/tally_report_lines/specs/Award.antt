-- The line of an award: its number, the list, which seat of the list it is, its quotient as a
-- fraction, and that rounded down.
use Rattle.std.specs.Prelude.{ℕ, ◌/◌, ◌++◌, List, codes}
use Rattle.tally_allot.specs.declared.award.Award.{Award}
use Rattle.tally_report_lines.specs.Columns.{code_width, left_cell, line_end, number}

-- the line of the n-th award, to the list of a code
abbrev pub award_columns : List ℕ → ℕ → Award → List ℕ
award_columns code n award =
    number 4 n
    ++ codes " "
    ++ left_cell code_width code
    ++ number 4 award.k
    ++ number 14 award.num
    ++ number 6 award.den
    ++ number 12 (award.num / award.den)
    ++ line_end
