-- The line of the valid votes, and the columns of a list's votes.
use Rattle.std.specs.Prelude.{ℕ, ◌+◌, ◌*◌, ◌/◌, ◌%◌, ◌++◌, ◌==◌, Bool, true, false, List}
use Rattle.std.specs.Prelude.{sum, if◌then◌else◌, codes}
use Rattle.std.specs.Fmt.{decimal}
use Rattle.tally_frac.specs.Limits.{whole_base}
use Rattle.tally_report_lines.specs.Columns.{code_width, left_cell, line_end, number, right_cell}

-- the line of the valid votes, which are those of the lists and the blank ones (LOREG article 96.5)
abbrev pub valid_line : List ℕ → ℕ → ℕ → List ℕ
valid_line votes blank spoiled =
    codes "valid " ++ decimal (sum votes + blank) ++ codes " blank " ++ decimal blank
    ++ codes " spoiled " ++ decimal spoiled ++ line_end

-- the votes' share in the base of the threshold, in hundredths of a per cent, rounded down; 0 where
-- there is no base
abbrev pub share : ℕ → ℕ → ℕ
share base votes = if base == 0 then 0 else (votes * whole_base) / base

-- hundredths as a number with two places after a point
abbrev pub hundredths : ℕ → List ℕ
hundredths n = decimal (n / 100) ++ codes "." ++ decimal (n / 10 % 10) ++ decimal (n % 10)

-- whether a list is eligible
abbrev pub in_or_out : Bool → List ℕ
in_or_out true = codes "in"
in_or_out false = codes "out"

-- the code of a list, its votes, their share in the base, and whether it is eligible
abbrev pub vote_columns : List ℕ → ℕ → ℕ → Bool → List ℕ
vote_columns code votes base eligible =
    left_cell code_width code
    ++ number 12 votes
    ++ right_cell 8 (hundredths (share base votes))
    ++ codes " "
    ++ left_cell 4 (in_or_out eligible)
