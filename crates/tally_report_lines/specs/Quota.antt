-- The lines of quotas and remainders, under Hare's rule.
use Rattle.std.specs.Prelude.{ℕ, ◌++◌, List, codes}
use Rattle.std.specs.Fmt.{decimal}
use Rattle.tally_law.specs.HareAllotment.{whole_quotas, remainder}
use Rattle.tally_law.specs.Poll.{Poll, eligible_votes, votes_of}
use Rattle.tally_report_lines.specs.Columns.{code_width, left_cell, line_end, number}

-- the votes of the eligible lists together, and the seats
abbrev pub quota_front : Poll → ℕ → List ℕ
quota_front poll seats =
    codes "votes " ++ decimal (eligible_votes poll) ++ codes " seats " ++ decimal seats ++ line_end

-- the line of the list at a place, which has this code and holds this many seats
abbrev pub quota_columns : Poll → ℕ → ℕ → List ℕ → ℕ → List ℕ
quota_columns poll seats place code held =
    left_cell code_width code
    ++ number 12 (votes_of poll place)
    ++ number 5 (whole_quotas poll seats place)
    ++ number 16 (remainder poll seats place)
    ++ number 5 held
    ++ line_end
