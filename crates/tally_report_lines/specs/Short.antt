-- The column of the votes that a list is short of one more seat.
use Rattle.std.specs.Prelude.{ℕ, Option, Some, None, List, codes}
use Rattle.tally_report_lines.specs.Columns.{number, right_cell}

-- a number of votes, and a dash where there is none
abbrev pub votes_column : Option ℕ → List ℕ
votes_column None = right_cell 12 (codes "-")
votes_column (Some votes) = number 12 votes
