-- How far each constituency has come: its stations, those without a return, the returns received,
-- queried, corrected and closed, its edition, and whether it is certified.
--
--     c1                    1      1      0      0      0      0      1 open
use Rattle.std.specs.Prelude.{ℕ, ◌+◌, ◌-◌, ◌++◌, List, if◌then◌else◌, codes}
use Rattle.std.specs.List.{flat_map}
use Rattle.tally_returns.specs.declared.progress.ProgressRow.{ProgressRow}
use Rattle.tally_report_lines.specs.Columns.{code_width, left_cell, line_end, number}

abbrev pub progress_line : ProgressRow → List ℕ
progress_line row =
    left_cell code_width row.con
    ++ number 7 row.stations
    ++ number 7 (row.stations - (row.received + row.queried + row.corrected + row.closed))
    ++ number 7 row.received
    ++ number 7 row.queried
    ++ number 7 row.corrected
    ++ number 7 row.closed
    ++ number 7 row.edition
    ++ codes " "
    ++ (if row.certified then codes "certified" else codes "open")
    ++ line_end

abbrev pub progress_text : List ProgressRow → List ℕ
progress_text rows = flat_map progress_line rows
