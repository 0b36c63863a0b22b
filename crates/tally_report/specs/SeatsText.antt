-- The seats of each list, and of the constituency.
--
--     SEATS c1 Twin Town
--     edition 3
--     A                   1 Alpha
--     B                   2 Beta
--     total               3
use Rattle.std.specs.Prelude.{ℕ, ◌++◌, List, slice_index, codes}
use Rattle.std.specs.Fmt.{decimal}
use Rattle.tally_setup.specs.Constituency.{Constituency, ListEntry}
use Rattle.tally_returns.specs.View.{View}
use Rattle.tally_report_lines.specs.Columns.{code_width, heading, left_cell, line_end}
use Rattle.tally_report_lines.specs.Columns.{list_lines, number}

-- the line of a list, by the seats of all
abbrev pub seats_line : List ℕ → ℕ → ListEntry → List ℕ
seats_line seats place list =
    left_cell code_width list.code ++ number 5 (slice_index seats place) ++ codes " " ++ list.name
    ++ line_end

-- the lines of a certificate: its edition, and the seats that it gives each list
abbrev pub certificate_lines : Constituency → ℕ → List ℕ → List ℕ
certificate_lines con edition seats =
    codes "edition " ++ decimal edition ++ line_end ++ list_lines (seats_line seats) con

abbrev pub seats_text : Constituency → View → List ℕ
seats_text con view =
    heading (codes "SEATS") con
    ++ certificate_lines con view.edition view.seats
    ++ left_cell code_width (codes "total") ++ number 5 con.seats ++ line_end
