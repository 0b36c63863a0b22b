-- Who holds each seat: of each list the candidates who hold its seats, with their places in the
-- list, and then its empty seats.
--
--     HOLDERS c1 Twin Town
--     A                   1 Ana
--     B                   - empty
--     B                   - empty
use Rattle.std.specs.Prelude.{ℕ, ◌+◌, ◌-◌, ◌++◌, List, [], length, slice_index, slice_index_or}
use Rattle.std.specs.Prelude.{codes}
use Rattle.std.specs.List.{flat_map, repeat}
use Rattle.tally_setup.specs.Constituency.{Constituency, ListEntry}
use Rattle.tally_returns.specs.View.{View}
use Rattle.tally_machine_law.specs.Certification.{gone_of}
use Rattle.tally_machine_law.specs.Holders.{holders}
use Rattle.tally_report_lines.specs.Columns.{code_width, heading, left_cell, line_end}
use Rattle.tally_report_lines.specs.Columns.{list_lines, number, right_cell}

-- the line of a candidate, at this place of the list from 1
abbrev pub holder_line : ListEntry → ℕ → List ℕ
holder_line list place =
    left_cell code_width list.code ++ number 5 place ++ codes " "
    ++ slice_index_or list.candidates (place - 1) [] ++ line_end

abbrev pub empty_line : ListEntry → List ℕ
empty_line list =
    left_cell code_width list.code ++ right_cell 5 (codes "-") ++ codes " " ++ codes "empty"
    ++ line_end

-- the lines of a list of this many seats that these hold
abbrev pub seat_lines : ListEntry → ℕ → List ℕ → List ℕ
seat_lines list seats held =
    flat_map (holder_line list) held ++ repeat (seats - length held) (empty_line list)

-- the same by the seats of a view and those who are gone
abbrev pub holder_lines : View → ℕ → ListEntry → List ℕ
holder_lines view place list =
    let seats = slice_index view.seats place in
    seat_lines list seats (holders (length list.candidates) seats (gone_of view (place + 1)))

abbrev pub holders_text : Constituency → View → List ℕ
holders_text con view = heading (codes "HOLDERS") con ++ list_lines (holder_lines view) con
