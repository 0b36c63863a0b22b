-- The stations of a constituency, and what each has come to: which are still missing.
--
--     STATIONS c1 Twin Town
--     stations 1 missing 0 closed 1
--     s1                   300 closed       2 p1                   200       0       0
use Rattle.std.specs.Prelude.{ℕ, ◌++◌, Bool, false, List, codes, count_by, length, sum}
use Rattle.std.specs.Prelude.{not, is_some}
use Rattle.std.specs.Fmt.{decimal}
use Rattle.std.specs.List.{flat_map}
use Rattle.std.specs.Option.{option_map_or}
use Rattle.tally_setup.specs.Constituency.{Constituency}
use Rattle.tally_returns.specs.Progress.{is_closed}
use Rattle.tally_returns.specs.Return.{StationReturn, status_word}
use Rattle.tally_returns.specs.declared.station_row.StationRow.{StationRow}
use Rattle.tally_report_lines.specs.Columns.{code_width, heading, left_cell, line_end, number}

-- a return: its status, its revision, its slip, and the sum of its list votes, its blank and its
-- spoiled votes
abbrev pub return_columns : StationReturn → List ℕ
return_columns standing =
    left_cell 9 (status_word standing.status)
    ++ number 5 standing.rev
    ++ codes " "
    ++ left_cell code_width standing.slip
    ++ number 8 (sum standing.counts.votes)
    ++ number 8 standing.counts.blank
    ++ number 8 standing.counts.spoiled

-- a station: its code, its electors and its return, or `-`
abbrev pub station_line : StationRow → List ℕ
station_line row =
    left_cell code_width row.station
    ++ number 8 row.electors
    ++ codes " "
    ++ option_map_or return_columns row.found (codes "-")
    ++ line_end

abbrev pub is_missing : StationRow → Bool
is_missing row = not (is_some row.found)

abbrev pub is_closed_at : StationRow → Bool
is_closed_at row = option_map_or (λ (standing : StationReturn). is_closed standing.status) row.found
    false

-- how many stations there are, how many have no return, and how many a closed one
abbrev pub counts_line : List StationRow → List ℕ
counts_line rows =
    codes "stations " ++ decimal (length rows)
    ++ codes " missing " ++ decimal (count_by is_missing rows)
    ++ codes " closed " ++ decimal (count_by is_closed_at rows) ++ line_end

abbrev pub stations_text : Constituency → List StationRow → List ℕ
stations_text con rows =
    heading (codes "STATIONS") con ++ counts_line rows ++ flat_map station_line rows
