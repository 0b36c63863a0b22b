-- The tally: how many stations there are and how many are closed, the votes of the closed returns,
-- and those of each list.
--
--     TALLY c1 Twin Town
--     stations 1 closed 1
--     valid 200 blank 0 spoiled 0
--     A                        100   50.00 in  Alpha
--     B                        100   50.00 in  Beta
use Rattle.std.specs.Prelude.{ℕ, ◌++◌, Bool, List, slice_index, codes}
use Rattle.std.specs.Fmt.{decimal}
use Rattle.tally_setup.specs.Constituency.{Constituency, ListEntry}
use Rattle.tally_setup.specs.Threshold.{base_of}
use Rattle.tally_returns.specs.View.{View}
use Rattle.tally_report.specs.EligibleAt.{is_eligible_at}
use Rattle.tally_report_lines.specs.Columns.{heading, line_end, list_lines}
use Rattle.tally_report_lines.specs.Votes.{valid_line, vote_columns}

-- the line of a list, from its votes, the base and whether it is eligible
abbrev pub tally_columns : ListEntry → ℕ → ℕ → Bool → List ℕ
tally_columns list votes base eligible =
    vote_columns list.code votes base eligible ++ list.name ++ line_end

abbrev pub tally_line : Constituency → View → ℕ → ListEntry → List ℕ
tally_line con view place list =
    tally_columns list (slice_index view.votes place)
    (base_of con.profile.base view.votes view.blank) (is_eligible_at con view place)

abbrev pub tally_text : Constituency → View → List ℕ
tally_text con view =
    heading (codes "TALLY") con
    ++ codes "stations " ++ decimal view.stations ++ codes " closed " ++ decimal view.closed
    ++ line_end
    ++ valid_line view.votes view.blank view.spoiled
    ++ list_lines (tally_line con view) con
