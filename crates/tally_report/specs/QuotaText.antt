-- The votes of the eligible lists together and the seats; and of each eligible list its votes, its
-- whole quotas, the remainder that they leave of its votes times the seats, and its seats.
--
--     QUOTA c1 Twin Town
--     votes 480000 seats 8
--     A                     168000    2          384000    3
--     E                      40000    0          320000    1
use Rattle.std.specs.Prelude.{ℕ, ◌++◌, false, List, [], slice_index, slice_index_or, if◌then◌else◌}
use Rattle.std.specs.Prelude.{codes}
use Rattle.tally_setup.specs.Constituency.{Constituency, ListEntry}
use Rattle.tally_law.specs.Poll.{Poll}
use Rattle.tally_returns.specs.View.{View}
use Rattle.tally_machine_law.specs.Outcome.{poll_in}
use Rattle.tally_report_lines.specs.Columns.{heading, list_lines}
use Rattle.tally_report_lines.specs.Quota.{quota_columns, quota_front}

-- the line of an eligible list; another list has none
abbrev pub quota_line : Poll → ℕ → View → ℕ → ListEntry → List ℕ
quota_line poll seats view place list =
    if slice_index_or poll.eligible place false
    then quota_columns poll seats place list.code (slice_index view.seats place)
    else []

abbrev pub quota_text : Constituency → View → List ℕ
quota_text con view =
    heading (codes "QUOTA") con
    ++ quota_front (poll_in con view) con.seats
    ++ list_lines (quota_line (poll_in con view) con.seats view) con
