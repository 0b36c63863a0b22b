-- The seats of each eligible list, and the votes that it is short of one more; a dash where it has
-- all seats.
--
--     SHORT c1 Twin Town
--     A                   1           1
--     B                   2         200
use Rattle.std.specs.Prelude.{◌≡◌, ℕ, ◌++◌, Option, None, List, [], slice_index}
use Rattle.std.specs.Prelude.{slice_index_or, if◌then◌else◌, codes}
use Rattle.tally_setup.specs.Constituency.{Constituency, ListEntry}
use Rattle.tally_allot.specs.VotesShort.{AreVotesShort}
use Rattle.tally_machine_law.specs.Outcome.{poll_in, rule_in}
use Rattle.tally_returns.specs.View.{View}
use Rattle.tally_report.specs.EligibleAt.{is_eligible_at}
use Rattle.tally_report_lines.specs.Columns.{code_width, heading, left_cell, line_end}
use Rattle.tally_report_lines.specs.Columns.{list_lines, number}
use Rattle.tally_report_lines.specs.Short.{votes_column}

-- the line of a list, from its seats and its number
abbrev pub short_columns : ListEntry → ℕ → Option ℕ → List ℕ
short_columns list seats short =
    left_cell code_width list.code ++ number 5 seats ++ votes_column short ++ line_end

-- the line of an eligible list; another list has none
abbrev pub short_line : Constituency → View → List (Option ℕ) → ℕ → ListEntry → List ℕ
short_line con view numbers place list =
    if is_eligible_at con view place
    then short_columns list (slice_index view.seats place) (slice_index_or numbers place None)
    else []

abbrev pub short_text : Constituency → View → List (Option ℕ) → List ℕ
short_text con view numbers =
    heading (codes "SHORT") con ++ list_lines (short_line con view numbers) con

-- These are the numbers of votes that the lists are short of one more seat, by the closed votes and
-- the lot.
abbrev pub AreVotesShortIn : Constituency → View → List (Option ℕ) → Type 0
AreVotesShortIn con view numbers =
    AreVotesShort (rule_in con) (poll_in con view) view.lot con.seats numbers

-- The text is that of the votes that the lists are short.
abbrev pub IsShortText : Constituency → View → List ℕ → Type 0
IsShortText con view text =
    (numbers : List (Option ℕ)) × AreVotesShortIn con view numbers
    × (text ≡ short_text con view numbers)
