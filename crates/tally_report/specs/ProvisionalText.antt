-- The provisional seats: how many stations there are and how many are closed, the status, and the
-- seats of each list if these were all the votes. Where a lot is needed and none is recorded, the
-- line of the status says how many seats it decides, which no list has here, and among which lists.
--
--     PROVISIONAL c1 Twin Town
--     stations 1 closed 1
--     lot 1 A B
--     A                   1 Alpha
--     B                   1 Beta
--     total               2
use Rattle.std.specs.Prelude.{◌≡◌, ℕ, ◌++◌, false, Bool, List, [], slice_index_or, sum}
use Rattle.std.specs.Prelude.{if◌then◌else◌, codes}
use Rattle.std.specs.Fmt.{decimal}
use Rattle.tally_setup.specs.Constituency.{Constituency, ListEntry}
use Rattle.tally_returns.specs.View.{View}
use Rattle.tally_report_lines.specs.Columns.{code_width, heading, left_cell, line_end}
use Rattle.tally_report_lines.specs.Columns.{list_lines, number}
use Rattle.tally_report.specs.SeatsText.{seats_line}
use Rattle.tally_report.specs.ProvisionalSeats.{AreProvisionalSeats}
use Rattle.tally_report.specs.declared.status.ProvisionalStatus.{ProvisionalStatus}
use Rattle.tally_report.specs.declared.status.ProvisionalStatus.TheVariants.{Certified, Open}
use Rattle.tally_report.specs.declared.status.ProvisionalStatus.TheVariants.{LotNeeded, NoEligible}

abbrev pub stations_line : View → List ℕ
stations_line view =
    codes "stations " ++ decimal view.stations ++ codes " closed " ++ decimal view.closed
    ++ line_end

-- the code of the list at a place, if the list is one of a group
abbrev pub member : List Bool → ℕ → ListEntry → List ℕ
member group place list =
    if slice_index_or group place false then codes " " ++ list.code else []

-- the line of the status
abbrev pub status_line : Constituency → ProvisionalStatus → List ℕ
status_line con Certified = codes "certified\n"
status_line con Open = codes "open\n"
status_line con (LotNeeded group in_question) =
    codes "lot " ++ decimal in_question ++ list_lines (member group) con ++ line_end
status_line con NoEligible = codes "no_eligible\n"

abbrev pub total_line : List ℕ → List ℕ
total_line seats = left_cell code_width (codes "total") ++ number 5 (sum seats) ++ line_end

abbrev pub provisional_text : Constituency → View → ProvisionalStatus → List ℕ → List ℕ
provisional_text con view status seats =
    heading (codes "PROVISIONAL") con
    ++ stations_line view
    ++ status_line con status
    ++ list_lines (seats_line seats) con
    ++ total_line seats

-- The text is that of the provisional seats and their status.
abbrev pub IsProvisionalText : Constituency → View → List ℕ → Type 0
IsProvisionalText con view text =
    (status : ProvisionalStatus) × (seats : List ℕ) × AreProvisionalSeats con view status seats
    × (text ≡ provisional_text con view status seats)
