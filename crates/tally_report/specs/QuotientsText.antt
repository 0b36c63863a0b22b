-- The quotients of each eligible list, rounded down, up to one more than the most seats that a list
-- has. A star marks each at which the list won a seat.
--
--     QUOTIENTS c1 Twin Town
--     A               *        100          50          33
--     B               *        100*         50          33
use Rattle.std.specs.Prelude.{ℕ, ◌+◌, ◌*◌, ◌/◌, ◌++◌, nat_le, max, List, [], ◌∷◌, slice_index}
use Rattle.std.specs.Prelude.{if◌then◌else◌, codes}
use Rattle.std.specs.List.{flat_map, range_with_len}
use Rattle.tally_setup.specs.Constituency.{Constituency, ListEntry}
use Rattle.tally_law.specs.Allotment.{Rule, divisors, hare}
use Rattle.tally_returns.specs.View.{View}
use Rattle.tally_machine_law.specs.Outcome.{rule_in}
use Rattle.tally_report_lines.specs.Columns.{code_width, heading, left_cell, line_end}
use Rattle.tally_report.specs.EligibleAt.{is_eligible_at}
use Rattle.tally_report_lines.specs.Columns.{list_lines, number}

-- the greatest of these numbers
abbrev pub greatest_of : List ℕ → ℕ
greatest_of [] = 0
greatest_of (n ∷ ns) = max n (greatest_of ns)

-- the quotient of a list of this many votes and seats for its k-th seat: its votes, in the unit of
-- the divisors, over the k-th of them
abbrev pub quotient_column : (ℕ → ℕ) → ℕ → ℕ → ℕ → ℕ → List ℕ
quotient_column nth unit votes seats k =
    (if nat_le k seats then codes "*" else codes " ") ++ number 11 ((votes * unit) / nth k)

-- the line of an eligible list, up to the quotient of this seat; another list has none
abbrev pub quotients_line : (ℕ → ℕ) → ℕ → ℕ → Constituency → View → ℕ → ListEntry → List ℕ
quotients_line nth unit last con view place list =
    if is_eligible_at con view place
    then
    left_cell code_width list.code
    ++ flat_map
    (quotient_column nth unit (slice_index view.votes place) (slice_index view.seats place))
    (range_with_len 1 last)
    ++ line_end
    else []

-- the text by these divisors, in this unit
abbrev pub quotients_by : (ℕ → ℕ) → ℕ → Constituency → View → List ℕ
quotients_by nth unit con view =
    heading (codes "QUOTIENTS") con
    ++ list_lines (quotients_line nth unit (greatest_of view.seats + 1) con view) con

-- the text by the divisors of a rule; Hare's rule has no quotients, and no such report
abbrev pub quotients_of : Rule → Constituency → View → List ℕ
quotients_of (divisors nth unit lot_rule) con view = quotients_by nth unit con view
quotients_of hare con view = []

abbrev pub quotients_text : Constituency → View → List ℕ
quotients_text con view = quotients_of (rule_in con) con view
