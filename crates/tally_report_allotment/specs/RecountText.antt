-- The text of a recount: how many stations there are, how many of their returns are counted and how
-- many stations are left out; the rows that were passed; the lines of an allotment of the votes of
-- the returns that are counted; and the stations whose return is decisive.
--
--     RECOUNT c1 Twin Town
--     stations 1 counted 1 without 0
--     passed 2
--     method dhondt seats 3
--     threshold 0 base valid rule fixed
--     lot -
--     valid 30 blank 0 spoiled 0
--     A                         10   33.33 in      1          11 Alpha
--     B                         20   66.66 in      2          10 Beta
--     total                     30                 3
--     next B
--     decisive s1
use Rattle.std.specs.Prelude.{◌≡◌, ℕ, ◌<◌, ◌++◌, ◌↔◌, Bool, true, false, List, [], Option, None}
use Rattle.std.specs.Prelude.{codes, if◌then◌else◌, is_some, length, slice_index, slice_index_or}
use Rattle.std.specs.Fmt.{decimal}
use Rattle.tally_setup.specs.Constituency.{Constituency, ListEntry}
use Rattle.tally_setup.specs.declared.constituency.Station.{Station}
use Rattle.tally_law.specs.Allotment.{IsAllotmentByVotes}
use Rattle.tally_law.specs.LotNeed.{IsAllotmentUnderLot}
use Rattle.tally_law.specs.Rules.{rule_of}
use Rattle.tally_returns.specs.Counts.{VoteCounts}
use Rattle.tally_report_lines.specs.Columns.{heading, line_end, lines_from}
use Rattle.tally_report_lines.specs.Votes.{valid_line}
use Rattle.tally_report_allotment.specs.AllotmentText.{AreDetailsBy, Details, closing_lines}
use Rattle.tally_report_allotment.specs.AllotmentText.{list_columns, method_part, terms_lines}
use Rattle.tally_report_allotment.specs.Question.{Question}
use Rattle.tally_report_allotment.specs.Recount.{Recounted, counted, poll_counted}
use Rattle.tally_report_allotment.specs.Recount.{question_counted, spoiled_counted, without_return}

-- ---- decisive stations

-- The return of the station at a place, from 0, is counted, and without it, the other votes as they
-- are, these seats are no allotment by the votes alone (LOREG article 113). Where no list is
-- eligible without it, they are none.
abbrev pub IsDecisive : Constituency → List (Option VoteCounts) → List ℕ → ℕ → Type 0
IsDecisive con returns a place =
    (is_some (slice_index_or returns place None) ≡ true)
    × ¬ IsAllotmentByVotes (rule_of con.profile) (poll_counted con (without_return returns place))
    con.seats a

-- a mark for each station, whether it is decisive
pub record AreDecisive (con : Constituency) (returns : List (Option VoteCounts)) (a : List ℕ)
    (marks : List Bool) : Type 0 where
  pub one_each : length marks ≡ length returns
  pub each : (place : ℕ) → place < length returns →
      (slice_index_or marks place false ≡ true) ↔ IsDecisive con returns a place

-- the line of a station that is decisive; another has none
abbrev pub decisive_line : List Bool → ℕ → Station → List ℕ
decisive_line marks place station =
    if slice_index_or marks place false then codes "decisive " ++ station.code ++ line_end else []

abbrev pub decisive_lines : Constituency → List Bool → List ℕ
decisive_lines con marks = lines_from (decisive_line marks) 0 con.stations

-- the lines of the stations that are decisive, in the order of the setup, where they are asked for
abbrev pub decisive_part : Constituency → Recounted → List Bool → List ℕ
decisive_part con r marks = if r.decisive then decisive_lines con marks else []

-- ---- the other lines

abbrev pub stations_line : Constituency → Recounted → List ℕ
stations_line con r =
    codes "stations " ++ decimal (length con.stations)
    ++ codes " counted " ++ decimal (length (counted r.returns))
    ++ codes " without " ++ decimal r.without ++ line_end

-- those before the lists, for the question of the votes that are counted
abbrev pub counted_lines : Constituency → Recounted → Question → List ℕ
counted_lines con r q =
    heading (codes "RECOUNT") con
    ++ stations_line con r
    ++ codes "passed " ++ decimal r.passed ++ line_end
    ++ codes "method " ++ method_part q
    ++ terms_lines q
    ++ valid_line q.votes q.blank (spoiled_counted r.returns)

-- the line of a list, with its name at the end
abbrev pub named_line : Question → List ℕ → Details → ℕ → ListEntry → List ℕ
named_line q a details place list =
    list_columns q details (slice_index a place) place list.code
    ++ codes " " ++ list.name ++ line_end

-- ---- the text

abbrev pub recount_lines : Constituency → Recounted → Question → List ℕ → Details → List Bool
    → List ℕ
recount_lines con r q a details marks =
    counted_lines con r q
    ++ lines_from (named_line q a details) 0 con.lists
    ++ closing_lines q a details r.awards
    ++ decisive_part con r marks

abbrev pub recount_text : Constituency → Recounted → List ℕ → Details → List Bool → List ℕ
recount_text con r a details marks = recount_lines con r (question_counted con r) a details marks

-- The text is that of the one allotment of the votes that are counted under the lot that is to be
-- taken, and of the stations that are decisive for its seats, where they are asked for.
pub record IsRecountText (con : Constituency) (r : Recounted) (text : List ℕ) : Type 0 where
  pub seats : List ℕ
  pub details : Details
  pub marks : List Bool
  pub allotment : IsAllotmentUnderLot (rule_of con.profile) (poll_counted con r.returns) r.lot
      con.seats seats
  pub found : AreDetailsBy (rule_of con.profile) (poll_counted con r.returns) r.lot con.seats
      r.awards seats details
  pub decisive : r.decisive ≡ true → AreDecisive con r.returns seats marks
  pub is : text ≡ recount_text con r seats details marks
