-- The text of an allotment: what seats were asked for, the votes and seats of each list, and the
-- list that is next.
--
--     ALLOT dhondt seats 3
--     threshold 0 base valid rule fixed
--     lot -
--     valid 30 blank 0
--     A                         10   33.33 in      1          11
--     B                         20   66.66 in      2          10
--     total                     30                 3
--     next B
use Rattle.std.specs.Prelude.{◌≡◌, ℕ, ◌+◌, ◌-◌, ◌++◌, Bool, true, false, List, [], ◌∷◌, Option}
use Rattle.std.specs.Prelude.{Some, None, codes, if◌then◌else◌, is_some, slice_index}
use Rattle.std.specs.Prelude.{slice_index_or, sum}
use Rattle.std.specs.Fmt.{decimal}
use Rattle.std.specs.List.{flat_map}
use Rattle.tally_setup.specs.Method.{divisor_rule_of}
use Rattle.tally_setup.specs.Threshold.{base_of}
use Rattle.tally_law.specs.Allotment.{Rule, divisors, hare}
use Rattle.tally_law.specs.LotNeed.{IsAllotmentUnderLot}
use Rattle.tally_law.specs.Poll.{Poll}
use Rattle.tally_allot.specs.Awards.{AreAwardsBy}
use Rattle.tally_allot.specs.Next.{IsNext}
use Rattle.tally_allot.specs.VotesShort.{AreVotesShort}
use Rattle.tally_allot.specs.declared.award.Award.{Award}
use Rattle.tally_report_lines.specs.Award.{award_columns}
use Rattle.tally_report_lines.specs.Columns.{code_width, left_cell, line_end, lines_from, number}
use Rattle.tally_report_lines.specs.Quota.{quota_columns, quota_front}
use Rattle.tally_report_lines.specs.Short.{votes_column}
use Rattle.tally_report_lines.specs.Votes.{vote_columns}
use Rattle.tally_report_lines.specs.Words.{base_word, lot_rule_word, method_word}
use Rattle.tally_report_allotment.specs.Question.{Question, poll_asked, rule_asked}

-- ---- the lines before the lists

-- the code of the list at a place from 1, after a space
abbrev pub code_at_place : List (List ℕ) → ℕ → List ℕ
code_at_place lists place = codes " " ++ slice_index_or lists (place - 1) []

-- the codes of a lot in its order, or a dash
abbrev pub lot_codes : List (List ℕ) → List ℕ → List ℕ
lot_codes lists [] = codes " -"
lot_codes lists (place ∷ places) = flat_map (code_at_place lists) (place ∷ places)

-- the line of the rule, but for its method, and of the lot
abbrev pub terms_lines : Question → List ℕ
terms_lines q =
    codes "threshold " ++ decimal q.profile.threshold ++ codes " base " ++ base_word q.profile.base
    ++ codes " rule " ++ lot_rule_word q.profile.lot ++ line_end
    ++ codes "lot" ++ lot_codes q.lists q.lot ++ line_end

-- the line of the valid votes, which are those of the lists and the blank ones
abbrev pub valid_votes_line : Question → List ℕ
valid_votes_line q =
    codes "valid " ++ decimal (sum q.votes + q.blank) ++ codes " blank " ++ decimal q.blank
    ++ line_end

-- the method and the seats, and the line's end
abbrev pub method_part : Question → List ℕ
method_part q = method_word q.profile.method ++ codes " seats " ++ decimal q.seats ++ line_end

abbrev pub opening_lines : Question → List ℕ
opening_lines q = codes "ALLOT " ++ method_part q ++ terms_lines q ++ valid_votes_line q

-- ---- what is found

-- The votes that each list is short of one more seat, the list that is next, by its number from 0,
-- and the awards. They are shown under a divisor rule.
pub record Details : Type 0 where
  pub short : List (Option ℕ)
  pub next : Option ℕ
  pub won : List Award

-- They are those of the definitions, beside these seats, and the awards where they are asked for.
pub record AreDetails (rule : Rule) (poll : Poll) (lot : List ℕ) (seats : ℕ) (awards : Bool)
    (a : List ℕ) (details : Details) : Type 0 where
  pub short : AreVotesShort rule poll lot seats details.short
  pub next : IsNext rule poll a details.next
  pub won : awards ≡ true → AreAwardsBy rule poll lot seats details.won

-- nothing is said of them under Hare's rule
abbrev pub AreDetailsBy : Rule → Poll → List ℕ → ℕ → Bool → List ℕ → Details → Type 0
AreDetailsBy (divisors nth unit lot_rule) poll lot seats awards a details =
    AreDetails (divisors nth unit lot_rule) poll lot seats awards a details
AreDetailsBy hare poll lot seats awards a details = Unit {0}

-- the rule has divisors
abbrev pub has_divisors : Question → Bool
has_divisors q = is_some (divisor_rule_of q.profile.method)

-- ---- the lines of the lists

abbrev pub short_part : Question → Details → ℕ → List ℕ
short_part q details place =
    if has_divisors q then votes_column (slice_index_or details.short place None) else []

-- the columns of the list at a place, from 0, which has this code and these seats
abbrev pub list_columns : Question → Details → ℕ → ℕ → List ℕ → List ℕ
list_columns q details seats place code =
    vote_columns code (slice_index q.votes place) (base_of q.profile.base q.votes q.blank)
    (slice_index_or (poll_asked q).eligible place false)
    ++ number 5 seats
    ++ short_part q details place

abbrev pub allot_line : Question → List ℕ → Details → ℕ → List ℕ → List ℕ
allot_line q a details place code =
    list_columns q details (slice_index a place) place code ++ line_end

abbrev pub total_line : Question → List ℕ
total_line q =
    left_cell code_width (codes "total") ++ number 12 (sum q.votes) ++ number 18 q.seats ++ line_end

-- ---- the lines after them

abbrev pub next_line : List (List ℕ) → Option ℕ → List ℕ
next_line lists None = codes "next -" ++ line_end
next_line lists (Some m) = codes "next" ++ code_at_place lists (m + 1) ++ line_end

abbrev pub next_part : Question → Details → List ℕ
next_part q details = if has_divisors q then next_line q.lists details.next else []

-- the line of an award, and that of a list's quotas, of which one that is not eligible has none
abbrev pub won_line : List (List ℕ) → ℕ → Award → List ℕ
won_line lists n award = award_columns (slice_index_or lists (award.list - 1) []) n award

abbrev pub quotas_of : Poll → ℕ → ℕ → List ℕ → ℕ → List ℕ
quotas_of poll seats place code held =
    if slice_index_or poll.eligible place false
    then quota_columns poll seats place code held
    else []

abbrev pub quotas_line : Poll → ℕ → List ℕ → ℕ → List ℕ → List ℕ
quotas_line poll seats a place code = quotas_of poll seats place code (slice_index a place)

abbrev pub quota_lines : Question → List ℕ → List ℕ
quota_lines q a =
    quota_front (poll_asked q) q.seats
    ++ lines_from (quotas_line (poll_asked q) q.seats a) 0 q.lists

-- the lines of the awards under a divisor rule, and those of the quotas under Hare's
abbrev pub won_lines : Question → List ℕ → Details → List ℕ
won_lines q a details =
    if has_divisors q then lines_from (won_line q.lists) 1 details.won else quota_lines q a

abbrev pub award_lines : Question → List ℕ → Details → Bool → List ℕ
award_lines q a details awards = if awards then won_lines q a details else []

abbrev pub closing_lines : Question → List ℕ → Details → Bool → List ℕ
closing_lines q a details awards =
    total_line q ++ next_part q details ++ award_lines q a details awards

-- ---- the text

abbrev pub allotment_text : Question → List ℕ → Details → Bool → List ℕ
allotment_text q a details awards =
    opening_lines q
    ++ lines_from (allot_line q a details) 0 q.lists
    ++ closing_lines q a details awards

-- The text is that of the one allotment under the lot that is to be taken, with its awards or
-- without.
pub record IsAllotmentText (q : Question) (awards : Bool) (text : List ℕ) : Type 0 where
  pub seats : List ℕ
  pub details : Details
  pub allotment : IsAllotmentUnderLot (rule_asked q) (poll_asked q) q.lot q.seats seats
  pub found : AreDetailsBy (rule_asked q) (poll_asked q) q.lot q.seats awards seats details
  pub is : text ≡ allotment_text q seats details awards
