-- The values of which a result is made: a JSON value for each list, award, holder, candidate who is
-- gone and certificate that was reopened.
use Rattle.std.specs.Prelude.{ℕ, ◌+◌, ◌-◌, ◌++◌, List, [], ◌∷◌, Bool, false, map, codes, length}
use Rattle.std.specs.Prelude.{Option, Some, None, replicate, slice_index, slice_index_or}
use Rattle.std.specs.Prelude.{if◌then◌else◌}
use Rattle.serde_json.specs.Data.{Data, null, boolean, number, unsigned, string, array, object}
use Rattle.serde_json.specs.Data.{Members, member, no_members}
use Rattle.serde_json.specs.View.{items_of}
use Rattle.tally_setup.specs.Constituency.{Constituency, ListEntry}
use Rattle.tally_law.specs.HareAllotment.{whole_quotas, remainder}
use Rattle.tally_law.specs.Poll.{Poll}
use Rattle.tally_allot.specs.declared.award.Award.{Award}
use Rattle.tally_machine_law.specs.Certification.{gone_of}
use Rattle.tally_machine_law.specs.Holders.{holders}
use Rattle.tally_machine_law.specs.Outcome.{poll_in}
use Rattle.tally_returns.specs.GoneCandidate.{GoneCandidate}
use Rattle.tally_returns.specs.PastSeats.{PastSeats}
use Rattle.tally_returns.specs.View.{View}
use Rattle.tally_report.specs.AwardsText.{code_at_index}
use Rattle.tally_report.specs.EligibleAt.{is_eligible_at}
use Rattle.tally_report.specs.declared.status.ProvisionalStatus.{ProvisionalStatus}
use Rattle.tally_report.specs.declared.status.ProvisionalStatus.TheVariants as status
use Rattle.tally_report_result.specs.Parts.{ResultParts, shows_quotas}

-- ---- numbers and arrays

abbrev pub whole : ℕ → Data
whole n = number (unsigned n)

abbrev pub array_of : List Data → Data
array_of values = array (items_of values)

abbrev pub wholes : List ℕ → Data
wholes ns = array_of (map whole ns)

-- the values of each list of a constituency, one after the other in the order of the setup, made of
-- its place, from this one on, and the list
abbrev pub values_from : (ℕ → ListEntry → List Data) → ℕ → List ListEntry → List Data
values_from values place [] = []
values_from values place (list ∷ lists) =
    values place list ++ values_from values (place + 1) lists

abbrev pub list_values : (ℕ → ListEntry → List Data) → Constituency → List Data
list_values values con = values_from values 0 con.lists

-- ---- codes

-- the code of the list at a place, from 1
abbrev pub code_value : Constituency → ℕ → Data
code_value con place = string (code_at_index con (place - 1))

-- the codes of a lot, in its order
abbrev pub lot_value : Constituency → List ℕ → Data
lot_value con lot = array_of (map (code_value con) lot)

-- the code of a list, if it is one of a group
abbrev pub member_code : List Bool → ℕ → ListEntry → List Data
member_code group place list =
    if slice_index_or group place false then string list.code ∷ [] else []

-- the codes of the lists that a lot is needed among, and the seats that it decides
abbrev pub group_codes : Constituency → ProvisionalStatus → List Data
group_codes con status.Certified = []
group_codes con status.Open = []
group_codes con (status.LotNeeded group in_question) = list_values (member_code group) con
group_codes con status.NoEligible = []

abbrev pub seats_in_question : ProvisionalStatus → ℕ
seats_in_question status.Certified = 0
seats_in_question status.Open = 0
seats_in_question (status.LotNeeded group in_question) = in_question
seats_in_question status.NoEligible = 0

-- ---- lists

-- the seats of the certificate, and nothing where there is none
abbrev pub seats_value : View → ℕ → Data
seats_value view place = if view.certified then whole (slice_index view.seats place) else null

abbrev pub short_value : Option ℕ → Data
short_value None = null
short_value (Some votes) = whole votes

abbrev pub list_numbers : View → ResultParts → ℕ → Members
list_numbers view parts place =
    member (codes "provisional") (whole (slice_index parts.seats place))
    (member (codes "seats") (seats_value view place)
    (member (codes "short") (short_value (slice_index_or parts.short place None))
    (member (codes "votes") (whole (slice_index view.votes place)) no_members)))

-- a list, which is eligible or not
abbrev pub list_object : View → ResultParts → Bool → ℕ → ListEntry → Data
list_object view parts eligible place list =
    object (member (codes "code") (string list.code)
    (member (codes "eligible") (boolean eligible)
    (member (codes "name") (string list.name) (list_numbers view parts place))))

abbrev pub each_list : Constituency → View → ResultParts → ℕ → ListEntry → List Data
each_list con view parts place list =
    list_object view parts (is_eligible_at con view place) place list ∷ []

-- ---- awards and quotas

abbrev pub award_value : Constituency → Award → Data
award_value con award =
    array_of (code_value con award.list ∷ whole award.k ∷ whole award.num ∷ whole award.den ∷ [])

-- the quotas of an eligible list, which has this code and holds this many seats
abbrev pub quota_of : Poll → ℕ → ℕ → List ℕ → ℕ → Data
quota_of poll seats place code held =
    array_of (string code ∷ whole (whole_quotas poll seats place)
    ∷ whole (remainder poll seats place) ∷ whole held ∷ [])

-- the same of the list at a place; one that is not eligible has none
abbrev pub quota_value : Poll → ℕ → List ℕ → ℕ → ListEntry → List Data
quota_value poll seats held place list =
    if slice_index_or poll.eligible place false
    then quota_of poll seats place list.code (slice_index held place) ∷ []
    else []

abbrev pub quota_values : Constituency → View → ResultParts → List Data
quota_values con view parts =
    if shows_quotas con parts.status
    then list_values (quota_value (poll_in con view) con.seats parts.seats) con
    else []

-- ---- candidates

-- one who holds a seat, at this place of the list from 1
abbrev pub holder_value : ListEntry → ℕ → Data
holder_value list place =
    array_of (string list.code ∷ whole place
    ∷ string (slice_index_or list.candidates (place - 1) []) ∷ [])

abbrev pub empty_seat : ListEntry → Data
empty_seat list = array_of (string list.code ∷ null ∷ null ∷ [])

-- those of a list of this many seats that these hold, and its empty seats
abbrev pub seat_values : ListEntry → ℕ → List ℕ → List Data
seat_values list seats held =
    map (holder_value list) held ++ replicate (seats - length held) (empty_seat list)

-- the same by the seats of a view and those who are gone
abbrev pub holder_values : View → ℕ → ListEntry → List Data
holder_values view place list =
    let seats = slice_index view.seats place in
    seat_values list seats (holders (length list.candidates) seats (gone_of view (place + 1)))

abbrev pub all_holders : Constituency → View → List Data
all_holders con view = if view.certified then list_values (holder_values view) con else []

abbrev pub gone_value : Constituency → GoneCandidate → Data
gone_value con gone =
    array_of (code_value con gone.list ∷ whole gone.place ∷ string gone.note ∷ [])

-- ---- certificates that were reopened

abbrev pub past_value : PastSeats → Data
past_value past =
    object (member (codes "edition") (whole past.edition)
    (member (codes "seats") (wholes past.seats) no_members))
