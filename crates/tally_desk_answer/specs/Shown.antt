-- What is shown of a return and of a constituency, as JSON objects whose keys are in the order of
-- their bytes.
use Rattle.std.specs.Prelude.{ℕ, zero, suc, List, [], map, codes, option_map, unwrap_or}
use Rattle.std.specs.List.{slice_get}
use Rattle.serde_json.specs.Data.{Data, boolean, number, unsigned, string, array, object, Members}
use Rattle.serde_json.specs.Data.{member, no_members}
use Rattle.serde_json.specs.View.{items_of}
use Rattle.tally_setup.specs.Constituency.{Constituency, ListEntry}
use Rattle.tally_setup.specs.declared.constituency.Entry.{Entry}
use Rattle.tally_setup.specs.declared.constituency.Entry.TheVariants.{Single, Double}
use Rattle.tally_returns.specs.GoneCandidate.{GoneCandidate}
use Rattle.tally_returns.specs.Return.{StationReturn, status_word}
use Rattle.tally_returns.specs.View.{View}

abbrev pub whole_value : ℕ → Data
whole_value n = number (unsigned n)

abbrev pub whole_values : List ℕ → Data
whole_values ns = array (items_of (map whole_value ns))

-- the members of a return from that of its spoiled votes on
abbrev pub members_from_spoiled : List ℕ → StationReturn → Members
members_from_spoiled station kept =
    member (codes "spoiled") (whole_value kept.counts.spoiled)
    (member (codes "station") (string station)
    (member (codes "status") (string (status_word kept.status))
    (member (codes "votes") (whole_values kept.counts.votes) no_members)))

abbrev pub shown_return : List ℕ → StationReturn → Data
shown_return station kept =
    object (member (codes "blank") (whole_value kept.counts.blank)
    (member (codes "note") (string kept.note)
    (member (codes "rev") (whole_value kept.rev) (member (codes "slip") (string kept.slip)
    (members_from_spoiled station kept)))))

-- the code of the list at a place, from 1; a place without a list has none, and no lawful state has
-- such a place
abbrev pub code_at_place : List ListEntry → ℕ → List ℕ
code_at_place lists zero = []
code_at_place lists (suc l) =
    unwrap_or (option_map (λ (list : ListEntry). list.code) (slice_get lists l)) []

-- the codes of the lists at some places
abbrev pub codes_at_places : List ListEntry → List ℕ → Data
codes_at_places lists places =
    array (items_of (map (λ place. string (code_at_place lists place)) places))

abbrev pub shown_gone : List ListEntry → GoneCandidate → Data
shown_gone lists gone =
    object (member (codes "list") (string (code_at_place lists gone.list))
    (member (codes "note") (string gone.note)
    (member (codes "place") (whole_value gone.place) no_members)))

abbrev pub all_gone : List ListEntry → List GoneCandidate → Data
all_gone lists all = array (items_of (map (shown_gone lists) all))

-- the members of a constituency after those who are gone
abbrev pub members_after_gone : Constituency → View → Members
members_after_gone con v =
    member (codes "lot") (codes_at_places con.lists v.lot)
    (member (codes "note") (string v.note) (member (codes "seats") (whole_values v.seats)
    (member (codes "spoiled") (whole_value v.spoiled)
    (member (codes "stations") (whole_value v.stations)
    (member (codes "votes") (whole_values v.votes) no_members)))))

-- those up to its edition, and what follows, and then those who are gone
abbrev pub con_members : Constituency → View → (Members → Members) → Members
con_members con v following =
    member (codes "blank") (whole_value v.blank)
    (member (codes "certified") (boolean v.certified)
    (member (codes "closed") (whole_value v.closed) (member (codes "con") (string con.code)
    (member (codes "edition") (whole_value v.edition)
    (following (member (codes "gone") (all_gone con.lists v.gone)
    (members_after_gone con v)))))))

-- a constituency whose returns are entered twice says so
abbrev pub with_entry : Entry → Members → Members
with_entry Single members = members
with_entry Double members = member (codes "entry") (string (codes "double")) members

abbrev pub shown_con : Constituency → View → Data
shown_con con v = object (con_members con v (with_entry con.entry))
