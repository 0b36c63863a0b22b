-- What closed votes and a lot come to, and the views that a lawful state has.
use Rattle.std.specs.Prelude.{◌≡◌, ◌≢◌, ◌<◌, ◌≤◌, ◌⊎◌, ◌&&◌, ◌-◌, ℕ, nat_le, Bool, true, false}
use Rattle.std.specs.Prelude.{List, [], All, length, slice_get, sum}
use Rattle.std.specs.Option.{option_map_or}
use Rattle.tally_frac.specs.Limits.{most_lists}
use Rattle.tally_setup.specs.Constituency.{Constituency, ListEntry}
use Rattle.tally_setup.specs.Limits.{most_stations}
use Rattle.tally_law.specs.Poll.{Poll, HasEligible}
use Rattle.tally_law.specs.Allotment.{Rule}
use Rattle.tally_law.specs.LotNeed.{IsLotNeeded, IsLotTaken, IsLotWrong, IsNeed}
use Rattle.tally_law.specs.LotNeed.{IsAllotmentUnderLot}
use Rattle.tally_law.specs.Rules.{rule_of, poll_of}
use Rattle.tally_returns.specs.GoneCandidate.{GoneCandidate}
use Rattle.tally_returns.specs.Lawful.{is_kept_note, is_note_or_empty}
use Rattle.tally_returns.specs.PastSeats.{PastSeats}
use Rattle.tally_returns.specs.State.{last_edition}
use Rattle.tally_returns.specs.View.{View, FitsView, HasEachList}

-- No list is eligible; or a lot among a group, given by a mark for each of 60 places, is needed for
-- this many seats, and none is recorded; or these are the seats of the lists.
pub data Outcome : Type 0 where
  nobody : Outcome
  lot_missing : List Bool → ℕ → Outcome
  allotted : List ℕ → Outcome

-- the rule of a constituency, and the poll of its closed votes
abbrev pub rule_in : Constituency → Rule
rule_in con = rule_of con.profile

abbrev pub poll_in : Constituency → View → Poll
poll_in con view = poll_of con.profile view.votes view.blank

abbrev pub IsOutcome : Constituency → View → Outcome → Type 0
IsOutcome con view nobody = ¬ HasEligible (poll_in con view)
IsOutcome con view (lot_missing group in_question) =
    HasEligible (poll_in con view)
    × IsNeed (rule_in con) (poll_in con view) con.seats group in_question
    × (view.lot ≡ []) × (length group ≡ most_lists)
IsOutcome con view (allotted seats) =
    IsAllotmentUnderLot (rule_in con) (poll_in con view) view.lot con.seats seats

-- where a constituency is certified its seats are those of the one allotment, and else none are
-- shown
abbrev pub HasSeats : Constituency → View → Bool → Type 0
HasSeats con view true = IsOutcome con view (allotted view.seats)
HasSeats con view false = view.seats ≡ []

-- all stations are closed, some list is eligible, and the lot that is recorded, if there is one, is
-- the one to be taken
abbrev pub HasLawfulLot : Constituency → View → Type 0
HasLawfulLot con view =
    (view.closed ≡ view.stations) × HasEligible (poll_in con view)
    × IsLotTaken (rule_in con) (poll_in con view) con.seats view.lot

-- What a certificate rests on: all stations are closed; the seats are those of the one allotment,
-- and exactly as many as there are; and a lot is recorded where one is needed.
pub record IsCertificate (con : Constituency) (view : View) : Type 0 where
  pub closed : view.closed ≡ view.stations
  pub allotment : IsAllotmentUnderLot (rule_in con) (poll_in con view) view.lot con.seats view.seats
  pub exactly : sum view.seats ≡ con.seats
  pub lot : IsLotNeeded (rule_in con) (poll_in con view) con.seats → view.lot ≢ []

-- a candidate of the constituency, by the place of the list and the candidate's own place there,
-- both from 1
abbrev pub is_candidate : Constituency → ℕ → ℕ → Bool
is_candidate con list place =
    nat_le 1 list
    && option_map_or (λ (l : ListEntry). nat_le 1 place && nat_le place (length l.candidates))
    (slice_get con.lists (list - 1)) false

-- One who is gone is a candidate of the constituency, and the note is kept.
pub record IsLawfulGone (con : Constituency) (gone : GoneCandidate) : Type 0 where
  pub candidate : is_candidate con gone.list gone.place ≡ true
  pub note : is_kept_note gone.note ≡ true

-- A certificate that was reopened is of an edition before this one, and gave the lists all the
-- seats together.
pub record IsLawfulPast (con : Constituency) (edition : ℕ) (past : PastSeats) : Type 0 where
  pub first : 1 ≤ past.edition
  pub before : past.edition < edition
  pub lists : HasEachList con past
  pub exactly : sum past.seats ≡ con.seats

-- What a constituency may have come to, by what is seen of it, either in a state or of rows that
-- were read, its seats aside: a lot is recorded only where all its stations are closed, some list
-- is eligible and the lot is the one to be taken; it is certified only where, besides, a lot is
-- recorded if one is needed; those who are gone are candidates; and its certificates that were
-- reopened are of earlier editions.
pub record IsLawfulCon (con : Constituency) (view : View) : Type 0 where
  pub first : 1 ≤ view.edition
  pub last : view.edition ≤ last_edition
  pub note : is_note_or_empty view.note ≡ true
  pub lot : (view.lot ≡ []) ⊎ HasLawfulLot con view
  pub certified : view.certified ≡ true → HasLawfulLot con view
  pub gone : All (IsLawfulGone con) view.gone
  pub past : All (IsLawfulPast con view.edition) view.past

-- A view that a constituency has in a lawful state.
pub record IsLawfulView (con : Constituency) (view : View) : Type 0 where
  pub fits : FitsView con view
  pub few : view.stations ≤ most_stations
  pub lawful : IsLawfulCon con view
  pub seats : HasSeats con view view.certified

-- The recorded lot is not the one to be taken. So it is in no lawful view, but it may be in one
-- that a database gave.
abbrev pub HasWrongLot : Constituency → View → Type 0
HasWrongLot con view = IsLotWrong (rule_in con) (poll_in con view) con.seats view.lot
