-- Draw, Certify, Reopen and Vacate: the checks of each in their order, and what it then sets.
use Rattle.std.specs.Prelude.{◌≡◌, ◌≢◌, ◌⊎◌, if◌then◌else◌, ◌+◌, ◌-◌, ◌==◌, ◌&&◌, not, ℕ, nat_le}
use Rattle.std.specs.Prelude.{Bool, true, false, List, [], ◌∷◌, length, map, slice_index, Option}
use Rattle.std.specs.Prelude.{Some, None, Result, Ok, Err, is_some, option_map}
use Rattle.std.specs.List.{list_all, filter}
use Rattle.std.specs.Str.{bytes_eq}
use Rattle.tally_setup.specs.Constituency.{Constituency, ListEntry}
use Rattle.tally_setup.specs.Text.{is_note}
use Rattle.tally_frac.specs.ListSet.{has_place}
use Rattle.tally_law.specs.Poll.{HasEligible}
use Rattle.tally_returns.specs.Checks.{check, check_found, first_refusal, refused_or}
use Rattle.tally_machine_law.specs.Holders.{is_among, holders, newcomer}
use Rattle.tally_returns.specs.GoneCandidate.{GoneCandidate}
use Rattle.tally_returns.specs.PastSeats.{PastSeats}
use Rattle.tally_returns.specs.State.{last_edition}
use Rattle.tally_returns.specs.View.{View}
use Rattle.tally_machine_law.specs.Outcome.{Outcome, nobody, lot_missing, allotted, HasWrongLot}
use Rattle.tally_machine_law.specs.Outcome.{IsOutcome, poll_in}
use Rattle.tally_returns.specs.declared.refusal.Refusal.{Refusal}
use Rattle.tally_returns.specs.declared.refusal.Refusal.TheVariants.{NoCandidate, BadNote}
use Rattle.tally_returns.specs.declared.refusal.Refusal.TheVariants.{Certified, NotCertified, Stale}
use Rattle.tally_returns.specs.declared.refusal.Refusal.TheVariants.{Exhausted, NotAllClosed}
use Rattle.tally_returns.specs.declared.refusal.Refusal.TheVariants.{NoEligible, LotStands}
use Rattle.tally_returns.specs.declared.refusal.Refusal.TheVariants.{LotNotNeeded, LotWrongGroup}
use Rattle.tally_returns.specs.declared.refusal.Refusal.TheVariants.{LotMissing, AlreadyGone}
use Rattle.tally_returns.specs.declared.refusal.Refusal.TheVariants.{NotHolder, Memory, Store}

-- the checks of Draw and of Certify before the votes are looked at
abbrev pub count_checks : View → ℕ → List (Option Refusal)
count_checks view edition =
    check (not view.certified) Certified
    ∷ check (view.edition == edition) (Stale view.edition)
    ∷ check (not (view.edition == last_edition)) Exhausted
    ∷ check (view.closed == view.stations) (NotAllClosed (view.stations - view.closed))
    ∷ []

-- Refused by a check, or else this.
abbrev pub RefusedOr : {X : Type 0} → Option Refusal → (Result X Refusal → Type 0)
    → Result X Refusal → Type 0
RefusedOr (Some refusal) Otherwise result = result ≡ Err refusal
RefusedOr None Otherwise result = Otherwise result

-- What is given for the outcome of the closed votes.
abbrev pub ByOutcome : Constituency → View → (Outcome → Result (List ℕ) Refusal)
    → Result (List ℕ) Refusal → Type 0
ByOutcome con view gives result =
    (outcome : Outcome) × IsOutcome con view outcome × (result ≡ gives outcome)

-- The same where the recorded lot may be wrong, as it is in no lawful view but may be in one
-- that a database gave. Then some list is eligible, the votes come to no outcome, and this is the
-- refusal.
abbrev pub ByOutcomeOrWrongLot : Constituency → View → (Outcome → Result (List ℕ) Refusal) → Refusal
    → Result (List ℕ) Refusal → Type 0
ByOutcomeOrWrongLot con view gives for_wrong_lot result =
    ByOutcome con view gives result
    ⊎ (HasEligible (poll_in con view) × HasWrongLot con view × (result ≡ Err for_wrong_lot))

-- Draw and Certify alike: the refusal of the first check that fails, or else what is given for the
-- outcome.
abbrev pub CountGives : Constituency → View → ℕ → (Outcome → Result (List ℕ) Refusal)
    → Result (List ℕ) Refusal → Type 0
CountGives con view edition gives =
    RefusedOr (first_refusal (count_checks view edition)) (ByOutcome con view gives)

-- A refusal of Draw or Certify other than Memory: that of the first check that fails, whatever
-- lot is recorded; or else the one that is given for the outcome, or this one where the lot is
-- wrong.
abbrev pub IsCountRefusal : Constituency → View → ℕ → (Outcome → Result (List ℕ) Refusal) → Refusal
    → Refusal → Type 0
IsCountRefusal con view edition gives for_wrong_lot refusal =
    refusal ≢ Memory
    → RefusedOr (first_refusal (count_checks view edition))
    (ByOutcomeOrWrongLot con view gives for_wrong_lot) (Err refusal)

-- ---- Certify

-- what Certify gives where the votes come to this: the seats of the lists
abbrev pub seats_by_outcome : Outcome → Result (List ℕ) Refusal
seats_by_outcome nobody = Err NoEligible
seats_by_outcome (lot_missing group in_question) = Err (LotMissing group in_question)
seats_by_outcome (allotted seats) = Ok seats

abbrev pub Certifies : Constituency → View → ℕ → Result (List ℕ) Refusal → Type 0
Certifies con view edition = CountGives con view edition seats_by_outcome

-- A refusal of Certify; where the recorded lot is wrong, the database that gave the view is
-- refused.
abbrev pub IsCertifyRefusal : Constituency → View → ℕ → Refusal → Type 0
IsCertifyRefusal con view edition = IsCountRefusal con view edition seats_by_outcome Store

-- ---- the list of a code

-- its place in the constituency, from 1, and how many candidates it has
pub record ListFound : Type 0 where
  pub place : ℕ
  pub candidates : ℕ

abbrev pub list_found_from : ℕ → List ℕ → List ListEntry → Option ListFound
list_found_from place code [] = None
list_found_from place code (list ∷ lists) =
    if bytes_eq code list.code
    then Some (record { place = place; candidates = length list.candidates })
    else list_found_from (place + 1) code lists

abbrev pub list_found : Constituency → List ℕ → Option ListFound
list_found con code = list_found_from 1 code con.lists

-- ---- Draw

-- the place of the list of a code, from 1
abbrev pub list_place : Constituency → List ℕ → Option ℕ
list_place con code = option_map (λ (list : ListFound). list.place) (list_found con code)

-- the places of the lists that an order names, where each is one
abbrev pub with_place : Option ℕ → Option (List ℕ) → Option (List ℕ)
with_place (Some place) (Some places) = Some (place ∷ places)
with_place (Some place) None = None
with_place None places = None

abbrev pub list_places : Constituency → List (List ℕ) → Option (List ℕ)
list_places con [] = Some []
list_places con (code ∷ order) = with_place (list_place con code) (list_places con order)

-- places that differ
abbrev pub are_distinct : List ℕ → Bool
are_distinct [] = true
are_distinct (place ∷ places) = not (is_among place places) && are_distinct places

-- the marks of a group, from its first place
abbrev pub marked_places_from : ℕ → List Bool → List ℕ
marked_places_from place [] = []
marked_places_from place (true ∷ marks) = place ∷ marked_places_from (place + 1) marks
marked_places_from place (false ∷ marks) = marked_places_from (place + 1) marks

-- the order names each list of the group once and no other
abbrev pub names_group : List Bool → List ℕ → Bool
names_group group places =
    list_all (has_place group) places && are_distinct places
    && list_all (λ place. is_among place places) (marked_places_from 1 group)

abbrev pub drawn_places : List Bool → Option (List ℕ) → Result (List ℕ) Refusal
drawn_places group None = Err (LotWrongGroup group)
drawn_places group (Some places) =
    if names_group group places then Ok places else Err (LotWrongGroup group)

-- what Draw gives where the votes come to this and no lot is recorded: the places of the lists in
-- the order drawn
abbrev pub lot_by_outcome : Outcome → Option (List ℕ) → Result (List ℕ) Refusal
lot_by_outcome nobody places = Err NoEligible
lot_by_outcome (lot_missing group in_question) places = drawn_places group places
lot_by_outcome (allotted seats) places = Err LotNotNeeded

-- and where a lot is recorded, which is looked at after the votes
abbrev pub lot_where_recorded : List ℕ → Outcome → Option (List ℕ) → Result (List ℕ) Refusal
lot_where_recorded [] outcome places = lot_by_outcome outcome places
lot_where_recorded (place ∷ lot) nobody places = Err NoEligible
lot_where_recorded (place ∷ lot) other places = Err LotStands

-- what Draw gives for an outcome, in this view and with this order
abbrev pub lot_in_view : Constituency → View → List (List ℕ) → Outcome → Result (List ℕ) Refusal
lot_in_view con view order outcome = lot_where_recorded view.lot outcome (list_places con order)

abbrev pub Draws : Constituency → View → ℕ → List (List ℕ) → Result (List ℕ) Refusal → Type 0
Draws con view edition order = CountGives con view edition (lot_in_view con view order)

-- A refusal of Draw. A recorded lot that is wrong is refused as any recorded lot is: by LotStands.
abbrev pub IsDrawRefusal : Constituency → View → ℕ → List (List ℕ) → Refusal → Type 0
IsDrawRefusal con view edition order =
    IsCountRefusal con view edition (lot_in_view con view order) LotStands

-- ---- Reopen

abbrev pub reopen_checks : View → ℕ → List ℕ → List (Option Refusal)
reopen_checks view edition note =
    check (is_note note) BadNote
    ∷ check view.certified NotCertified
    ∷ check (view.edition == edition) (Stale view.edition)
    ∷ check (not (view.edition == last_edition)) Exhausted
    ∷ []

-- the present certificate, as it is put on record
abbrev pub certificate_of : View → PastSeats
certificate_of view = record { edition = view.edition; seats = view.seats }

-- Reopen gives its note, and what is put on record.
abbrev pub reopen_result : View → ℕ → List ℕ → Result (List ℕ × PastSeats) Refusal
reopen_result view edition note =
    refused_or (first_refusal (reopen_checks view edition note)) (Ok (note, certificate_of view))

-- ---- Vacate

-- the list has a candidate at this place, from 1
abbrev pub has_candidate : ℕ → ListFound → Bool
has_candidate place list = nat_le 1 place && nat_le place list.candidates

-- the places of a list's candidates who are gone
abbrev pub gone_of : View → ℕ → List ℕ
gone_of view list =
    map (λ (g : GoneCandidate). g.place) (filter (λ (g : GoneCandidate). g.list == list) view.gone)

-- who holds the seats of the list
abbrev pub holders_of : View → ListFound → List ℕ → List ℕ
holders_of view list gone = holders list.candidates (slice_index view.seats (list.place - 1)) gone

abbrev pub vacate_checks : View → Option ListFound → ℕ → List ℕ → List (Option Refusal)
vacate_checks view found place note =
    check (is_some found) NoCandidate
    ∷ check_found found (has_candidate place) (λ list. NoCandidate)
    ∷ check (is_note note) BadNote
    ∷ check view.certified NotCertified
    ∷ check_found found (λ list. not (is_among place (gone_of view list.place)))
    (λ list. AlreadyGone)
    ∷ check_found found (λ list. is_among place (holders_of view list (gone_of view list.place)))
    (λ list. NotHolder)
    ∷ []

-- the candidate is gone, and this is the one who now moves in
abbrev pub vacancy : View → Option ListFound → ℕ → List ℕ
    → Result (GoneCandidate × Option ℕ) Refusal
vacancy view None place note = Err NoCandidate
vacancy view (Some list) place note = Ok (
  record { list = list.place; place = place; note = note },
  newcomer (holders_of view list (gone_of view list.place))
      (holders_of view list (place ∷ gone_of view list.place)),
)

-- Vacate gives the candidate who is gone, and the next.
abbrev pub vacate_result : Constituency → View → List ℕ → ℕ → List ℕ
    → Result (GoneCandidate × Option ℕ) Refusal
vacate_result con view code place note =
    let found = list_found con code in
    refused_or (first_refusal (vacate_checks view found place note)) (vacancy view found place note)
