-- Step: what a command is answered in a state, and the state that it leaves. What a command on a
-- return is refused for is in `Decide` of tally_returns, and what one on a constituency is refused
-- for in `Certification`.
use Rattle.std.specs.Prelude.{◌≡◌, ◌≢◌, ◌+◌, ◌∷◌, ◌⊎◌, ℕ, Bool, true, false, List, [], Option, Some}
use Rattle.std.specs.Prelude.{None, Result, Ok, Err, option_map, string_bytes}
use Rattle.std.specs.Option.{option_map_or}
use Rattle.std.specs.FinMap.{get, insert}
use Rattle.tally_setup.specs.Constituency.{Constituency}
use Rattle.tally_setup.specs.Setup.{constituency_with, station_with}
use Rattle.tally_setup.specs.declared.constituency.Station.{Station}
use Rattle.tally_returns.specs.Checks.{first_refusal, refused_or}
use Rattle.tally_returns.specs.Decide.{return_change, show_checks}
use Rattle.tally_returns.specs.GoneCandidate.{GoneCandidate}
use Rattle.tally_returns.specs.Lodge.{lodge_answer}
use Rattle.tally_returns.specs.Named.{con_named, station_named}
use Rattle.tally_returns.specs.PastSeats.{PastSeats}
use Rattle.tally_returns.specs.Progress.{progress}
use Rattle.tally_returns.specs.Return.{StationReturn}
use Rattle.tally_returns.specs.State.{State, ConState, con_state, stations_of}
use Rattle.tally_returns.specs.View.{View, view_of}
use Rattle.tally_returns.specs.declared.ask.Ask.{Ask}
use Rattle.tally_returns.specs.declared.ask.Ask.TheVariants.{Lodge, Query, ShowReturn, Draw}
use Rattle.tally_returns.specs.declared.ask.Ask.TheVariants.{Certify, Reopen, Vacate, ShowCon}
use Rattle.tally_returns.specs.declared.ask.Ask.TheVariants.{ShowProgress}
use Rattle.tally_returns.specs.declared.change.Change.{Change}
use Rattle.tally_returns.specs.declared.change.Change.TheVariants.{Same, PutReturn, SetLot}
use Rattle.tally_returns.specs.declared.change.Change.TheVariants.{SetCertified, SetReopened}
use Rattle.tally_returns.specs.declared.change.Change.TheVariants.{SetGone}
use Rattle.tally_returns.specs.declared.progress.ProgressRow.{ProgressRow}
use Rattle.tally_returns.specs.declared.refusal.Refusal.{Refusal}
use Rattle.tally_returns.specs.declared.refusal.Refusal.TheVariants.{NoConstituency, NoReturn}
use Rattle.tally_returns.specs.declared.refusal.Refusal.TheVariants.{Memory, Store}
use Rattle.tally_returns.specs.declared.reply.LodgeReply.{LodgeReply}
use Rattle.tally_returns.specs.declared.reply.LodgeReply.TheVariants as lodge
use Rattle.tally_returns.specs.declared.reply.Reply.{Reply}
use Rattle.tally_returns.specs.declared.reply.Reply.TheVariants as reply
use Rattle.tally_machine_law.specs.Certification.{Certifies, Draws, IsCertifyRefusal, IsDrawRefusal}
use Rattle.tally_machine_law.specs.Certification.{reopen_result, vacate_result}
use Rattle.tally_machine_law.specs.Outcome.{HasSeats}

-- ---- answers

-- what an accepted command is answered, as contracts see it
pub data Answer : Type 0 where
  lodged : ℕ → Answer
  same : ℕ → Answer
  moved : ℕ → Answer
  return_shown : StationReturn → Answer
  edition_now : ℕ → Answer
  vacated : Option ℕ → Answer
  con_shown : View → Answer
  progress_shown : List ProgressRow → Answer

abbrev pub answer_seen : Reply → Answer
answer_seen (reply.Lodged rev) = lodged rev
answer_seen (reply.Same rev) = same rev
answer_seen (reply.Moved rev) = moved rev
answer_seen (reply.Return standing) = return_shown standing
answer_seen (reply.Edition edition) = edition_now edition
answer_seen (reply.Vacated next) = vacated next
answer_seen (reply.Con view) = con_shown view
answer_seen (reply.Progress rows) = progress_shown rows.items

-- a reply or refusal, as contracts see it
abbrev pub reply_seen : Result Reply Refusal → Result Answer Refusal
reply_seen (Ok reply) = Ok (answer_seen reply)
reply_seen (Err refusal) = Err refusal

-- ---- commands on returns, and the one that shows how far constituencies have come

-- the code of the constituency that a station is in
abbrev pub con_of_station : List Constituency → List ℕ → Option (List ℕ)
con_of_station setup station =
    option_map (λ (place : Constituency × Station). place.0.code) (station_with station setup)

-- whether the constituency of a station is certified
abbrev pub is_certified : List Constituency → State → List ℕ → Bool
is_certified setup s station =
    option_map_or (λ code. (con_state s code).certified) (con_of_station setup station) false

-- what is decided of a command that names this station, or none
abbrev pub change_at_station : List Constituency → State → Ask → Option (List ℕ)
    → Result Change Refusal
change_at_station setup s ask None = Ok Same
change_at_station setup s ask (Some station) =
    return_change (stations_of setup station) (is_certified setup s station)
    (get s.returns station) ask

abbrev pub change_in_state : List Constituency → State → Ask → Result Change Refusal
change_in_state setup s ask = change_at_station setup s ask (station_named ask)

-- without the lot of this constituency
abbrev pub without_lot : State → Option (List ℕ) → State
without_lot s None = s
without_lot s (Some code) =
    record s { cons = insert s.cons code (record (con_state s code) { lot = [] }) }

-- a query takes the lot of the constituency with it
abbrev pub after_put : List Constituency → State → Ask → State
after_put setup s (Query station rev note) = without_lot s (con_of_station setup station)
after_put setup s other = s

-- the return is now recorded for the station
abbrev pub with_return : State → Option (List ℕ) → StationReturn → State
with_return s None standing = s
with_return s (Some station) standing = record s { returns = insert s.returns station standing }

-- the state after what was decided: a refusal leaves it
abbrev pub state_after : List Constituency → State → Ask → Result Change Refusal → State
state_after setup s ask (Ok (PutReturn standing)) =
    with_return (after_put setup s ask) (station_named ask) standing
state_after setup s ask other = s

-- the state that a command on a return leaves
abbrev pub after_return : List Constituency → State → Ask → State
after_return setup s ask = state_after setup s ask (change_in_state setup s ask)

-- what a Lodge is answered
abbrev pub lodge_reply : Result LodgeReply Refusal → Result Answer Refusal
lodge_reply (Ok (lodge.Lodged rev)) = Ok (lodged rev)
lodge_reply (Ok (lodge.Same rev)) = Ok (same rev)
lodge_reply (Err refusal) = Err refusal

-- What a command is answered that moves a return: the new revision. It is refused or puts one
-- (`ChangesOfReturnsAreSteps`), so the line for another change is never used.
abbrev pub move_reply : Result Change Refusal → Result Answer Refusal
move_reply (Ok (PutReturn standing)) = Ok (moved standing.rev)
move_reply (Ok other) = Err NoReturn
move_reply (Err refusal) = Err refusal

-- The recorded return. That there is one is a check that comes before, so the line for none is
-- never used.
abbrev pub return_reply : Option StationReturn → Result Answer Refusal
return_reply (Some standing) = Ok (return_shown standing)
return_reply None = Err NoReturn

-- what a command on a return is answered, or one that shows how far constituencies have come
abbrev pub answer : List Constituency → State → Ask → Result Answer Refusal
answer setup s (Lodge station slip counts) =
    lodge_reply (lodge_answer (stations_of setup) s.returns station slip counts)
answer setup s (ShowReturn station) =
    refused_or (first_refusal (show_checks (stations_of setup station) (get s.returns station)))
    (return_reply (get s.returns station))
answer setup s ShowProgress = Ok (progress_shown (progress setup s))
answer setup s ask = move_reply (change_in_state setup s ask)

-- A step on a return, or one that shows how far constituencies have come.
abbrev pub IsReturnStepSeen : List Constituency → State → Ask → Result Answer Refusal → State
    → Type 0
IsReturnStepSeen setup s ask seen_as t =
    (seen_as ≡ answer setup s ask) × (t ≡ after_return setup s ask)

-- ---- commands on constituencies

-- what a command on a constituency changes, as contracts see it: nothing; the lot, as the places of
-- its lists; it is certified, with these seats; it is open again, with this note, and its
-- certificate is on record; a candidate is gone, and another moves in or nobody
pub data ConChange : Type 0 where
  no_change : ConChange
  lot_set : List ℕ → ConChange
  certified_with : List ℕ → ConChange
  open_again : List ℕ → PastSeats → ConChange
  gone_for_good : GoneCandidate → Option ℕ → ConChange

-- a change as contracts see it, where it is none of a return
abbrev pub con_change : Change → Option ConChange
con_change Same = Some no_change
con_change (PutReturn standing) = None
con_change (SetLot places) = Some (lot_set places.items)
con_change (SetCertified seats) = Some (certified_with seats.items)
con_change (SetReopened note past) = Some (open_again (string_bytes note) past)
con_change (SetGone candidate next) = Some (gone_for_good candidate next)

abbrev pub change_of_result : {X : Type 0} → (X → ConChange) → Result X Refusal
    → Result ConChange Refusal
change_of_result change (Ok x) = Ok (change x)
change_of_result change (Err refusal) = Err refusal

-- What is decided of a command on a constituency with this view.
abbrev pub Decides : Constituency → View → Ask → Result ConChange Refusal → Type 0
Decides con view (Draw code edition order) decided =
    (places : Result (List ℕ) Refusal) × Draws con view edition order.items places
    × (decided ≡ change_of_result lot_set places)
Decides con view (Certify code edition) decided =
    (seats : Result (List ℕ) Refusal) × Certifies con view edition seats
    × (decided ≡ change_of_result certified_with seats)
Decides con view (Reopen code edition note) decided =
    decided ≡ change_of_result (λ (r : List ℕ × PastSeats). open_again r.0 r.1)
    (reopen_result view edition (string_bytes note))
Decides con view (Vacate code list place note) decided =
    decided ≡ change_of_result (λ (v : GoneCandidate × Option ℕ). gone_for_good v.0 v.1)
    (vacate_result con view list place (string_bytes note))
Decides con view (ShowCon code) decided = decided ≡ Ok no_change
Decides con view other decided = ⊥

-- A change that is decided of a command on a constituency.
abbrev pub IsConDecision : Constituency → View → Ask → Change → Type 0
IsConDecision con view ask change =
    (decided : ConChange) × (con_change change ≡ Some decided) × Decides con view ask (Ok decided)

-- A refusal other than Memory that is decided of a command on a constituency. Draw and Certify may
-- meet a lot that is wrong.
abbrev pub IsConRefusal : Constituency → View → Ask → Refusal → Type 0
IsConRefusal con view (Draw code edition order) refusal =
    IsDrawRefusal con view edition order.items refusal
IsConRefusal con view (Certify code edition) refusal = IsCertifyRefusal con view edition refusal
IsConRefusal con view other refusal = refusal ≢ Memory → Decides con view other (Err refusal)

-- This is what is seen of a constituency in a state: where it is certified, its seats are those of
-- the one allotment.
abbrev pub IsView : Constituency → State → View → Type 0
IsView con s view = (view ≡ view_of con s view.seats) × HasSeats con view view.certified

-- what the constituency has come to after a change
abbrev pub con_state_after : ConState → ConChange → ConState
con_state_after c no_change = c
con_state_after c (lot_set places) = record c { edition = c.edition + 1; lot = places }
con_state_after c (certified_with seats) = record c { edition = c.edition + 1; certified = true }
con_state_after c (open_again note past) = record c {
  edition = c.edition + 1;
  certified = false;
  note = note;
  past = insert c.past past.edition past.seats;
}
con_state_after c (gone_for_good candidate next) =
    record c { gone = insert c.gone (candidate.list ∷ candidate.place ∷ []) candidate.note }

-- the state in which the constituency of a code has come to this
abbrev pub with_con : State → List ℕ → ConState → State
with_con s code c = record s { cons = insert s.cons code c }

-- the state after what was decided: a refusal leaves it
abbrev pub after_change : State → List ℕ → Result ConChange Refusal → State
after_change s code (Ok no_change) = s
after_change s code (Ok change) = with_con s code (con_state_after (con_state s code) change)
after_change s code (Err refusal) = s

-- what a command on a constituency with this view is answered where this was decided of it
abbrev pub con_answer : View → Result ConChange Refusal → Result Answer Refusal
con_answer view (Ok no_change) = Ok (con_shown view)
con_answer view (Ok (gone_for_good candidate next)) = Ok (vacated next)
con_answer view (Ok other) = Ok (edition_now (view.edition + 1))
con_answer view (Err refusal) = Err refusal

-- A step on the constituency of a code, by its view: what is seen of its answer, and the state that
-- it leaves.
abbrev pub IsConStepSeen : Option Constituency → State → Ask → Result Answer Refusal → State
    → Type 0
IsConStepSeen None s ask seen_as t = (seen_as ≡ Err NoConstituency) × (t ≡ s)
IsConStepSeen (Some con) s ask seen_as t =
    (view : View) × (decided : Result ConChange Refusal) × IsView con s view
    × Decides con view ask decided
    × (seen_as ≡ con_answer view decided) × (t ≡ after_change s con.code decided)

-- ---- all commands

-- a step of a command that names this constituency, or none
abbrev pub IsStepSeenAt : Option (List ℕ) → List Constituency → State → Ask → Result Answer Refusal
    → State → Type 0
IsStepSeenAt None setup s ask seen_as t = IsReturnStepSeen setup s ask seen_as t
IsStepSeenAt (Some code) setup s ask seen_as t =
    IsConStepSeen (constituency_with code setup) s ask seen_as t

-- A step: what is seen of the answer to a command, and the state that it leaves.
abbrev pub IsStepSeen : List Constituency → State → Ask → Result Answer Refusal → State → Type 0
IsStepSeen setup s ask seen_as t = IsStepSeenAt (con_named ask) setup s ask seen_as t

-- the same of a reply or refusal
abbrev pub IsConStep : Option Constituency → State → Ask → Result Reply Refusal → State → Type 0
IsConStep found s ask r t = IsConStepSeen found s ask (reply_seen r) t

abbrev pub IsStep : List Constituency → State → Ask → Result Reply Refusal → State → Type 0
IsStep setup s ask r t = IsStepSeen setup s ask (reply_seen r) t

-- The request was not accepted: it was out of memory, or the store failed.
abbrev pub IsNotAccepted : Result Reply Refusal → Type 0
IsNotAccepted r = (r ≡ Err Memory) ⊎ (r ≡ Err Store)

-- A request is answered by a step, or is not accepted and changes nothing.
abbrev pub IsAnswered : List Constituency → State → Ask → Result Reply Refusal → State → Type 0
IsAnswered setup s ask r t = IsStep setup s ask r t ⊎ (IsNotAccepted r × (t ≡ s))
