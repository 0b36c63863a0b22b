-- In a lawful state each command is decided: its votes come to
-- something, and of that something is decided.
use Rattle.std.proofs.Common.{◌≡◌, ◌≤◌, ◌∷◌, ◌⊎◌, ℕ, zero, suc, List, [], Bool, true, false, Option, Some, None, Result, Err, get_or, length, refl, inl, inr, arith}
use Rattle.std.proofs.lemmas.Bool.{false≢true}
use Rattle.tally_setup.specs.Constituency.{Constituency}
use Rattle.tally_setup.specs.Limits.{IsSetup}
use Rattle.tally_setup.specs.Setup.{constituency_with}
use Rattle.tally_law.specs.Allotment.{Rule}
use Rattle.tally_law.specs.LotNeed.{IsDecidedByVotes, IsLotTaken, IsNeed}
use Rattle.tally_law.specs.Poll.{HasEligible, Poll}
use Rattle.tally_machine_law.specs.Certification.{Certifies, Draws, RefusedOr, seats_by_outcome, count_checks, lot_where_recorded, list_places}
use Rattle.tally_returns.specs.Checks.{first_refusal}
use Rattle.tally_machine_law.specs.Step.{ConChange, Decides, IsView, after_change, certified_with, change_of_result, lot_set, Answer, IsConStepSeen, IsStepSeen, IsStepSeenAt, answer, con_answer, after_return}
use Rattle.tally_machine_law.specs.LawfulState.{IsLawfulState}
use Rattle.tally_returns.specs.Named.{con_named}
use Rattle.tally_machine_law.specs.Outcome.{IsOutcome, HasLawfulLot, Outcome, allotted, lot_missing, nobody, poll_in, rule_in}
use Rattle.tally_returns.specs.State.{State}
use Rattle.tally_returns.specs.View.{View}
use Rattle.tally_returns.specs.declared.ask.Ask.{Ask}
use Rattle.tally_returns.specs.declared.ask.Ask.TheVariants.{Certify, Close, Confirm, Correct, Draw, Lodge, Query, Reopen, ShowCon, ShowProgress, ShowReturn, Vacate}
use Rattle.tally_returns.specs.declared.refusal.Refusal.{Refusal}
use Rattle.tally_returns.specs.declared.refusal.Refusal.TheVariants.{NoConstituency}
use Rattle.tally_machine_law.proofs.LawLemmas.{AllotmentLaws, seats-stand, view-stands}
use Rattle.tally_machine_law.proofs.NeedLemmas.{length-marks_60, marks_60, need-marked}
use Rattle.tally_machine_law.proofs.ViewLemmas.{constituency-limits, view-lawful}

-- some list is eligible, or none is
some_marked : (marks : List Bool) → ((l : ℕ) × (get_or marks l false ≡ true)) ⊎ ¬ ((l : ℕ) × (get_or marks l false ≡ true))
some_marked [] = inr (λ found. false≢true found.1)
some_marked (true ∷ marks) = inl (0, refl)
some_marked (false ∷ marks) = later (some_marked marks)
  where
    past : (l : ℕ) → get_or (false ∷ marks) l false ≡ true → (k : ℕ) × (get_or marks k false ≡ true)
    past zero is = absurd (false≢true is)
    past (suc l) is = (l, is)

    later : ((l : ℕ) × (get_or marks l false ≡ true)) ⊎ ¬ ((l : ℕ) × (get_or marks l false ≡ true)) → ((l : ℕ) × (get_or (false ∷ marks) l false ≡ true)) ⊎ ¬ ((l : ℕ) × (get_or (false ∷ marks) l false ≡ true))
    later (inl found) = inl (suc found.0, found.1)
    later (inr none) = inr (λ found. none (past found.0 found.1))

-- ---- what the votes come to

-- Where no lot is recorded, or one that may be, the votes come to something.
pub outcome-stands : AllotmentLaws → (con : Constituency) (view : View) → 1 ≤ con.seats → length view.votes ≤ 60 → (view.lot ≡ []) ⊎ HasLawfulLot con view → (outcome : Outcome) × IsOutcome con view outcome
outcome-stands laws con view some few lot = by_eligible (some_marked (poll_in con view).eligible)
  where
    rule : Rule
    rule = rule_in con

    poll : Poll
    poll = poll_in con view

    seated : HasEligible poll → IsLotTaken rule poll con.seats view.lot → (outcome : Outcome) × IsOutcome con view outcome
    seated has taken =
        let a = seats-stand laws con view some has taken in
        (allotted a.0, (has, taken, a.1))

    without : HasEligible poll → view.lot ≡ [] → IsDecidedByVotes rule poll con.seats ⊎ ((group : List Bool) × (in_question : ℕ) × IsNeed rule poll con.seats group in_question)
        → (outcome : Outcome) × IsOutcome con view outcome
    without has none (inl decided) = seated has (inl (decided, none))
    without has none (inr need) = (lot_missing (marks_60 need.0) need.1, (has, need-marked rule poll con.seats need.0 need.1 few need.2, none, length-marks_60 need.0))

    by_lot : HasEligible poll → (view.lot ≡ []) ⊎ HasLawfulLot con view → (outcome : Outcome) × IsOutcome con view outcome
    by_lot has (inl none) = without has none (laws.either con.profile view.votes view.blank con.seats some has)
    by_lot has (inr may) = seated has may.2

    by_eligible : HasEligible poll ⊎ ¬ HasEligible poll → (outcome : Outcome) × IsOutcome con view outcome
    by_eligible (inl has) = by_lot has lot
    by_eligible (inr none) = (nobody, none)

-- ---- what is decided of a command

refused-or_else : {X : Type 0} (refusal : Option Refusal) (P : Result X Refusal → Type 0) → ((result : Result X Refusal) × P result) → (result : Result X Refusal) × RefusedOr refusal P result
refused-or_else None P else = else
refused-or_else (Some e) P else = (Err e, refl)

certifies-stands : (con : Constituency) (view : View) (edition : ℕ) → ((outcome : Outcome) × IsOutcome con view outcome) → (seats : Result (List ℕ) Refusal) × Certifies con view edition seats
certifies-stands con view edition outcome =
    refused-or_else (first_refusal (count_checks view edition)) _ (seats_by_outcome outcome.0, (outcome.0, outcome.1, refl))

draws-stands : (con : Constituency) (view : View) (edition : ℕ) (order : List (List ℕ)) → ((outcome : Outcome) × IsOutcome con view outcome) → (places : Result (List ℕ) Refusal) × Draws con view edition order places
draws-stands con view edition order outcome =
    refused-or_else (first_refusal (count_checks view edition)) _ (lot_where_recorded view.lot outcome.0 (list_places con order), (outcome.0, outcome.1, refl))

pub decides-stands : (con : Constituency) (view : View) (code : List ℕ) (ask : Ask) → con_named ask ≡ Some code → ((outcome : Outcome) × IsOutcome con view outcome)
    → (decided : Result ConChange Refusal) × Decides con view ask decided
decides-stands con view code (Lodge station slip counts) named outcome = cc
decides-stands con view code (Query station rev note) named outcome = cc
decides-stands con view code (Correct station rev slip counts) named outcome = cc
decides-stands con view code (Close station rev) named outcome = cc
decides-stands con view code (Confirm station rev slip counts) named outcome = cc
decides-stands con view code (ShowReturn station) named outcome = cc
decides-stands con view code ShowProgress named outcome = cc
decides-stands con view code (Draw its edition order) named outcome =
    let places = draws-stands con view edition order.items outcome in
    (change_of_result lot_set places.0, (places.0, places.1, refl))
decides-stands con view code (Certify its edition) named outcome =
    let seats = certifies-stands con view edition outcome in
    (change_of_result certified_with seats.0, (seats.0, seats.1, refl))
decides-stands con view code (Reopen its edition note) named outcome = (_, refl)
decides-stands con view code (Vacate its list place note) named outcome = (_, refl)
decides-stands con view code (ShowCon its) named outcome = (_, refl)

-- In a lawful state something is decided of each command on a constituency.
pub command-decided : AllotmentLaws → (setup : List Constituency) (s : State) (code : List ℕ) (con : Constituency) (view : View) (ask : Ask) → IsSetup setup → IsLawfulState setup s → constituency_with code setup ≡ Some con → IsView con s view
    → con_named ask ≡ Some code → (decided : Result ConChange Refusal) × Decides con view ask decided
command-decided laws setup s code con view ask ok lawful is seen named =
    let its = view-lawful setup s code con view ok lawful is seen in
    let limits = constituency-limits setup code con ok is in
    decides-stands con view code ask named (outcome-stands laws con view limits.some_seat (omega (arith, its.fits.lists, limits.lists)) its.lawful.lot)

-- In a lawful state there is a step of each command.
pub step-stands : AllotmentLaws → (setup : List Constituency) (s : State) (ask : Ask) → IsSetup setup → IsLawfulState setup s → (t : State) × (seen_as : Result Answer Refusal) × IsStepSeen setup s ask seen_as t
step-stands laws setup s ask ok lawful = at (con_named ask) refl
  where
    at_con : (code : List ℕ) → con_named ask ≡ Some code → (found : Option Constituency) → constituency_with code setup ≡ found → (t : State) × (seen_as : Result Answer Refusal) × IsConStepSeen found s ask seen_as t
    at_con code named None is = (s, Err NoConstituency, (refl, refl))
    at_con code named (Some con) is =
        let view = view-stands laws setup s code con ok lawful is in
        let d = command-decided laws setup s code con view.0 ask ok lawful is view.1 named in
        (after_change s con.code d.0, con_answer view.0 d.0, (view.0, d.0, view.1, d.1, refl, refl))

    at : (named : Option (List ℕ)) → con_named ask ≡ named → (t : State) × (seen_as : Result Answer Refusal) × IsStepSeenAt named setup s ask seen_as t
    at None is = (after_return setup s ask, answer setup s ask, (refl, refl))
    at (Some code) is = at_con code is (constituency_with code setup) refl
