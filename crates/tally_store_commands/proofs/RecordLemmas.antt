-- The certificates on record of a constituency decide nothing.
use Rattle.std.proofs.Common.{◌≡◌, List, Bool, true, false, Option, Some, None, Result, Ok, Err, ℕ, inl, inr, ap, refl, subst}
use Rattle.std.specs.Prelude.{string_bytes}
use Rattle.tally_setup.specs.Constituency.{Constituency}
use Rattle.tally_returns.specs.Checks.{first_refusal}
use Rattle.tally_returns.specs.GoneCandidate.{GoneCandidate}
use Rattle.tally_returns.specs.PastSeats.{PastSeats}
use Rattle.tally_returns.specs.State.{State}
use Rattle.tally_returns.specs.View.{View}
use Rattle.tally_returns.specs.declared.ask.Ask.{Ask}
use Rattle.tally_returns.specs.declared.ask.Ask.TheVariants.{Lodge, Query, Correct, Close, Confirm, ShowReturn, Draw, Certify, Reopen, Vacate, ShowCon, ShowProgress}
use Rattle.tally_returns.specs.declared.refusal.Refusal.{Refusal}
use Rattle.tally_returns.specs.declared.refusal.Refusal.TheVariants.{LotStands, Store}
use Rattle.tally_machine_law.specs.Certification.{ByOutcome, ByOutcomeOrWrongLot, CountGives, IsCountRefusal, RefusedOr, count_checks, lot_in_view, reopen_result, seats_by_outcome, vacate_result}
use Rattle.tally_machine_law.specs.Outcome.{IsOutcome, Outcome, allotted, lot_missing, nobody}
use Rattle.tally_machine_law.specs.Step.{Decides, IsConRefusal, IsView, certified_with, gone_for_good, lot_set, no_change, open_again, ConChange}
use Rattle.tally_machine_law.proofs.DecisionLemmas.{given-by}
use Rattle.tally_store_entries.specs.internal.Constituencies.{IsViewWith, with_past_of}
use Rattle.tally_store_commands.specs.internal.Seen.{shows_con}

-- ---- what is seen

-- with all that is on record it is the view of the state
pub whole-view : (with_past : Bool) (con : Constituency) (s : State) (view : View) → IsViewWith with_past con s view → IsView con s (with_past_of con s view)
whole-view true con s view seen =
    let same : view ≡ with_past_of con s view = ap (λ (p : List PastSeats). record view { past = p }) (ap (λ (v : View). v.past) seen.0) in
    subst (IsView con s) same seen
whole-view false con s view seen = seen.1

-- ---- what is decided

module _ (con : Constituency) (view : View) (past : List PastSeats) where
  same-outcome : (outcome : Outcome) → IsOutcome con view outcome → IsOutcome con (record view { past = past }) outcome
  same-outcome nobody is = is
  same-outcome (lot_missing group in_question) is = is
  same-outcome (allotted seats) is = is

  same-check : (refused : Option Refusal) (One Other : Result (List ℕ) Refusal → Type 0) (r : Result (List ℕ) Refusal) → (One r → Other r) → RefusedOr refused One r → RefusedOr refused Other r
  same-check (Some e) One Other r to is = is
  same-check None One Other r to is = to is

  same-count : (edition : ℕ) (gives : Outcome → Result (List ℕ) Refusal) (r : Result (List ℕ) Refusal) → CountGives con view edition gives r → CountGives con (record view { past = past }) edition gives r
  same-count edition gives r =
      same-check (first_refusal (count_checks view edition)) (ByOutcome con view gives) (ByOutcome con (record view { past = past }) gives) r
      (λ by. (by.0, same-outcome by.0 by.1, by.2))

  wrong-lot : (gives : Outcome → Result (List ℕ) Refusal) (ensured : Refusal) (r : Result (List ℕ) Refusal) → ByOutcomeOrWrongLot con view gives ensured r → ByOutcomeOrWrongLot con (record view { past = past }) gives ensured r
  wrong-lot gives ensured r (inl by) = inl (by.0, same-outcome by.0 by.1, by.2)
  wrong-lot gives ensured r (inr wrong) = inr wrong

  same-refusal : (edition : ℕ) (gives : Outcome → Result (List ℕ) Refusal) (ensured refusal : Refusal) → IsCountRefusal con view edition gives ensured refusal → IsCountRefusal con (record view { past = past }) edition gives ensured refusal
  same-refusal edition gives ensured refusal is = λ other.
      same-check (first_refusal (count_checks view edition)) (ByOutcomeOrWrongLot con view gives ensured) (ByOutcomeOrWrongLot con (record view { past = past }) gives ensured) (Err refusal) (wrong-lot gives ensured (Err refusal)) (is other)

  pub decides-whole : (ask : Ask) (decided : Result ConChange Refusal) → Decides con view ask decided → Decides con (record view { past = past }) ask decided
  decides-whole (Draw code edition order) decided is = (is.0, same-count edition (lot_in_view con view order.items) is.0 is.1, is.2)
  decides-whole (Certify code edition) decided is = (is.0, same-count edition seats_by_outcome is.0 is.1, is.2)
  decides-whole (Reopen code edition note) decided is = is
  decides-whole (Vacate code list place note) decided is = is
  decides-whole (ShowCon code) decided is = is
  decides-whole (Lodge station slip counts) decided is = absurd is
  decides-whole (Query station rev note) decided is = absurd is
  decides-whole (Correct station rev slip counts) decided is = absurd is
  decides-whole (Close station rev) decided is = absurd is
  decides-whole (Confirm station rev slip counts) decided is = absurd is
  decides-whole (ShowReturn station) decided is = absurd is
  decides-whole ShowProgress decided is = absurd is

  pub refusal-whole : (ask : Ask) (refusal : Refusal) → IsConRefusal con view ask refusal → IsConRefusal con (record view { past = past }) ask refusal
  refusal-whole (Draw code edition order) refusal is = same-refusal edition (lot_in_view con view order.items) LotStands refusal is
  refusal-whole (Certify code edition) refusal is = same-refusal edition seats_by_outcome Store refusal is
  refusal-whole (Reopen code edition note) refusal is = is
  refusal-whole (Vacate code list place note) refusal is = is
  refusal-whole (ShowCon code) refusal is = is
  refusal-whole (Lodge station slip counts) refusal is = is
  refusal-whole (Query station rev note) refusal is = is
  refusal-whole (Correct station rev slip counts) refusal is = is
  refusal-whole (Close station rev) refusal is = is
  refusal-whole (Confirm station rev slip counts) refusal is = is
  refusal-whole (ShowReturn station) refusal is = is
  refusal-whole ShowProgress refusal is = is

-- nothing changes only where the constituency is shown
pub shown-only : (con : Constituency) (view : View) (ask : Ask) → Decides con view ask (Ok no_change) → shows_con ask ≡ true
shown-only con view (ShowCon code) is = refl
shown-only con view (Draw code edition order) is = let by = given-by lot_set is.0 no_change is.2 in let e : no_change ≡ lot_set by.0 = by.2 in cc
shown-only con view (Certify code edition) is = let by = given-by certified_with is.0 no_change is.2 in let e : no_change ≡ certified_with by.0 = by.2 in cc
shown-only con view (Reopen code edition note) is =
    let by = given-by (λ (r : List ℕ × PastSeats). open_again r.0 r.1) (reopen_result view edition (string_bytes note)) no_change is in
    let e : no_change ≡ open_again by.0.0 by.0.1 = by.2 in cc
shown-only con view (Vacate code list place note) is =
    let by = given-by (λ (v : GoneCandidate × Option ℕ). gone_for_good v.0 v.1) (vacate_result con view list place (string_bytes note)) no_change is in
    let e : no_change ≡ gone_for_good by.0.0 by.0.1 = by.2 in cc
shown-only con view (Lodge station slip counts) is = absurd is
shown-only con view (Query station rev note) is = absurd is
shown-only con view (Correct station rev slip counts) is = absurd is
shown-only con view (Close station rev) is = absurd is
shown-only con view (Confirm station rev slip counts) is = absurd is
shown-only con view (ShowReturn station) is = absurd is
shown-only con view ShowProgress is = absurd is
