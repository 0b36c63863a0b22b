-- What votes and a lot come to is one, and so is what is decided of a command, and a step.
use Rattle.std.proofs.Common.{◌≡◌, ◌∙◌, ℕ, List, Option, Some, None, Result, refl, sym, ap, subst}
use Rattle.tally_setup.specs.Constituency.{Constituency}
use Rattle.tally_setup.specs.Limits.{IsSetup}
use Rattle.tally_setup.specs.Setup.{constituency_with}
use Rattle.tally_machine_law.specs.Certification.{ByOutcome, Certifies, Draws, RefusedOr, seats_by_outcome, count_checks, lot_in_view, lot_where_recorded, list_places}
use Rattle.tally_returns.specs.Checks.{first_refusal}
use Rattle.tally_machine_law.specs.Step.{ConChange, Decides, after_change, certified_with, change_of_result, lot_set, Answer, IsConStepSeen, IsStepSeen, IsStepSeenAt, con_answer}
use Rattle.tally_machine_law.specs.Outcome.{IsOutcome, Outcome, allotted, lot_missing, nobody, poll_in, rule_in}
use Rattle.tally_returns.specs.Named.{con_named}
use Rattle.tally_returns.specs.State.{State}
use Rattle.tally_returns.specs.View.{View}
use Rattle.tally_returns.specs.declared.ask.Ask.{Ask}
use Rattle.tally_returns.specs.declared.ask.Ask.TheVariants.{Certify, Close, Confirm, Correct, Draw, Lodge, Query, Reopen, ShowCon, ShowProgress, ShowReturn, Vacate}
use Rattle.tally_returns.specs.declared.refusal.Refusal.{Refusal}
use Rattle.tally_machine_law.proofs.LawLemmas.{AllotmentLaws, lot-stands, view-one}
use Rattle.tally_machine_law.proofs.NeedLemmas.{need-one}
use Rattle.tally_machine_law.proofs.ViewLemmas.{constituency-limits}

-- ---- votes

-- the votes and the lot come to one thing
outcome-one : AllotmentLaws → (setup : List Constituency) (code : List ℕ) (con : Constituency) (view : View) (a b : Outcome) → IsSetup setup → constituency_with code setup ≡ Some con → IsOutcome con view a → IsOutcome con view b → a ≡ b
outcome-one laws setup code con view nobody nobody ok is first second = refl
outcome-one laws setup code con view nobody (lot_missing group n) ok is first second = absurd (first second.0)
outcome-one laws setup code con view nobody (allotted seats) ok is first second = absurd (first second.0)
outcome-one laws setup code con view (lot_missing group n) nobody ok is first second = absurd (second first.0)
outcome-one laws setup code con view (lot_missing group m) (lot_missing other n) ok is first second =
    let one = need-one (rule_in con) (poll_in con view) con.seats group other m n first.3 second.3 first.1 second.1 in λ i. lot_missing (one.0 i) (one.1 i)
outcome-one laws setup code con view (lot_missing group n) (allotted seats) ok is first second =
    absurd (lot-stands laws con view (constituency-limits setup code con ok is).some_seat second.1 first.1.needed first.2)
outcome-one laws setup code con view (allotted seats) nobody ok is first second = absurd (second first.0)
outcome-one laws setup code con view (allotted seats) (lot_missing group n) ok is first second =
    absurd (lot-stands laws con view (constituency-limits setup code con ok is).some_seat first.1 second.1.needed second.2)
outcome-one laws setup code con view (allotted seats) (allotted other) ok is first second =
    ap allotted (laws.unique con.profile view.votes view.blank view.lot con.seats seats other first.2 second.2)

-- ---- decisions

refused-one : {X : Type 0} (refusal : Option Refusal) (P : Result X Refusal → Type 0) (a b : Result X Refusal) → ((x y : Result X Refusal) → P x → P y → x ≡ y) → RefusedOr refusal P a → RefusedOr refusal P b → a ≡ b
refused-one None P a b one first second = one a b first second
refused-one (Some e) P a b one first second = first ∙ sym second

certifies-one : AllotmentLaws → (setup : List Constituency) (code : List ℕ) (con : Constituency) (view : View) (edition : ℕ) (a b : Result (List ℕ) Refusal) → IsSetup setup → constituency_with code setup ≡ Some con
    → Certifies con view edition a → Certifies con view edition b → a ≡ b
certifies-one laws setup code con view edition a b ok is =
    refused-one (first_refusal (count_checks view edition)) (ByOutcome con view seats_by_outcome) a b
    (λ x y first second. first.2 ∙ ap seats_by_outcome (outcome-one laws setup code con view first.0 second.0 ok is first.1 second.1) ∙ sym second.2)

draws-one : AllotmentLaws → (setup : List Constituency) (code : List ℕ) (con : Constituency) (view : View) (edition : ℕ) (order : List (List ℕ)) (a b : Result (List ℕ) Refusal) → IsSetup setup → constituency_with code setup ≡ Some con
    → Draws con view edition order a → Draws con view edition order b → a ≡ b
draws-one laws setup code con view edition order a b ok is =
    refused-one (first_refusal (count_checks view edition)) (ByOutcome con view (lot_in_view con view order)) a b
    (λ x y first second. first.2 ∙ ap (λ (o : Outcome). lot_where_recorded view.lot o (list_places con order)) (outcome-one laws setup code con view first.0 second.0 ok is first.1 second.1) ∙ sym second.2)

-- at most one thing is decided of a command
pub decides-one : AllotmentLaws → (setup : List Constituency) (code : List ℕ) (con : Constituency) (view : View) (ask : Ask) (a b : Result ConChange Refusal) → IsSetup setup → constituency_with code setup ≡ Some con
    → Decides con view ask a → Decides con view ask b → a ≡ b
decides-one laws setup code con view (Draw key edition order) a b ok is first second =
    first.2 ∙ ap (change_of_result lot_set) (draws-one laws setup code con view edition order.items first.0 second.0 ok is first.1 second.1) ∙ sym second.2
decides-one laws setup code con view (Certify key edition) a b ok is first second =
    first.2 ∙ ap (change_of_result certified_with) (certifies-one laws setup code con view edition first.0 second.0 ok is first.1 second.1) ∙ sym second.2
decides-one laws setup code con view (Reopen key edition note) a b ok is first second = first ∙ sym second
decides-one laws setup code con view (Vacate key list place note) a b ok is first second = first ∙ sym second
decides-one laws setup code con view (ShowCon key) a b ok is first second = first ∙ sym second
decides-one laws setup code con view (Lodge station slip counts) a b ok is first second = absurd first
decides-one laws setup code con view (Query station rev note) a b ok is first second = absurd first
decides-one laws setup code con view (Correct station rev slip counts) a b ok is first second = absurd first
decides-one laws setup code con view (Close station rev) a b ok is first second = absurd first
decides-one laws setup code con view (Confirm station rev slip counts) a b ok is first second = absurd first
decides-one laws setup code con view (ShowReturn station) a b ok is first second = absurd first
decides-one laws setup code con view ShowProgress a b ok is first second = absurd first

-- ---- a step

pub step-one : AllotmentLaws → (setup : List Constituency) (s t u : State) (ask : Ask) (a b : Result Answer Refusal) → IsSetup setup → IsStepSeen setup s ask a t → IsStepSeen setup s ask b u → (a ≡ b) × (t ≡ u)
step-one laws setup s t u ask a b ok first second = at (con_named ask) first second
  where
    at_con : (code : List ℕ) (found : Option Constituency) → constituency_with code setup ≡ found → IsConStepSeen found s ask a t → IsConStepSeen found s ask b u → (a ≡ b) × (t ≡ u)
    at_con code None is one two = (one.0 ∙ sym two.0, one.1 ∙ sym two.1)
    at_con code (Some con) is one two =
        let view : one.0 ≡ two.0 = view-one laws setup s code con one.0 two.0 ok is one.2 two.2 in
        let decides : Decides con one.0 ask two.1 = subst (λ (v : View). Decides con v ask two.1) (sym view) two.3 in
        let decided : one.1 ≡ two.1 = decides-one laws setup code con one.0 ask one.1 two.1 ok is one.3 decides in (
          one.4 ∙ ap (λ (v : View). con_answer v one.1) view ∙ ap (con_answer two.0) decided ∙ sym two.4,
          one.5 ∙ ap (after_change s con.code) decided ∙ sym two.5,
        )

    at : (named : Option (List ℕ)) → IsStepSeenAt named setup s ask a t → IsStepSeenAt named setup s ask b u → (a ≡ b) × (t ≡ u)
    at None one two = (one.0 ∙ sym two.0, one.1 ∙ sym two.1)
    at (Some code) one two = at_con code (constituency_with code setup) refl one two
