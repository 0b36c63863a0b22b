-- The laws of steps and runs.
use Rattle.std.proofs.Common.{◌≡◌, ◌≢◌, ◌≤◌, ◌↔◌, ◌∙◌, ◌-◌, ◌∷◌, ℕ, List, [], Bool, true, false, Option, Some, None, Result, Ok, Err, length, refl, sym, ap, subst, inl, inr, arith}
use Rattle.std.specs.Prelude.{◌==◌, All, not}
use Rattle.std.proofs.lemmas.List.Elements.{All-head, All-tail}
use Rattle.tally_setup.specs.Constituency.{Constituency}
use Rattle.tally_setup.specs.Limits.{IsSetup}
use Rattle.tally_setup.specs.Setup.{constituency_with}
use Rattle.tally_law.specs.Allotment.{IsAllotment}
use Rattle.tally_law.specs.LotNeed.{IsLotNeeded, IsLotTaken, IsNeed}
use Rattle.tally_law.specs.Poll.{HasEligible}
use Rattle.tally_law.specs.LawStatements.{AllotmentsAreUnique, AllotmentsExist, EachOrderGivesAChoice, GroupsAreOfOneNumberOfVotes, NoLotIsNeededWhereVotesDecide, VotesDecideOrALotIsNeeded}
use Rattle.tally_machine_law.specs.Certification.{ByOutcome, Certifies, RefusedOr, seats_by_outcome, count_checks}
use Rattle.tally_returns.specs.Checks.{check, first_refusal}
use Rattle.tally_machine_law.specs.Step.{IsView, certified_with, change_of_result, IsAnswered, IsConStep, IsStep, con_answer, reply_seen, IsStepSeenAt}
use Rattle.tally_machine_law.specs.LawStatements.{CertificatesOfRunsAreRight}
use Rattle.tally_machine_law.specs.LawfulState.{IsLawfulState}
use Rattle.tally_returns.specs.Named.{BringsCode, con_named}
use Rattle.tally_machine_law.specs.Outcome.{HasSeats, IsCertificate, IsOutcome, HasLawfulLot, Outcome, allotted, lot_missing, nobody, poll_in, rule_in}
use Rattle.tally_machine_law.specs.Runs.{IsRun}
use Rattle.tally_returns.specs.State.{State, con_state, last_edition}
use Rattle.tally_returns.specs.View.{View, view_of}
use Rattle.tally_returns.specs.declared.ask.Ask.{Ask}
use Rattle.tally_returns.specs.declared.ask.Ask.TheVariants.{Certify}
use Rattle.tally_returns.specs.declared.refusal.Refusal.{Refusal}
use Rattle.tally_returns.specs.declared.refusal.Refusal.TheVariants.{Certified, Exhausted, LotMissing, NotAllClosed, Stale}
use Rattle.tally_returns.specs.declared.reply.Reply.{Reply}
use Rattle.tally_machine_law.proofs.ConStepLemmas.{con-step-lawful}
use Rattle.tally_machine_law.proofs.ReturnStepLemmas.{return-step-lawful}
use Rattle.tally_machine_law.proofs.VacancyLemmas.{allotted-sum}
use Rattle.tally_machine_law.proofs.ViewLemmas.{constituency-limits}

-- ---- steps and runs

pub step-lawful : (setup : List Constituency) (s t : State) (ask : Ask) (r : Result Reply Refusal) → BringsCode ask → IsSetup setup → IsLawfulState setup s → IsStep setup s ask r t → IsLawfulState setup t
step-lawful setup s t ask r brings ok lawful step = at (con_named ask) refl step
  where
    at_con : (code : List ℕ) → con_named ask ≡ Some code → (found : Option Constituency) → constituency_with code setup ≡ found → IsConStep found s ask r t → IsLawfulState setup t
    at_con code named None is step = subst (IsLawfulState setup) (sym step.1) lawful
    at_con code named (Some con) is step = con-step-lawful setup s t ask r code con ok lawful is named step

    at : (named : Option (List ℕ)) → con_named ask ≡ named → IsStepSeenAt named setup s ask (reply_seen r) t → IsLawfulState setup t
    at None is step = subst (IsLawfulState setup) (sym step.1) (return-step-lawful setup s ask brings ok lawful)
    at (Some code) is step = at_con code is (constituency_with code setup) refl step

pub answered-lawful : (setup : List Constituency) (s t : State) (ask : Ask) (r : Result Reply Refusal) → BringsCode ask → IsSetup setup → IsLawfulState setup s → IsAnswered setup s ask r t → IsLawfulState setup t
answered-lawful setup s t ask r brings ok lawful (inl step) = step-lawful setup s t ask r brings ok lawful step
answered-lawful setup s t ask r brings ok lawful (inr not_accepted) = subst (IsLawfulState setup) (sym not_accepted.1) lawful

pub run-lawful : (setup : List Constituency) (s t : State) (asks : List Ask) (rs : List (Result Reply Refusal)) → All BringsCode asks → IsSetup setup → IsRun setup s asks rs t → IsLawfulState setup s → IsLawfulState setup t
run-lawful setup s t [] [] brings ok run lawful = subst (IsLawfulState setup) (sym run) lawful
run-lawful setup s t [] (r ∷ rs) brings ok run lawful = absurd run
run-lawful setup s t (ask ∷ asks) [] brings ok run lawful = absurd run
run-lawful setup s t (ask ∷ asks) (r ∷ rs) brings ok run lawful =
    run-lawful setup run.0 t asks rs (All-tail BringsCode ask asks brings) ok run.2 (answered-lawful setup s run.0 ask r (All-head BringsCode ask asks brings) ok lawful run.1)

-- ---- allotments

-- the laws of allotments, which the laws here rest on
pub record AllotmentLaws : Type 0 where
  pub unique : AllotmentsAreUnique
  pub exist : AllotmentsExist
  pub orders_give : EachOrderGivesAChoice
  pub groups : GroupsAreOfOneNumberOfVotes
  pub either : VotesDecideOrALotIsNeeded
  pub never_both : NoLotIsNeededWhereVotesDecide

-- there is a lot to be taken where one is needed
pub lot-stands : AllotmentLaws → (con : Constituency) (view : View) → 1 ≤ con.seats → IsLotTaken (rule_in con) (poll_in con view) con.seats view.lot → IsLotNeeded (rule_in con) (poll_in con view) con.seats → view.lot ≢ []
lot-stands laws con view some (inl taken) needed none = absurd (laws.never_both con.profile view.votes view.blank con.seats taken.0 needed)
lot-stands laws con view some (inr taken) needed none =
    let one = laws.groups con.profile view.votes view.blank con.seats taken.0 taken.1 some taken.2 in
    let named = taken.3.all one.0 ((one.2 one.0).1 (one.1, refl)) in
    omega (arith, named.1, ap length none)

-- under the lot that is to be taken there is an allotment
pub seats-stand : AllotmentLaws → (con : Constituency) (view : View) → 1 ≤ con.seats → HasEligible (poll_in con view) → IsLotTaken (rule_in con) (poll_in con view) con.seats view.lot
    → (a : List ℕ) × IsAllotment (rule_in con) (poll_in con view) view.lot con.seats a
seats-stand laws con view some has (inl taken) =
    let a = laws.exist con.profile view.votes view.blank con.seats some has in
    (a.0, subst (λ (lot : List ℕ). IsAllotment (rule_in con) (poll_in con view) lot con.seats a.0) (sym taken.1) a.1)
seats-stand laws con view some has (inr taken) =
    let a = laws.orders_give con.profile view.votes view.blank con.seats taken.0 taken.1 view.lot some taken.2 taken.3 in
    (a.0, a.1)

-- ---- certificates

-- two views of one state have the same seats
seats-one : AllotmentLaws → (con : Constituency) (s : State) (seats other : List ℕ) (b : Bool) → HasSeats con (view_of con s seats) b → HasSeats con (view_of con s other) b → seats ≡ other
seats-one laws con s seats other false has again = has ∙ sym again
seats-one laws con s seats other true has again =
    let view = view_of con s seats in
    laws.unique con.profile view.votes view.blank view.lot con.seats seats other has.2 again.2

-- a constituency of a setup has at most one view in a state
pub view-one : AllotmentLaws → (setup : List Constituency) (s : State) (code : List ℕ) (con : Constituency) (view other : View) → IsSetup setup → constituency_with code setup ≡ Some con → IsView con s view → IsView con s other → view ≡ other
view-one laws setup s code con view other ok is first second =
    let certified = (con_state s con.code).certified in
    let has : HasSeats con (view_of con s view.seats) certified = subst (λ (v : View). HasSeats con v v.certified) first.0 first.1 in
    let again : HasSeats con (view_of con s other.seats) certified = subst (λ (v : View). HasSeats con v v.certified) second.0 second.1 in
    first.0 ∙ ap (view_of con s) (seats-one laws con s view.seats other.seats certified has again) ∙ sym second.0

-- in a lawful state what is seen of a certified constituency is a certificate
pub certificate-of_view : AllotmentLaws → (setup : List Constituency) (t : State) → IsSetup setup → IsLawfulState setup t → (code : List ℕ) (con : Constituency) → constituency_with code setup ≡ Some con
    → (con_state t con.code).certified ≡ true → (view : View) → IsView con t view → IsCertificate con view
certificate-of_view laws setup t ok lawful code con is certified view seen =
    let here = view_of con t view.seats in
    let has : HasSeats con here true = subst (λ (b : Bool). HasSeats con here b) certified (subst (λ (v : View). HasSeats con v v.certified) seen.0 seen.1) in
    let certificate : IsCertificate con here = record {
      closed = ((lawful.cons code con is).seen.certified certified).0;
      allotment = has;
      exactly = allotted-sum (rule_in con) (poll_in con here) here.lot con.seats here.seats has.2;
      lot = lot-stands laws con here (constituency-limits setup code con ok is).some_seat has.1;
    } in
    subst (IsCertificate con) (sym seen.0) certificate

-- and something is seen of it
pub certificate-stands : AllotmentLaws → (setup : List Constituency) (t : State) → IsSetup setup → IsLawfulState setup t → (code : List ℕ) (con : Constituency) → constituency_with code setup ≡ Some con
    → (con_state t con.code).certified ≡ true → (view : View) × IsView con t view × IsCertificate con view
certificate-stands laws setup t ok lawful code con is certified =
    let some : 1 ≤ con.seats = (constituency-limits setup code con ok is).some_seat in
    let empty = view_of con t [] in
    let may : HasLawfulLot con empty = (lawful.cons code con is).seen.certified certified in
    let a = seats-stand laws con empty some may.1 may.2 in
    let view = view_of con t a.0 in
    let has : HasSeats con view true = (may.1, may.2, a.1) in
    let seen : IsView con t view = (refl, subst (λ (b : Bool). HasSeats con view b) (sym certified) has) in
    (view, seen, certificate-of_view laws setup t ok lawful code con is certified view seen)

-- something is seen of each constituency
pub view-stands : AllotmentLaws → (setup : List Constituency) (s : State) (code : List ℕ) (con : Constituency) → IsSetup setup → IsLawfulState setup s → constituency_with code setup ≡ Some con → (view : View) × IsView con s view
view-stands laws setup s code con ok lawful is = go (con_state s con.code).certified refl
  where
    go : (b : Bool) → (con_state s con.code).certified ≡ b → (view : View) × IsView con s view
    go true certified = let stands = certificate-stands laws setup s ok lawful code con is certified in (stands.0, stands.1)
    go false opened = (view_of con s [], (refl, subst (λ (x : Bool). HasSeats con (view_of con s []) x) (sym opened) refl))

pub certificate-of_run : AllotmentLaws → CertificatesOfRunsAreRight
certificate-of_run laws setup s t asks rs brings ok lawful run = certificate-stands laws setup t ok (run-lawful setup s t asks rs brings ok run lawful)

-- ---- a missing lot

-- where no check fails, it is as is said otherwise
otherwise : {X : Type 0} (refusal : Option Refusal) (P : Result X Refusal → Type 0) (result : Result X Refusal) → refusal ≡ None → RefusedOr refusal P result → P result
otherwise None P result none h = h
otherwise (Some e) P result none h = cc

seen-refused : (r : Result Reply Refusal) (refusal : Refusal) → reply_seen r ≡ Err refusal → r ≡ Err refusal
seen-refused (Ok reply) refusal is = cc
seen-refused (Err e) refusal is = cc

-- a missing lot is reported exactly where one is needed and none is given
reported-where_missing : AllotmentLaws → (con : Constituency) (view : View) (r : Result Reply Refusal) (outcome : Outcome) → 1 ≤ con.seats → HasEligible (poll_in con view) → IsOutcome con view outcome
    → reply_seen r ≡ con_answer view (change_of_result certified_with (seats_by_outcome outcome))
    → ((group : List Bool) × (in_question : ℕ) × (r ≡ Err (LotMissing group in_question))) ↔ (IsLotNeeded (rule_in con) (poll_in con view) con.seats × (view.lot ≡ []))
reported-where_missing laws con view r nobody some has is answer = absurd (is has)
reported-where_missing laws con view r (lot_missing group n) some has is answer = (λ ensured. (is.1.needed, is.2), λ missing. (group, n, seen-refused r (LotMissing group n) answer))
reported-where_missing laws con view r (allotted seats) some has is answer = (
  λ ensured. let both : reply_seen r ≡ Err (LotMissing ensured.0 ensured.1) = ap reply_seen ensured.2 in cc,
  λ missing. absurd (lot-stands laws con view some is.1 missing.0 missing.1),
)

-- what is reported of a missing lot is its need
need-reported : (con : Constituency) (view : View) (group : List Bool) (n : ℕ) (outcome : Outcome) → IsOutcome con view outcome → Err (LotMissing group n) ≡ seats_by_outcome outcome
    → IsNeed (rule_in con) (poll_in con view) con.seats group n
need-reported con view group n nobody is ensured = cc
need-reported con view group n (allotted seats) is ensured = cc
need-reported con view group n (lot_missing its m) is ensured =
    let same_group : its ≡ group = cc in
    let same_number : m ≡ n = cc in
    subst (λ (g : List Bool). IsNeed (rule_in con) (poll_in con view) con.seats g n) same_group
    (subst (λ (k : ℕ). IsNeed (rule_in con) (poll_in con view) con.seats its k) same_number is.1)

result-reported : (view : View) (result : Result (List ℕ) Refusal) (refusal : Refusal) → Err refusal ≡ con_answer view (change_of_result certified_with result) → result ≡ Err refusal
result-reported view (Ok seats) refusal is = cc
result-reported view (Err e) refusal is = cc

-- no check before the votes names a lot
no_lot-checked : (a b c d : Bool) (now left : ℕ) (group : List Bool) (n : ℕ)
    → first_refusal (check a Certified ∷ check b (Stale now) ∷ check c Exhausted ∷ check d (NotAllClosed left) ∷ []) ≡ Some (LotMissing group n) → ⊥
no_lot-checked false b c d now left group n is = cc
no_lot-checked true false c d now left group n is = cc
no_lot-checked true true false d now left group n is = cc
no_lot-checked true true true false now left group n is = cc
no_lot-checked true true true true now left group n is = cc

certifies-reported : (con : Constituency) (view : View) (edition : ℕ) (group : List Bool) (n : ℕ) → Certifies con view edition (Err (LotMissing group n)) → IsNeed (rule_in con) (poll_in con view) con.seats group n
certifies-reported con view edition group n certifies = at (first_refusal (count_checks view edition)) refl certifies
  where
    at : (refusal : Option Refusal) → first_refusal (count_checks view edition) ≡ refusal → RefusedOr refusal (ByOutcome con view seats_by_outcome) (Err (LotMissing group n)) → IsNeed (rule_in con) (poll_in con view) con.seats group n
    at None none by = need-reported con view group n by.0 by.1 by.2
    at (Some e) some by =
        let same : e ≡ LotMissing group n = cc in
        absurd (
        no_lot-checked (not view.certified) (view.edition == edition) (not (view.edition == last_edition)) (view.closed == view.stations) view.edition (view.stations - view.closed) group n
        (some ∙ ap Some same)
        )

-- a step of Certify, by the view of the constituency; views of one
-- state differ in their seats at most
record IsCertifyStep (con : Constituency) (s : State) (edition : ℕ) (r : Result Reply Refusal) : Type 0 where
  seats : List ℕ
  result : Result (List ℕ) Refusal
  certifies : Certifies con (view_of con s seats) edition result
  answer : reply_seen r ≡ con_answer (view_of con s seats) (change_of_result certified_with result)

certify-step : (setup : List Constituency) (s t : State) (code : List ℕ) (con : Constituency) (edition : ℕ) (r : Result Reply Refusal) → constituency_with code setup ≡ Some con
    → IsStep setup s (Certify code edition) r t → IsCertifyStep con s edition r
certify-step setup s t code con edition r is step =
    let here : IsConStep (Some con) s (Certify code edition) r t = subst (λ (found : Option Constituency). IsConStep found s (Certify code edition) r t) is step in
    let view = here.0 in
    let decides = here.3 in record {
      seats = view.seats;
      result = decides.0;
      certifies = subst (λ (v : View). Certifies con v edition decides.0) here.2.0 decides.1;
      answer = here.4 ∙ ap (con_answer view) decides.2 ∙ ap (λ (v : View). con_answer v (change_of_result certified_with decides.0)) here.2.0;
    }

pub missing-reported : AllotmentLaws → (setup : List Constituency) (s t : State) (code : List ℕ) (con : Constituency) (view : View) (edition : ℕ) (r : Result Reply Refusal) → IsSetup setup
    → constituency_with code setup ≡ Some con → IsView con s view → first_refusal (count_checks view edition) ≡ None → HasEligible (poll_in con view) → IsStep setup s (Certify code edition) r t
    → ((group : List Bool) × (in_question : ℕ) × (r ≡ Err (LotMissing group in_question))) ↔ (IsLotNeeded (rule_in con) (poll_in con view) con.seats × (view.lot ≡ []))
missing-reported laws setup s t code con view edition r ok is view_is none has step =
    let its = certify-step setup s t code con edition r is step in
    let same_view = view_is.0 in
    let other = view_of con s its.seats in
    let none_there : first_refusal (count_checks other edition) ≡ None = ap (λ (v : View). first_refusal (count_checks v edition)) (sym same_view) ∙ none in
    let has_there : HasEligible (poll_in con other) = subst (λ (v : View). HasEligible (poll_in con v)) same_view has in
    let by = otherwise (first_refusal (count_checks other edition)) (ByOutcome con other seats_by_outcome) its.result none_there its.certifies in
    let answer : reply_seen r ≡ con_answer other (change_of_result certified_with (seats_by_outcome by.0)) = its.answer ∙ ap (λ (x : Result (List ℕ) Refusal). con_answer other (change_of_result certified_with x)) by.2 in
    subst (λ (v : View). ((group : List Bool) × (in_question : ℕ) × (r ≡ Err (LotMissing group in_question))) ↔ (IsLotNeeded (rule_in con) (poll_in con v) con.seats × (v.lot ≡ []))) (sym same_view)
    (reported-where_missing laws con other r by.0 (constituency-limits setup code con ok is).some_seat has_there by.1 answer)

pub reported-is_need : (setup : List Constituency) (s t : State) (code : List ℕ) (con : Constituency) (view : View) (edition : ℕ) (r : Result Reply Refusal) (group : List Bool) (in_question : ℕ)
    → constituency_with code setup ≡ Some con → IsView con s view → IsStep setup s (Certify code edition) r t → r ≡ Err (LotMissing group in_question)
    → IsNeed (rule_in con) (poll_in con view) con.seats group in_question
reported-is_need setup s t code con view edition r group n is view_is step ensured =
    let its = certify-step setup s t code con edition r is step in
    let other = view_of con s its.seats in
    let result_is : its.result ≡ Err (LotMissing group n) = result-reported other its.result (LotMissing group n) (sym (ap reply_seen ensured) ∙ its.answer) in
    let need : IsNeed (rule_in con) (poll_in con other) con.seats group n =
    certifies-reported con other edition group n (subst (λ (x : Result (List ℕ) Refusal). Certifies con other edition x) result_is its.certifies) in
    subst (λ (v : View). IsNeed (rule_in con) (poll_in con v) con.seats group n) (sym view_is.0) need
