-- The laws of states, steps and runs. Each is proved as a clause of a function of `laws` in
-- `tally_machine`. What is said of decisions is in `Decisions`, of certificates that were reopened
-- in `Records`, and of returns that were entered twice in `EnteredTwice`.
use Rattle.std.specs.Prelude.{◌≡◌, ◌↔◌, ◌<◌, ℕ, All, Bool, List, [], ◌∷◌, Some, None, Err, Result}
use Rattle.std.specs.Prelude.{true, false, is_some, slice_get}
use Rattle.std.specs.FinMap.{get}
use Rattle.std.specs.List.{filter}
use Rattle.tally_setup.specs.Constituency.{Constituency}
use Rattle.tally_setup.specs.Limits.{IsSetup}
use Rattle.tally_setup.specs.Setup.{constituency_with}
use Rattle.tally_law.specs.LotNeed.{IsLotNeeded, IsNeed}
use Rattle.tally_law.specs.Poll.{HasEligible}
use Rattle.tally_returns.specs.Checks.{first_refusal}
use Rattle.tally_returns.specs.Named.{BringsCode, con_named}
use Rattle.tally_returns.specs.State.{State, con_state, opening}
use Rattle.tally_returns.specs.View.{View}
use Rattle.tally_returns.specs.declared.ask.Ask.{Ask}
use Rattle.tally_returns.specs.declared.ask.Ask.TheVariants.{Certify}
use Rattle.tally_returns.specs.declared.refusal.Refusal.{Refusal}
use Rattle.tally_returns.specs.declared.refusal.Refusal.TheVariants.{LotMissing}
use Rattle.tally_returns.specs.declared.reply.Reply.{Reply}
use Rattle.tally_machine_law.specs.Certification.{count_checks}
use Rattle.tally_machine_law.specs.Step.{ConChange, Decides, IsAnswered, IsView, Answer, IsStep}
use Rattle.tally_machine_law.specs.Step.{IsStepSeen}
use Rattle.tally_machine_law.specs.LawfulState.{IsLawfulState}
use Rattle.tally_machine_law.specs.Outcome.{Outcome, HasWrongLot, IsCertificate, IsLawfulView}
use Rattle.tally_machine_law.specs.Outcome.{IsOutcome}
use Rattle.tally_machine_law.specs.Outcome.{poll_in, rule_in}
use Rattle.tally_machine_law.specs.Runs.{IsRun, is_act, IsSameCommand, acting_asks, kept_elements}

-- ---- lawful states

-- the state that an office opens with is lawful
abbrev pub OpeningStatesAreLawful : Type 0
OpeningStatesAreLawful =
    (setup : List Constituency) → IsSetup setup → IsLawfulState setup (opening setup)

-- a step from a lawful state leads to a lawful one
abbrev pub StepsKeepStatesLawful : Type 0
StepsKeepStatesLawful =
    (setup : List Constituency) (s t : State) (ask : Ask) (r : Result Reply Refusal)
    → BringsCode ask → IsSetup setup → IsLawfulState setup s
    → IsStep setup s ask r t → IsLawfulState setup t

-- and so does a run
abbrev pub RunsKeepStatesLawful : Type 0
RunsKeepStatesLawful =
    (setup : List Constituency) (s t : State) (asks : List Ask) (rs : List (Result Reply Refusal))
    → All BringsCode asks → IsSetup setup
    → IsRun setup s asks rs t → IsLawfulState setup s → IsLawfulState setup t

-- ---- certificates

-- after a run from a lawful state a certified constituency has a view with a certificate
abbrev pub CertificatesOfRunsAreRight : Type 0
CertificatesOfRunsAreRight =
    (setup : List Constituency) (s t : State) (asks : List Ask) (rs : List (Result Reply Refusal))
    → All BringsCode asks → IsSetup setup → IsLawfulState setup s → IsRun setup s asks rs t
    → (code : List ℕ) (con : Constituency) → constituency_with code setup ≡ Some con
    → (con_state t con.code).certified ≡ true
    → (view : View) × IsView con t view × IsCertificate con view

-- in a lawful state each view of a certified constituency has one
abbrev pub CertificatesAreRight : Type 0
CertificatesAreRight =
    (setup : List Constituency) (s : State) → IsSetup setup → IsLawfulState setup s
    → (code : List ℕ) (con : Constituency) (view : View)
    → constituency_with code setup ≡ Some con → (con_state s con.code).certified ≡ true
    → IsView con s view → IsCertificate con view

-- ---- views

-- a constituency has at most one view in a state
abbrev pub ViewsAreOne : Type 0
ViewsAreOne =
    (setup : List Constituency) (s : State) (code : List ℕ) (con : Constituency) (view other : View)
    → IsSetup setup
    → constituency_with code setup ≡ Some con → IsView con s view → IsView con s other
    → view ≡ other

-- and it has one in a lawful state
abbrev pub ConstituenciesHaveViews : Type 0
ConstituenciesHaveViews =
    (setup : List Constituency) (s : State) (code : List ℕ) (con : Constituency) → IsSetup setup
    → IsLawfulState setup s
    → constituency_with code setup ≡ Some con → (view : View) × IsView con s view

-- which is lawful
abbrev pub ViewsAreLawful : Type 0
ViewsAreLawful =
    (setup : List Constituency) (s : State) (code : List ℕ) (con : Constituency) (view : View)
    → IsSetup setup → IsLawfulState setup s
    → constituency_with code setup ≡ Some con → IsView con s view → IsLawfulView con view

-- and the recorded lot of a lawful view is not a wrong one
abbrev pub LotsOfLawfulViewsAreRight : Type 0
LotsOfLawfulViewsAreRight =
    (con : Constituency) (view : View) → IsLawfulView con view → ¬ HasWrongLot con view

-- where a wrong lot is recorded and some list is eligible, the votes come to no outcome: neither
-- seats nor a lot that is missing
abbrev pub WrongLotsLeadToNoOutcome : Type 0
WrongLotsLeadToNoOutcome =
    (con : Constituency) (view : View) (outcome : Outcome) → HasEligible (poll_in con view)
    → HasWrongLot con view → ¬ IsOutcome con view outcome

-- ---- steps

-- by the view of a lawful state each command on a constituency is decided
abbrev pub CommandsAreDecided : Type 0
CommandsAreDecided =
    (setup : List Constituency) (s : State) (code : List ℕ) (con : Constituency) (view : View)
    (ask : Ask)
    → IsSetup setup → IsLawfulState setup s
    → constituency_with code setup ≡ Some con → IsView con s view → con_named ask ≡ Some code
    → (decided : Result ConChange Refusal) × Decides con view ask decided

-- in a lawful state there is a step for each command
abbrev pub CommandsHaveSteps : Type 0
CommandsHaveSteps =
    (setup : List Constituency) (s : State) (ask : Ask) → IsSetup setup → IsLawfulState setup s
    → (t : State) × (seen_as : Result Answer Refusal) × IsStepSeen setup s ask seen_as t

-- where the checks before it pass and some list is eligible, Certify answers that a lot is missing
-- exactly where one is needed and none is recorded
abbrev pub MissingLotsAreReported : Type 0
MissingLotsAreReported =
    (setup : List Constituency) (s t : State) (code : List ℕ) (con : Constituency) (view : View)
    (edition : ℕ)
    (r : Result Reply Refusal) → IsSetup setup → constituency_with code setup ≡ Some con
    → IsView con s view
    → first_refusal (count_checks view edition) ≡ None → HasEligible (poll_in con view)
    → IsStep setup s (Certify code edition) r t
    → ((group : List Bool) × (in_question : ℕ) × (r ≡ Err (LotMissing group in_question)))
    ↔ (IsLotNeeded (rule_in con) (poll_in con view) con.seats × (view.lot ≡ []))

-- and it names the group and the seats in question
abbrev pub MissingLotsAreReportedAsNeeded : Type 0
MissingLotsAreReportedAsNeeded =
    (setup : List Constituency) (s t : State) (code : List ℕ) (con : Constituency) (view : View)
    (edition : ℕ)
    (r : Result Reply Refusal) (group : List Bool) (in_question : ℕ)
    → constituency_with code setup ≡ Some con → IsView con s view
    → IsStep setup s (Certify code edition) r t
    → r ≡ Err (LotMissing group in_question)
    → IsNeed (rule_in con) (poll_in con view) con.seats group in_question

-- a request that is refused, that repeats what is recorded or that shows something changes nothing
abbrev pub WhatDoesNotActChangesNothing : Type 0
WhatDoesNotActChangesNothing =
    (setup : List Constituency) (s t : State) (ask : Ask) (r : Result Reply Refusal)
    → IsAnswered setup s ask r t → is_act r ≡ false → t ≡ s

-- a candidate who is gone stays gone through every request, a reopening among them
abbrev pub TheGoneStayGone : Type 0
TheGoneStayGone =
    (setup : List Constituency) (s t : State) (ask : Ask) (r : Result Reply Refusal)
    → IsAnswered setup s ask r t → (code : List ℕ) (list place : ℕ)
    → is_some (get (con_state s code).gone (list ∷ place ∷ [])) ≡ true
    → is_some (get (con_state t code).gone (list ∷ place ∷ [])) ≡ true

-- ---- runs

-- where a command acted, the same one at a later place did not
abbrev pub NoTwoEqualCommandsAct : Type 0
NoTwoEqualCommandsAct =
    (setup : List Constituency) (s t : State) (asks : List Ask) (rs : List (Result Reply Refusal))
    → IsRun setup s asks rs t
    → (i j : ℕ) (ask other : Ask) (first second : Result Reply Refusal) → i < j
    → slice_get asks i ≡ Some ask → slice_get asks j ≡ Some other
    → IsSameCommand ask other → slice_get rs i ≡ Some first → slice_get rs j ≡ Some second
    → is_act first ≡ true → is_act second ≡ false

-- without the requests that do not act a run has the same last state, and the others the same
-- answers
abbrev pub ActsAloneAreARun : Type 0
ActsAloneAreARun =
    (setup : List Constituency) (s t : State) (asks : List Ask) (rs : List (Result Reply Refusal))
    → IsRun setup s asks rs t
    → IsRun setup s (acting_asks asks rs) (filter is_act rs) t

-- and so it has without some of them
abbrev pub WhatDoesNotActCanBeLeftOut : Type 0
WhatDoesNotActCanBeLeftOut =
    (setup : List Constituency) (s t : State) (asks : List Ask) (rs : List (Result Reply Refusal))
    → IsRun setup s asks rs t → (keep : ℕ → Bool)
    → ((i : ℕ) (r : Result Reply Refusal) → slice_get rs i ≡ Some r → keep i ≡ false
    → is_act r ≡ false)
    → IsRun setup s (kept_elements keep asks) (kept_elements keep rs) t
