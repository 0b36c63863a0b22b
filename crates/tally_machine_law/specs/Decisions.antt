-- What a decision has to do with a step: where it was made of what a state says, its refusal is
-- that of the step, or its change leads to the state of the step. These are the statements of laws.
use Rattle.std.specs.Prelude.{◌≡◌, ◌<◌, ◌≤◌, ◌≢◌, ◌∷◌, ℕ, All, List, [], Option, Some, None, Result}
use Rattle.std.specs.Prelude.{Ok, Err}
use Rattle.std.specs.FinMap.{get}
use Rattle.tally_setup.specs.Constituency.{Constituency}
use Rattle.tally_setup.specs.Limits.{IsSetup}
use Rattle.tally_setup.specs.Setup.{constituency_with, station_with}
use Rattle.tally_setup.specs.declared.constituency.Station.{Station}
use Rattle.tally_returns.specs.Decide.{return_change_named, limits_named}
use Rattle.tally_returns.specs.GoneCandidate.{GoneCandidate}
use Rattle.tally_returns.specs.PastSeats.{PastSeats}
use Rattle.tally_returns.specs.Named.{con_named, station_named}
use Rattle.tally_returns.specs.Return.{StationReturn}
use Rattle.tally_returns.specs.State.{State, con_state, last_edition, stations_of}
use Rattle.tally_machine_law.specs.Step.{state_after, ConChange, Decides, IsView, after_change}
use Rattle.tally_machine_law.specs.Step.{con_state_after, gone_for_good, open_again, Answer}
use Rattle.tally_machine_law.specs.Step.{IsStepSeen}
use Rattle.tally_machine_law.specs.Step.{con_answer, lodged, moved, return_shown, same}
use Rattle.tally_returns.specs.View.{View, past_records}
use Rattle.tally_returns.specs.declared.ask.Ask.{Ask}
use Rattle.tally_returns.specs.declared.ask.Ask.TheVariants.{Lodge, Query, Correct, Close}
use Rattle.tally_returns.specs.declared.ask.Ask.TheVariants.{Confirm, ShowReturn}
use Rattle.tally_returns.specs.declared.change.Change.{Change}
use Rattle.tally_returns.specs.declared.change.Change.TheVariants.{Same, PutReturn}
use Rattle.tally_returns.specs.declared.refusal.Refusal.{Refusal}
use Rattle.tally_returns.specs.declared.refusal.Refusal.TheVariants.{Memory, NoConstituency}
use Rattle.tally_returns.specs.declared.refusal.Refusal.TheVariants.{NoStation, Store}
use Rattle.tally_machine_law.specs.Kinds.{IsAnswerTo}
use Rattle.tally_machine_law.specs.LawfulState.{IsLawfulState}

-- ---- commands on returns

-- the command names the station of a code, which is in this constituency
abbrev pub NamesStation : List Constituency → Constituency → List ℕ → Ask → Type 0
NamesStation setup con code ask =
    (station_named ask ≡ Some code)
    × ((station : Station) × (station_with code setup ≡ Some (con, station)))

-- what is decided of a command on the return of a station, by what a state says of it
abbrev pub change_at_code : State → Constituency → List ℕ → Ask → Result Change Refusal
change_at_code s con code ask =
    return_change_named con (con_state s con.code).certified (get s.returns code) ask

-- what a command on a return is answered where this is what it changes
abbrev pub answer_to_change : Ask → Option StationReturn → Change → Option Answer
answer_to_change (Lodge station slip counts) found (PutReturn standing) = Some (lodged standing.rev)
answer_to_change (Lodge station slip counts) (Some standing) Same = Some (same standing.rev)
answer_to_change (Query station rev note) found (PutReturn standing) = Some (moved standing.rev)
answer_to_change (Correct station rev slip counts) found (PutReturn standing) =
    Some (moved standing.rev)
answer_to_change (Close station rev) found (PutReturn standing) = Some (moved standing.rev)
answer_to_change (Confirm station rev slip counts) found (PutReturn standing) =
    Some (moved standing.rev)
answer_to_change (ShowReturn station) (Some standing) Same = Some (return_shown standing)
answer_to_change ask found other = None

-- what a constituency says of its stations is what the setup says
abbrev pub LimitsAreThoseOfTheSetup : Type 0
LimitsAreThoseOfTheSetup =
    (setup : List Constituency) (con : Constituency) (code : List ℕ) (ask : Ask)
    → NamesStation setup con code ask
    → limits_named con ask ≡ stations_of setup code

abbrev pub RefusalsOnReturnsAreSteps : Type 0
RefusalsOnReturnsAreSteps =
    (setup : List Constituency) (s : State) (con : Constituency) (code : List ℕ) (ask : Ask)
    (refusal : Refusal)
    → NamesStation setup con code ask → change_at_code s con code ask ≡ Err refusal
    → IsStepSeen setup s ask (Err refusal) s

abbrev pub ChangesOfReturnsAreSteps : Type 0
ChangesOfReturnsAreSteps =
    (setup : List Constituency) (s : State) (con : Constituency) (code : List ℕ) (ask : Ask)
    (change : Change)
    → NamesStation setup con code ask → change_at_code s con code ask ≡ Ok change
    → (answer : Answer) × (answer_to_change ask (get s.returns code) change ≡ Some answer)
    × IsStepSeen setup s ask (Ok answer) (state_after setup s ask (Ok change))

-- a code that is no station
abbrev pub UnknownStationsAreRefused : Type 0
UnknownStationsAreRefused =
    (setup : List Constituency) (s : State) (code : List ℕ) (ask : Ask)
    → station_named ask ≡ Some code → station_with code setup ≡ None
    → IsStepSeen setup s ask (Err NoStation) s

-- ---- commands on constituencies

-- the command names the constituency of a code
abbrev pub IsOn : List Constituency → Constituency → List ℕ → Ask → Type 0
IsOn setup con code ask = (con_named ask ≡ Some code) × (constituency_with code setup ≡ Some con)

-- a refusal and a change alike
abbrev pub DecisionsOnConstituenciesAreSteps : Type 0
DecisionsOnConstituenciesAreSteps =
    (setup : List Constituency) (s : State) (con : Constituency) (code : List ℕ) (view : View)
    (ask : Ask)
    (decided : Result ConChange Refusal) → IsOn setup con code ask → IsView con s view
    → Decides con view ask decided
    → IsStepSeen setup s ask (con_answer view decided) (after_change s con.code decided)

-- a code that is no constituency
abbrev pub UnknownConstituenciesAreRefused : Type 0
UnknownConstituenciesAreRefused =
    (setup : List Constituency) (s : State) (code : List ℕ) (ask : Ask)
    → con_named ask ≡ Some code → constituency_with code setup ≡ None
    → IsStepSeen setup s ask (Err NoConstituency) s

-- the edition that a change leads to is one that a constituency can have
abbrev pub EditionsStayWithinTheirLimit : Type 0
EditionsStayWithinTheirLimit =
    (setup : List Constituency) (s : State) (con : Constituency) (code : List ℕ) (view : View)
    (ask : Ask) (change : ConChange)
    → IsSetup setup → IsLawfulState setup s → IsOn setup con code ask → IsView con s view
    → Decides con view ask (Ok change)
    → (con_state_after (con_state s con.code) change).edition ≤ last_edition

-- one who goes was not gone
abbrev pub NobodyGoesTwice : Type 0
NobodyGoesTwice =
    (setup : List Constituency) (s : State) (con : Constituency) (code : List ℕ) (view : View)
    (ask : Ask) (gone : GoneCandidate)
    (next : Option ℕ) → IsOn setup con code ask → IsView con s view
    → Decides con view ask (Ok (gone_for_good gone next))
    → get (con_state s con.code).gone (gone.list ∷ gone.place ∷ []) ≡ None

-- what is put on record comes after all that was
abbrev pub RecordsComeLast : Type 0
RecordsComeLast =
    (setup : List Constituency) (s : State) (con : Constituency) (code : List ℕ) (view : View)
    (ask : Ask) (note : List ℕ)
    (past : PastSeats) → IsLawfulState setup s → IsOn setup con code ask → IsView con s view
    → Decides con view ask (Ok (open_again note past))
    → All (λ (earlier : PastSeats). earlier.edition < past.edition)
    (past_records (con_state s con.code).past)

-- ---- steps

-- from a state and a command at most one answer and one state
abbrev pub StepsAreOne : Type 0
StepsAreOne =
    (setup : List Constituency) (s t u : State) (ask : Ask) (answer other : Result Answer Refusal)
    → IsSetup setup
    → IsStepSeen setup s ask answer t → IsStepSeen setup s ask other u → (answer ≡ other) × (t ≡ u)

-- no step has the refusal Memory or Store
abbrev pub StepsAreOfTheMachine : Type 0
StepsAreOfTheMachine =
    (setup : List Constituency) (s t : State) (ask : Ask) (refusal : Refusal)
    → IsStepSeen setup s ask (Err refusal) t → (refusal ≢ Memory) × (refusal ≢ Store)

-- what a command is answered is of its kind
abbrev pub AnswersAreOfTheirKind : Type 0
AnswersAreOfTheirKind =
    (setup : List Constituency) (s t : State) (ask : Ask) (answer : Answer)
    → IsSetup setup → IsLawfulState setup s → IsStepSeen setup s ask (Ok answer) t
    → IsAnswerTo setup ask answer
