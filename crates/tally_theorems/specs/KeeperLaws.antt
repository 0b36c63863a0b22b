-- The laws of what happens to a keeper. Each is proved as a clause of a function of
-- `src/keepers.rt`.
use Rattle.std.specs.Prelude.{◌≡◌, ◌↔◌, ◌⊎◌, ◌<◌, ℕ, All, Bool, List, Option, Some, None, Result}
use Rattle.std.specs.Prelude.{true, false, slice_get}
use Rattle.std.specs.List.{filter}
use Rattle.tally_keeper.specs.EnteredTwice.{IsEnteredTwiceIn}
use Rattle.tally_keeper.specs.Events.{BringsCodes, acts, answers_of, asks_of, lodge_answers}
use Rattle.tally_keeper.specs.Events.{lodge_commands}
use Rattle.tally_returns_rows.specs.Import.{RowAnswer, count_of}
use Rattle.tally_keeper.specs.Keeper.{Event, HappensInTurn, Happens, IsImport, Runs, whole_import}
use Rattle.tally_returns_rows.specs.declared.import.ImportCount.{ImportCount}
use Rattle.tally_returns_rows.specs.declared.import.Row.{Row}
use Rattle.tally_machine_law.specs.EnteredTwice.{ForCertifiedReturns, ForClosedReturns}
use Rattle.tally_machine_law.specs.EnteredTwice.{IsEnteredTwice}
use Rattle.tally_machine_law.specs.Step.{IsView}
use Rattle.tally_machine_law.specs.LawfulState.{IsLawfulState}
use Rattle.tally_machine_law.specs.Outcome.{IsCertificate}
use Rattle.tally_machine_law.specs.Records.{IsOnRecord, IsReopenedIn}
use Rattle.tally_machine_law.specs.Runs.{IsRun, is_act, IsSameCommand, kept_elements}
use Rattle.tally_returns.specs.State.{State, con_state, opening}
use Rattle.tally_returns.specs.View.{View}
use Rattle.tally_setup.specs.Constituency.{Constituency}
use Rattle.tally_setup.specs.Limits.{IsSetup}
use Rattle.tally_setup.specs.Setup.{constituency_with}
use Rattle.tally_returns.specs.declared.ask.Ask.{Ask}
use Rattle.tally_returns.specs.declared.refusal.Refusal.{Refusal}
use Rattle.tally_returns.specs.declared.reply.Reply.{Reply}

-- what a keeper answers up to where a failed disk has shut it are the answers of a run
abbrev pub AnswersOfAShutKeeperAreARun : Type 0
AnswersOfAShutKeeperAreARun =
    (setup : List Constituency) (s : State) (asks : List Ask) (rs : List (Result Reply Refusal))
    → Runs setup (Some s) asks rs None → (t : State) × IsRun setup s asks rs t

-- requests to a keeper are a run of the machine, and each run is one
abbrev pub RequestsOfAKeeperAreARun : Type 0
RequestsOfAKeeperAreARun =
    (setup : List Constituency) (s t : State) (asks : List Ask) (rs : List (Result Reply Refusal))
    → Runs setup (Some s) asks rs (Some t) ↔ IsRun setup s asks rs t

-- an import is the run of its Lodge commands, and its count is that of the answers
abbrev pub ImportsAreRuns : Type 0
ImportsAreRuns =
    (setup : List Constituency) (rows : List Row) (answered : List RowAnswer) (count : ImportCount)
    (s t : State)
    → IsImport setup s rows answered count t
    → (count ≡ count_of answered) × IsRun setup s (lodge_commands rows) (lodge_answers answered) t

-- whatever happens to a keeper until a failed disk shuts it is a run
abbrev pub WhatHappensToAShutKeeperIsARun : Type 0
WhatHappensToAShutKeeperIsARun =
    (setup : List Constituency) (s : State) (events : List Event)
    → HappensInTurn setup (Some s) events None
    → (t : State) × IsRun setup s (asks_of events) (answers_of events) t

-- whatever happens to a keeper that is not shut is a run
abbrev pub WhatHappensToAKeeperIsARun : Type 0
WhatHappensToAKeeperIsARun =
    (setup : List Constituency) (s t : State) (events : List Event)
    → HappensInTurn setup (Some s) events (Some t)
    → IsRun setup s (asks_of events) (answers_of events) t

-- whatever happens to a keeper, its state stays lawful
abbrev pub KeepersKeepStatesLawful : Type 0
KeepersKeepStatesLawful =
    (setup : List Constituency) (s t : State) (events : List Event) → All BringsCodes events
    → IsSetup setup → IsLawfulState setup s → HappensInTurn setup (Some s) events (Some t)
    → IsLawfulState setup t

-- whatever happened since a lawful state, a certified constituency has a view with a certificate
abbrev pub CertificatesOfKeepersAreRight : Type 0
CertificatesOfKeepersAreRight =
    (setup : List Constituency) (s t : State) (events : List Event) → All BringsCodes events
    → IsSetup setup → IsLawfulState setup s → HappensInTurn setup (Some s) events (Some t)
    → (code : List ℕ) (con : Constituency) → constituency_with code setup ≡ Some con
    → (con_state t con.code).certified ≡ true
    → (view : View) × IsView con t view × IsCertificate con view

-- what is on record stays there, whatever happens to a keeper
abbrev pub RecordsOfKeepersStay : Type 0
RecordsOfKeepersStay =
    (setup : List Constituency) (s t : State) (events : List Event)
    → IsLawfulState setup s → HappensInTurn setup (Some s) events (Some t)
    → (code : List ℕ) (edition : ℕ) (seats : List ℕ) → IsOnRecord s code edition seats
    → IsOnRecord t code edition seats

-- Each certificate on record was on record before all that happened, word for word, or a request
-- reopened it. Each was reopened since the opening state, where nothing is on record.
abbrev pub RecordsOfKeepersAreOfAllotments : Type 0
RecordsOfKeepersAreOfAllotments =
    (setup : List Constituency) (s t : State) (events : List Event) → All BringsCodes events
    → IsSetup setup → IsLawfulState setup s → HappensInTurn setup (Some s) events (Some t)
    → (code : List ℕ) (con : Constituency) (edition : ℕ) (seats : List ℕ)
    → constituency_with code setup ≡ Some con
    → IsOnRecord t con.code edition seats
    → IsOnRecord s con.code edition seats
    ⊎ IsReopenedIn con edition seats setup s (asks_of events) (answers_of events) t

-- where a request acted, the same one at a later place did not; the rows of imports count as
-- requests
abbrev pub NoTwoEqualRequestsAct : Type 0
NoTwoEqualRequestsAct =
    (setup : List Constituency) (s : State) (new : Option State) (events : List Event)
    → HappensInTurn setup (Some s) events new
    → (i j : ℕ) (ask other : Ask) (first second : Result Reply Refusal) → i < j
    → slice_get (asks_of events) i ≡ Some ask → slice_get (asks_of events) j ≡ Some other
    → IsSameCommand ask other
    → slice_get (answers_of events) i ≡ Some first → slice_get (answers_of events) j ≡ Some second
    → is_act first ≡ true → is_act second ≡ false

-- Where requests to a keeper found its content to be the opening state, each closed return of a
-- constituency whose returns are entered twice was entered twice by them.
abbrev pub ClosedReturnsOfRequestsWereEnteredTwice : Type 0
ClosedReturnsOfRequestsWereEnteredTwice =
    (setup : List Constituency) (t : State) (asks : List Ask) (rs : List (Result Reply Refusal))
    → Runs setup (Some (opening setup)) asks rs (Some t)
    → ForClosedReturns setup t (IsEnteredTwice asks rs)

-- and so it was by whatever happened to a keeper, where an import is one thing that happened
abbrev pub ClosedReturnsOfKeepersWereEnteredTwice : Type 0
ClosedReturnsOfKeepersWereEnteredTwice =
    (setup : List Constituency) (t : State) (events : List Event)
    → HappensInTurn setup (Some (opening setup)) events (Some t)
    → ForClosedReturns setup t (IsEnteredTwiceIn events)

-- and where the rows of imports count as requests
abbrev pub ClosedReturnsOfRowsWereEnteredTwice : Type 0
ClosedReturnsOfRowsWereEnteredTwice =
    (setup : List Constituency) (t : State) (events : List Event)
    → HappensInTurn setup (Some (opening setup)) events (Some t)
    → ForClosedReturns setup t (IsEnteredTwice (asks_of events) (answers_of events))

-- and so in the state that a keeper's answers led to before a failed disk shut it
abbrev pub ClosedReturnsOfAShutKeeperWereEnteredTwice : Type 0
ClosedReturnsOfAShutKeeperWereEnteredTwice =
    (setup : List Constituency) (events : List Event)
    → HappensInTurn setup (Some (opening setup)) events None
    → (t : State) × IsRun setup (opening setup) (asks_of events) (answers_of events) t
    × ForClosedReturns setup t (IsEnteredTwice (asks_of events) (answers_of events))

-- and so was each return of a certified constituency
abbrev pub CertifiedReturnsOfKeepersWereEnteredTwice : Type 0
CertifiedReturnsOfKeepersWereEnteredTwice =
    (setup : List Constituency) (t : State) (events : List Event) → All BringsCodes events
    → IsSetup setup → HappensInTurn setup (Some (opening setup)) events (Some t)
    → ForCertifiedReturns setup t (IsEnteredTwiceIn events)

-- without what does not act the same happens, and the last state is the same
abbrev pub ActsAloneHappen : Type 0
ActsAloneHappen =
    (setup : List Constituency) (s t : State) (events : List Event)
    → HappensInTurn setup (Some s) events (Some t)
    → HappensInTurn setup (Some s) (filter acts events) (Some t)

-- and so it is without some of it
abbrev pub EventsThatDoNotActCanBeLeftOut : Type 0
EventsThatDoNotActCanBeLeftOut =
    (setup : List Constituency) (s t : State) (events : List Event)
    → HappensInTurn setup (Some s) events (Some t) → (keep : ℕ → Bool)
    → ((i : ℕ) (event : Event) → slice_get events i ≡ Some event → keep i ≡ false
    → acts event ≡ false)
    → HappensInTurn setup (Some s) (kept_elements keep events) (Some t)

-- the rows of an import lodge nothing when they come again, whatever happened between
abbrev pub TheSameImportLodgesNothing : Type 0
TheSameImportLodgesNothing =
    (setup : List Constituency) (rows : List Row) (answered others : List RowAnswer)
    (count again : ImportCount)
    → (old mid later new : Option State) (events : List Event)
    → Happens setup old (whole_import rows answered count) mid
    → HappensInTurn setup mid events later
    → Happens setup later (whole_import rows others again) new → again.lodged ≡ 0
