-- Certificates that were reopened: they stay on record, and what is on record is what was
-- certified. These are the statements of laws.
use Rattle.std.specs.Prelude.{◌≡◌, ◌⊎◌, ◌+◌, ℕ, All, true, List, Some, Result, Ok, slice_get, take}
use Rattle.std.specs.Prelude.{drop}
use Rattle.std.specs.FinMap.{get}
use Rattle.tally_setup.specs.Constituency.{Constituency}
use Rattle.tally_setup.specs.Limits.{IsSetup}
use Rattle.tally_setup.specs.Setup.{constituency_with}
use Rattle.tally_returns.specs.AskSeen.{ask_seen, reopen}
use Rattle.tally_returns.specs.Named.{BringsCode}
use Rattle.tally_returns.specs.State.{State, con_state}
use Rattle.tally_returns.specs.View.{View}
use Rattle.tally_returns.specs.declared.ask.Ask.{Ask}
use Rattle.tally_returns.specs.declared.refusal.Refusal.{Refusal}
use Rattle.tally_returns.specs.declared.reply.Reply.{Reply}
use Rattle.tally_returns.specs.declared.reply.Reply.TheVariants.{Edition}
use Rattle.tally_machine_law.specs.Step.{IsView, IsAnswered}
use Rattle.tally_machine_law.specs.LawfulState.{IsLawfulState}
use Rattle.tally_machine_law.specs.Outcome.{IsCertificate}
use Rattle.tally_machine_law.specs.Runs.{IsRun}

-- of the constituency of this code, the certificate of this edition is on record with these seats
abbrev pub IsOnRecord : State → List ℕ → ℕ → List ℕ → Type 0
IsOnRecord s code edition seats = get (con_state s code).past edition ≡ Some seats

-- ---- records stay

-- what is on record stays there, word for word, whatever is asked
abbrev pub RecordsStay : Type 0
RecordsStay =
    (setup : List Constituency) (s t : State) (ask : Ask) (r : Result Reply Refusal)
    → IsLawfulState setup s → IsAnswered setup s ask r t
    → (code : List ℕ) (edition : ℕ) (seats : List ℕ) → IsOnRecord s code edition seats
    → IsOnRecord t code edition seats

-- and so it is through a run, from any lawful state
abbrev pub RecordsStayInRuns : Type 0
RecordsStayInRuns =
    (setup : List Constituency) (s t : State) (asks : List Ask) (rs : List (Result Reply Refusal))
    → IsLawfulState setup s → IsRun setup s asks rs t
    → (code : List ℕ) (edition : ℕ) (seats : List ℕ) → IsOnRecord s code edition seats
    → IsOnRecord t code edition seats

-- ---- records are of allotments

-- In this state the constituency was certified at this edition, with these seats: all its stations
-- were closed, and the seats are the one allotment of its closed votes. And this request reopened
-- it.
pub record IsReopened (con : Constituency) (edition : ℕ) (seats : List ℕ) (s : State) (ask : Ask)
    (r : Result Reply Refusal) : Type 0 where
  pub view : View
  pub seen : IsView con s view
  pub certified : view.certified ≡ true
  pub at : view.edition ≡ edition
  pub with_seats : view.seats ≡ seats
  pub certificate : IsCertificate con view
  pub note : List ℕ
  pub asked : ask_seen ask ≡ reopen con.code edition note
  pub answered : r ≡ Ok (Edition (edition + 1))

-- what is on record after a request was on record before, or the request reopened it
abbrev pub RecordsAreOfAllotments : Type 0
RecordsAreOfAllotments =
    (setup : List Constituency) (s t : State) (ask : Ask) (r : Result Reply Refusal) → IsSetup setup
    → IsLawfulState setup s → IsAnswered setup s ask r t
    → (code : List ℕ) (con : Constituency) (edition : ℕ) (seats : List ℕ)
    → constituency_with code setup ≡ Some con
    → IsOnRecord t con.code edition seats
    → IsOnRecord s con.code edition seats ⊎ IsReopened con edition seats s ask r

-- At some place of the run, from 0, is the request that reopened the certificate, in the state to
-- which the requests before it led.
pub record IsReopenedIn (con : Constituency) (edition : ℕ) (seats : List ℕ)
    (setup : List Constituency) (s : State) (asks : List Ask) (rs : List (Result Reply Refusal))
    (t : State) : Type 0 where
  pub place : ℕ
  pub state : State
  pub ask : Ask
  pub answer : Result Reply Refusal
  pub before : IsRun setup s (take place asks) (take place rs) state
  pub after : IsRun setup state (drop place asks) (drop place rs) t
  pub asked : slice_get asks place ≡ Some ask
  pub answered : slice_get rs place ≡ Some answer
  pub reopened : IsReopened con edition seats state ask answer

-- Each certificate on record after a run was on record before it, word for word, or it was reopened
-- in that run. From the opening state it was reopened, since there nothing is on record.
abbrev pub RecordsOfRunsAreOfAllotments : Type 0
RecordsOfRunsAreOfAllotments =
    (setup : List Constituency) (s t : State) (asks : List Ask) (rs : List (Result Reply Refusal))
    → All BringsCode asks → IsSetup setup → IsLawfulState setup s → IsRun setup s asks rs t
    → (code : List ℕ) (con : Constituency) (edition : ℕ) (seats : List ℕ)
    → constituency_with code setup ≡ Some con
    → IsOnRecord t con.code edition seats
    → IsOnRecord s con.code edition seats ⊎ IsReopenedIn con edition seats setup s asks rs t
