-- Returns that were entered twice, by two requests that bring the same. These are the statements of
-- laws.
use Rattle.std.specs.Prelude.{◌≡◌, ◌≢◌, ◌<◌, ℕ, All, Bool, true, false, List, Option, Some, None}
use Rattle.std.specs.Prelude.{Result, Ok, slice_get}
use Rattle.std.specs.FinMap.{get}
use Rattle.tally_setup.specs.Constituency.{Constituency}
use Rattle.tally_setup.specs.Limits.{IsSetup}
use Rattle.tally_setup.specs.Setup.{constituency_with, station_with}
use Rattle.tally_setup.specs.declared.constituency.Entry.TheVariants.{Double}
use Rattle.tally_setup.specs.declared.constituency.Station.{Station}
use Rattle.tally_returns.specs.Counts.{VoteCounts}
use Rattle.tally_returns.specs.Named.{BringsCode, slip_named, station_named}
use Rattle.tally_returns.specs.Return.{StationReturn}
use Rattle.tally_returns.specs.State.{State, con_state, opening}
use Rattle.tally_returns.specs.declared.ask.Ask.{Ask}
use Rattle.tally_returns.specs.declared.ask.Ask.TheVariants.{Lodge, Correct, Confirm}
use Rattle.tally_returns.specs.declared.refusal.Refusal.{Refusal}
use Rattle.tally_returns.specs.declared.reply.Reply.{Reply}
use Rattle.tally_returns.specs.declared.reply.Reply.TheVariants.{Lodged, Moved}
use Rattle.tally_returns.specs.declared.returns.Status.TheVariants.{Closed}
use Rattle.tally_machine_law.specs.Runs.{IsRun, is_act}

-- the counts that a command brings
abbrev pub counts_named : Ask → Option VoteCounts
counts_named (Lodge station slip counts) = Some counts
counts_named (Correct station rev slip counts) = Some counts
counts_named (Confirm station rev slip counts) = Some counts
counts_named other = None

-- the command names this station, and brings the slip and the counts of this return
abbrev pub Brings : List ℕ → StationReturn → Ask → Type 0
Brings station standing ask =
    (station_named ask ≡ Some station) × (slip_named ask ≡ Some standing.slip)
    × (counts_named ask ≡ Some standing.counts)

-- a second entry: a Confirm that closed the return
abbrev pub is_second_entry : Ask → Result Reply Refusal → Bool
is_second_entry (Confirm station rev slip counts) (Ok (Moved next)) = true
is_second_entry other r = false

-- a first entry: a Lodge that was lodged, or a Correct that moved the return
abbrev pub is_first_entry : Ask → Result Reply Refusal → Bool
is_first_entry (Lodge station slip counts) (Ok (Lodged rev)) = true
is_first_entry (Correct station rev slip counts) (Ok (Moved next)) = true
is_first_entry other r = false

-- the request at a place of a list, from 0, with its answer
pub record IsAt (asks : List Ask) (rs : List (Result Reply Refusal)) (place : ℕ) (ask : Ask)
    (r : Result Reply Refusal) : Type 0 where
  pub asked : slice_get asks place ≡ Some ask
  pub answered : slice_get rs place ≡ Some r

-- the request at a place is of this kind, and brings this return
pub record BringsAt (is_kind : Ask → Result Reply Refusal → Bool) (station : List ℕ)
    (standing : StationReturn) (asks : List Ask) (rs : List (Result Reply Refusal)) (place : ℕ)
    : Type 0 where
  pub ask : Ask
  pub r : Result Reply Refusal
  pub at : IsAt asks rs place ask r
  pub kind : is_kind ask r ≡ true
  pub brings : Brings station standing ask

-- the request at a place names this station, and acted
pub record ActsOn (station : List ℕ) (asks : List Ask) (rs : List (Result Reply Refusal))
    (place : ℕ) : Type 0 where
  pub ask : Ask
  pub r : Result Reply Refusal
  pub at : IsAt asks rs place ask r
  pub named : station_named ask ≡ Some station
  pub acted : is_act r ≡ true

-- There are two entries, one before the other: the first at a place where something enters, the
-- second at one where something confirms. Nothing else acts between them or after the second.
pub record AreTwoEntries (Enters Confirms Acts : ℕ → Type 0) : Type 0 where
  pub first : ℕ
  pub second : ℕ
  pub apart : first < second
  pub first_entry : Enters first
  pub second_entry : Confirms second
  pub no_other : (place : ℕ) → first < place → place ≢ second → ¬ Acts place

-- By these requests the return of this station was entered twice: a first entry and a second one
-- bring its slip and its counts, and no other request acted on the station between them or after.
abbrev pub IsEnteredTwice : List Ask → List (Result Reply Refusal) → List ℕ → StationReturn
    → Type 0
IsEnteredTwice asks rs station standing =
    AreTwoEntries (BringsAt is_first_entry station standing asks rs)
    (BringsAt is_second_entry station standing asks rs) (ActsOn station asks rs)

-- ---- the returns that are entered twice

-- In this state it is so of each closed return of a station whose constituency has its returns
-- entered twice.
abbrev pub ForClosedReturns : List Constituency → State → (List ℕ → StationReturn → Type 0)
    → Type 0
ForClosedReturns setup t IsSo =
    (station : List ℕ) (con : Constituency) (place : Station) (standing : StationReturn)
    → station_with station setup ≡ Some (con, place) → con.entry ≡ Double
    → get t.returns station ≡ Some standing → standing.status ≡ Closed → IsSo station standing

-- the station has a closed return in this state, of which it is so
pub record HasClosedReturn (t : State) (IsSo : List ℕ → StationReturn → Type 0) (station : Station)
    : Type 0 where
  pub standing : StationReturn
  pub found : get t.returns station.code ≡ Some standing
  pub closed : standing.status ≡ Closed
  pub so : IsSo station.code standing

-- In this state each station of a certified constituency that has its returns entered twice has a
-- closed return, of which it is so.
abbrev pub ForCertifiedReturns : List Constituency → State → (List ℕ → StationReturn → Type 0)
    → Type 0
ForCertifiedReturns setup t IsSo =
    (code : List ℕ) (con : Constituency) → constituency_with code setup ≡ Some con
    → con.entry ≡ Double → (con_state t con.code).certified ≡ true
    → All (HasClosedReturn t IsSo) con.stations

-- ---- laws

-- after a run from the opening state each closed one was entered twice
abbrev pub ClosedReturnsWereEnteredTwice : Type 0
ClosedReturnsWereEnteredTwice =
    (setup : List Constituency) (t : State) (asks : List Ask) (rs : List (Result Reply Refusal))
    → IsRun setup (opening setup) asks rs t → ForClosedReturns setup t (IsEnteredTwice asks rs)

-- and each one of a certified constituency: every vote that counts was entered twice, and the same
abbrev pub CertifiedReturnsWereEnteredTwice : Type 0
CertifiedReturnsWereEnteredTwice =
    (setup : List Constituency) (t : State) (asks : List Ask) (rs : List (Result Reply Refusal))
    → All BringsCode asks → IsSetup setup → IsRun setup (opening setup) asks rs t
    → ForCertifiedReturns setup t (IsEnteredTwice asks rs)

-- at most one request acted on the station
abbrev pub IsActedOnOnce : List Ask → List (Result Reply Refusal) → List ℕ → Type 0
IsActedOnOnce asks rs station =
    (place other : ℕ) → ActsOn station asks rs place → ActsOn station asks rs other
    → place ≡ other

-- one request alone does not enter a return twice: it is not both entries
abbrev pub OneRequestEntersNothingTwice : Type 0
OneRequestEntersNothingTwice =
    (asks : List Ask) (rs : List (Result Reply Refusal)) (station : List ℕ)
    (standing : StationReturn) → IsActedOnOnce asks rs station
    → ¬ IsEnteredTwice asks rs station standing
