-- Returns that were entered twice, by messages: each entry is what one connection brought. These
-- are the statements of laws.
use Rattle.std.specs.Prelude.{◌≡◌, ◌⊎◌, ℕ, true, List, [], ◌∷◌, ◌++◌, take, codes, Option, Some}
use Rattle.std.specs.Prelude.{None, Ok, IfSome, slice_get}
use Rattle.matchit.specs.Router.{RouteOf}
use Rattle.tally_setup.specs.Constituency.{Constituency}
use Rattle.tally_setup.specs.Limits.{IsSetup}
use Rattle.tally_setup.specs.Setup.{constituency_with}
use Rattle.tally_returns.specs.AskSeen.{AskSeen, ask_seen, lodge, correct, confirm}
use Rattle.tally_returns.specs.Named.{station_named}
use Rattle.tally_returns.specs.Return.{StationReturn}
use Rattle.tally_returns.specs.State.{State, opening}
use Rattle.tally_returns.specs.declared.ask.Ask.TheVariants.{Lodge}
use Rattle.tally_machine_law.specs.EnteredTwice.{AreTwoEntries, ForCertifiedReturns}
use Rattle.tally_machine_law.specs.EnteredTwice.{ForClosedReturns}
use Rattle.tally_machine_law.specs.EnteredTwice.{is_first_entry, is_second_entry}
use Rattle.tally_machine_law.specs.Runs.{is_act}
use Rattle.tally_keeper.specs.EnteredTwice.{ActsIn, BringsIn, HoldsAt}
use Rattle.tally_keeper.specs.Events.{BringsCodes, lodge_commands}
use Rattle.tally_keeper.specs.Keeper.{Event, request, whole_import, failed_import}
use Rattle.tally_returns_rows.specs.declared.import.Row.{Row}
use Rattle.tally_import_records.specs.declared.separator.Sep.{Sep}
use Rattle.tally_import.specs.ReturnRows.{text_coming}
use Rattle.tally_desk_message.specs.Connection.{Connection}
use Rattle.tally_desk_message.specs.Message.{IsMessageOrFault}
use Rattle.tally_desk_message.specs.declared.message.Message.{Message}
use Rattle.tally_desk.specs.Serving.{Serves}
use Rattle.tally_desk_routes.specs.Bodies.{IsCommand, station_command}
use Rattle.tally_desk_routes.specs.Routes.{IsRouted, con_of_target, station_of_target}
use Rattle.tally_desk_routes.specs.declared.routes.Route.{Route}
use Rattle.tally_desk_routes.specs.declared.routes.Route.TheVariants as route
use Rattle.tally_desk_routes.specs.declared.routes.StationCommand.{StationCommand}
use Rattle.tally_desk_answer.specs.Import.{import_text}
use Rattle.tally_desk_answer.specs.Outcome.{outcome_text}
use Rattle.tally_desk.specs.Respond.{Answers, Office}
use Rattle.tally_theorems.specs.MessageLaws.{ComesTo}

-- ---- what a message asks

-- the target of a message is on this route, and its method is POST
pub record IsPosted (m : Message) (route : Route) : Type 0 where
  pub row : RouteOf Route
  pub routed : IsRouted m.target.items (Some row)
  pub is : row.value ≡ route
  pub method : m.method ≡ codes "POST"

-- The message is this command on a return: it is posted on the route of such commands, and its body
-- reads as the command on the station that its target names.
pub record IsCommandOf (m : Message) (seen : AskSeen) : Type 0 where
  pub command : StationCommand
  pub posted : IsPosted m (route.OnStation command)
  pub station : List ℕ
  pub target : station_of_target m.target.items ≡ Some station
  pub body : IsCommand (station_command command station) m.body.items (Some seen)

-- The message is an import of these rows: it is posted on a route of imports, and its body is their
-- text, read by the lists of the constituency that its target names.
pub record IsImportOfRows (setup : List Constituency) (m : Message) (rows : List Row)
    : Type 0 where
  pub sep : Sep
  pub posted : IsPosted m (route.Import sep)
  pub code : List ℕ
  pub target : con_of_target m.target.items ≡ Some code
  pub con : Constituency
  pub found : constituency_with code setup ≡ Some con
  pub body : (text_coming con sep m.body.items).rows ≡ rows

-- What came to the office is what this message asks: a request that acted on a station is the
-- message's command, and an import is of the message's rows.
abbrev pub IsAskedBy : List Constituency → Message → Event → Type 0
IsAskedBy setup m (request ask r) =
    (station : List ℕ) → station_named ask ≡ Some station → is_act r ≡ true
    → IsCommandOf m (ask_seen ask)
IsAskedBy setup m (whole_import rows answered count) = IsImportOfRows setup m rows
IsAskedBy setup m (failed_import fault) = Unit {0}

-- ---- what is reported to connections

-- The answer, with its head, reports what came to the office: an act, by its reply, or an import
-- that was done, by its counts.
abbrev pub ReportsWhatCame : List ℕ → Event → Type 0
ReportsWhatCame text (request ask r) = is_act r ≡ true → text ≡ outcome_text [] r
ReportsWhatCame text (whole_import rows answered count) = text ≡ import_text count
ReportsWhatCame text (failed_import fault) = Unit {0}

-- what was written to a connection `c`, left as `d`: such an answer, as far as there was room
abbrev pub IsReportedTo : Connection → Connection → Event → Type 0
IsReportedTo c d event =
    (text : List ℕ) × ReportsWhatCame text event × (d.written ≡ c.written ++ take c.room text)

-- connections, as what each was left, and what each did, which was reported to it
abbrev pub AreReported : List Connection → List Connection → List (Option Event) → Type 0
AreReported [] [] [] = Unit {0}
AreReported (c ∷ cs) (d ∷ ds) (did ∷ rest) = IfSome did (IsReportedTo c d) × AreReported cs ds rest
AreReported taken ended done = ⊥

-- ---- what connections did

-- A connection did this to the office, or nothing: its bytes are a message, and an act on a station
-- or an import that was done is what the message asks.
abbrev pub IsDoneBy : Office → Connection → Option Event → Office → Type 0
IsDoneBy old c None new = ComesTo old [] new
IsDoneBy old c (Some event) new =
    ComesTo old (event ∷ []) new × BringsCodes event
    × ((m : Message) × IsMessageOrFault c.input c.fails (Ok m) × IsAskedBy old.setup m event)

-- connections one after the other, and what each of them did
abbrev pub AreDoneBy : Office → List Connection → List (Option Event) → Office → Type 0
AreDoneBy old [] [] new = new ≡ old
AreDoneBy old (c ∷ cs) (did ∷ rest) new =
    (mid : Office) × IsDoneBy old c did mid × AreDoneBy mid cs rest new
AreDoneBy old [] (did ∷ rest) new = ⊥
AreDoneBy old (c ∷ cs) [] new = ⊥

-- what a connection did has this
abbrev pub DidSo : (Event → Type 0) → Option Event → Type 0
DidSo Holds None = ⊥
DidSo Holds (Some event) = Holds event

-- The return of this station was entered twice by connections, of which these are the deeds: one
-- was a first entry and a later one a second entry, both of its slip and counts, and no other
-- acted on the station between them or after.
abbrev pub IsEnteredTwiceBy : List (Option Event) → List ℕ → StationReturn → Type 0
IsEnteredTwiceBy done station standing =
    AreTwoEntries (HoldsAt (DidSo (BringsIn is_first_entry station standing)) done)
    (HoldsAt (DidSo (BringsIn is_second_entry station standing)) done)
    (HoldsAt (DidSo (ActsIn station)) done)

-- ---- which messages the entries are

-- The message is a first entry of this return: a Lodge or a Correct that brings it, or an import
-- that has it in a row.
abbrev pub IsFirstEntryOf : List Constituency → List ℕ → StationReturn → Message → Type 0
IsFirstEntryOf setup station standing m =
    IsCommandOf m (lodge station standing.slip standing.counts)
    ⊎ (((rev : ℕ) × IsCommandOf m (correct station rev standing.slip standing.counts))
    ⊎ ((rows : List Row) × (row : ℕ) × IsImportOfRows setup m rows
    × (slice_get (lodge_commands rows) row ≡ Some (Lodge station standing.slip standing.counts))))

-- the message is a second entry of this return: a Confirm that brings it
abbrev pub IsSecondEntryOf : List ℕ → StationReturn → Message → Type 0
IsSecondEntryOf station standing m =
    (rev : ℕ) × IsCommandOf m (confirm station rev standing.slip standing.counts)

-- the connection at a place brought a message of which this holds
abbrev pub BroughtAt : (Message → Type 0) → List Connection → ℕ → Type 0
BroughtAt Holds taken place =
    HoldsAt (λ c. (m : Message) × IsMessageOrFault c.input c.fails (Ok m) × Holds m) taken place

-- ---- laws

-- Each connection of a serving did one thing, or nothing. An act on a station and an import that
-- was done are what its message asks, and each act and each import that was done was reported to
-- the connection.
abbrev pub ServingsAreDone : Type 0
ServingsAreDone =
    (old new : Office) (taken ended : List Connection) (answered : ℕ)
    → Serves Answers old taken ended answered new
    → (done : List (Option Event)) × AreDoneBy old taken done new × AreReported taken ended done

-- where the first of them found the opening state, each closed return of a constituency whose
-- returns are entered twice was entered twice
abbrev pub ClosedReturnsOfMessagesWereEnteredTwice : Type 0
ClosedReturnsOfMessagesWereEnteredTwice =
    (old new : Office) (taken : List Connection) (done : List (Option Event)) (t : State)
    → AreDoneBy old taken done new → old.state ≡ Some (opening old.setup) → new.state ≡ Some t
    → ForClosedReturns old.setup t (IsEnteredTwiceBy done)

-- and so was each return of a certified constituency
abbrev pub CertifiedReturnsOfMessagesWereEnteredTwice : Type 0
CertifiedReturnsOfMessagesWereEnteredTwice =
    (old new : Office) (taken : List Connection) (done : List (Option Event)) (t : State)
    → IsSetup old.setup
    → AreDoneBy old taken done new → old.state ≡ Some (opening old.setup) → new.state ≡ Some t
    → ForCertifiedReturns old.setup t (IsEnteredTwiceBy done)

-- the first entry is a message that is one
abbrev pub FirstEntriesAreMessages : Type 0
FirstEntriesAreMessages =
    (old new : Office) (taken : List Connection) (done : List (Option Event))
    → AreDoneBy old taken done new → (station : List ℕ) (standing : StationReturn) (place : ℕ)
    → HoldsAt (DidSo (BringsIn is_first_entry station standing)) done place
    → BroughtAt (IsFirstEntryOf old.setup station standing) taken place

-- and so is the second
abbrev pub SecondEntriesAreMessages : Type 0
SecondEntriesAreMessages =
    (old new : Office) (taken : List Connection) (done : List (Option Event))
    → AreDoneBy old taken done new → (station : List ℕ) (standing : StationReturn) (place : ℕ)
    → HoldsAt (DidSo (BringsIn is_second_entry station standing)) done place
    → BroughtAt (IsSecondEntryOf station standing) taken place
