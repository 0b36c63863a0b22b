-- The answer to a message: its bytes, and the office's state then.
--
-- A message is answered in this order: a fault of the message itself; a target that is on no route
-- (404); a method other than the route's (405); a station or a constituency of the path that the
-- setup does not have (404); a body that is not the route's (400); and then what the route asks of
-- the office.
use Rattle.std.specs.Prelude.{◌≡◌, ◌⊎◌, Bool, true, false, List, ℕ, Option, Some, None, option_map}
use Rattle.std.specs.Prelude.{Result, Ok, Err, bytes_eq}
use Rattle.matchit.specs.Router.{RouteOf}
use Rattle.tally_setup.specs.Constituency.{Constituency}
use Rattle.tally_returns.specs.State.{State}
use Rattle.tally_keeper.specs.declared.keeper.Keeper.{Ghosts}
use Rattle.tally_desk_message.specs.declared.message.Message.{Message}
use Rattle.tally_desk_message.specs.declared.message.MessageFault.{MessageFault}
use Rattle.tally_desk_message.specs.declared.message.MessageFault.TheVariants as fault
use Rattle.tally_desk_routes.specs.declared.routes.Route.{Route}
use Rattle.tally_desk_routes.specs.declared.routes.Route.TheVariants as route
use Rattle.tally_desk_routes.specs.Bodies.{con_command, station_command}
use Rattle.tally_desk_routes.specs.Routes.{IsRouted, route_method, takes_get}
use Rattle.tally_desk_answer.specs.declared.word.Word.{Word}
use Rattle.tally_desk_answer.specs.declared.word.Word.TheVariants as word
use Rattle.tally_desk.specs.Requests.{MessageAnswer, AtCon, AtStation, ImportsBody, Orders}
use Rattle.tally_desk.specs.Requests.{PublishesReturns, Reports, Says, ShowsCon, ShowsCountry}
use Rattle.tally_desk.specs.Requests.{ShowsProgress, ShowsResult, ShowsResults, ShowsReturn}
use Rattle.tally_desk.specs.Requests.{ShowsStations, TriesBody}

-- What is answered to a message that has this fault; nothing where a read failed.
abbrev pub fault_word : MessageFault → Option Word
fault_word fault.BadHead = Some word.BadHead
fault_word fault.HeadTooLong = Some word.HeadTooLong
fault_word fault.LengthRequired = Some word.LengthRequired
fault_word fault.BadLength = Some word.BadLength
fault_word fault.BodyTooLong = Some word.BodyTooLong
fault_word fault.EndedEarly = Some word.EndedEarly
fault_word fault.Read = None
fault_word fault.Memory = Some word.Unavailable

-- an answer that is this word, if there is one
abbrev pub SaysAny : Option State → Option Word → List ℕ → Option State → Type 0
SaysAny old None text new = ⊥
SaysAny old (Some w) text new = Says old w text new

-- The table of routes: what each asks of the office, by the target and the body of the message.
abbrev pub IsAnswerOn : List Constituency → Option State → Route → Message → MessageAnswer
IsAnswerOn setup old route.Progress m = ShowsProgress setup old
IsAnswerOn setup old route.Return m = AtStation setup old m (λ code con. ShowsReturn setup old code)
IsAnswerOn setup old route.Con m = AtCon setup old m (λ code con. ShowsCon setup old con code)
IsAnswerOn setup old (route.Report which) m =
    AtCon setup old m (λ code con. Reports setup old con code which)
IsAnswerOn setup old route.Returns m =
    AtCon setup old m (λ code con. PublishesReturns setup old con code)
IsAnswerOn setup old route.Stations m =
    AtCon setup old m (λ code con. ShowsStations setup old con code)
IsAnswerOn setup old route.Country m = ShowsCountry setup old
IsAnswerOn setup old route.Result m = AtCon setup old m (λ code con. ShowsResult setup old con code)
IsAnswerOn setup old route.Results m = ShowsResults setup old
IsAnswerOn setup old (route.OnStation command) m =
    AtStation setup old m (λ code con. Orders setup old con (station_command command code) m)
IsAnswerOn setup old (route.OnCon command) m =
    AtCon setup old m (λ code con. Orders setup old con (con_command command code) m)
IsAnswerOn setup old (route.Import sep) m =
    AtCon setup old m (λ code con. ImportsBody setup old con sep m)
IsAnswerOn setup old (route.Trial sep) m =
    AtCon setup old m (λ code con. TriesBody setup old con sep m)

-- the 405 that allows GET, or the one that allows POST
abbrev pub other_method : Bool → Word
other_method true = word.GetOnly
other_method false = word.PostOnly

-- by whether the method is the route's
abbrev pub ByMethod : List Constituency → Option State → Route → Message → Bool → MessageAnswer
ByMethod setup old route m true = IsAnswerOn setup old route m
ByMethod setup old route m false = Says old (other_method (takes_get route))

-- by the route of the target
abbrev pub ByRoute : List Constituency → Option State → Message → Option Route → MessageAnswer
ByRoute setup old m None = Says old word.NoRoute
ByRoute setup old m (Some route) =
    ByMethod setup old route m (bytes_eq m.method (route_method route))

-- The answer to a message or to a fault of one.
abbrev pub IsAnswer : List Constituency → Option State → Result Message MessageFault → MessageAnswer
IsAnswer setup old (Err fault) text new = SaysAny old (fault_word fault) text new
IsAnswer setup old (Ok m) text new =
    (row : Option (RouteOf Route)) × IsRouted m.target.items row
    × ByRoute setup old m (option_map (λ e. e.value) row) text new

-- ---- an office

-- the setup of an office and its state; none where a disk that failed has shut it
pub record Office : Type 0 where
  pub setup : List Constituency
  pub state : Option State

abbrev pub office : List Constituency → Option State → Office
office setup state = record { setup = setup; state = state }

-- a keeper as an office
abbrev pub office_of : {K : Type 0} (g : Ghosts K) → K → Office
office_of g keeper = office (g.constituencies keeper) (g.content keeper)

-- A message is answered, or nothing was accepted and nothing has changed. The setup stays.
abbrev pub Answers : Office → Result Message MessageFault → List ℕ → Office → Type 0
Answers old message text new =
    (new.setup ≡ old.setup)
    × (IsAnswer old.setup old.state message text new.state
    ⊎ Says old.state word.Unavailable text new.state)
