-- The laws of messages: what they do to an office, and that a message that is sent again acts no
-- second time. Each is proved as a clause of a function of `src/messages.rt`.
--
-- A message acts where it changes the state: a return, a lot, a certificate, a reopening or a
-- vacancy is then on record that was not. One that was answered 503 was not accepted, and sent
-- again it may act for the first time; but where a disk that failed at it has shut the office, the
-- files may hold its change, and the next opening shows whether they do.
use Rattle.std.specs.Prelude.{◌≡◌, ◌≢◌, ◌⊎◌, ℕ, Bool, All, List, ◌++◌, take, Option, Some, Result}
use Rattle.std.specs.Prelude.{Ok, IfSome, option_to_list}
use Rattle.matchit.specs.Router.{RouteOf}
use Rattle.tally_setup.specs.Limits.{IsSetup}
use Rattle.tally_returns.specs.declared.refusal.Refusal.TheVariants.{NoConstituency}
use Rattle.tally_keeper.specs.Events.{BringsCodes}
use Rattle.tally_keeper.specs.Keeper.{Event, HappensInTurn}
use Rattle.tally_returns_rows.specs.declared.import.ImportCount.{ImportCount}
use Rattle.tally_desk_message.specs.Connection.{Connection}
use Rattle.tally_desk_message.specs.LawStatements.{IsSame, IsSameMessage}
use Rattle.tally_desk_message.specs.Message.{IsMessageOrFault}
use Rattle.tally_desk_message.specs.declared.message.Message.{Message}
use Rattle.tally_desk_message.specs.declared.message.MessageFault.{MessageFault}
use Rattle.tally_desk.specs.Serving.{IsExchange, Serves}
use Rattle.tally_desk_routes.specs.Routes.{IsRouted}
use Rattle.tally_desk_routes.specs.declared.routes.Route.{Route}
use Rattle.tally_desk_routes.specs.declared.routes.Route.TheVariants as route
use Rattle.tally_desk_answer.specs.Import.{import_text}
use Rattle.tally_desk_answer.specs.Words.{word_text}
use Rattle.tally_desk_answer.specs.declared.word.Word.{Word}
use Rattle.tally_desk_answer.specs.declared.word.Word.TheVariants.{Unavailable}
use Rattle.tally_desk.specs.Requests.{refusal_text}
use Rattle.tally_desk.specs.Respond.{Answers, Office}

-- ---- words

-- an import, with whatever separator
abbrev pub IsImportRoute : Route → Type 0
IsImportRoute (route.Import sep) = Unit {0}
IsImportRoute other = ⊥

-- the target of a message is that of an import
abbrev pub IsOfImport : Message → Type 0
IsOfImport m =
    (found : RouteOf Route) × IsRouted m.target.items (Some found) × IsImportRoute found.value

-- This came to an office, from whatever callers: requests and imports, one after the other. The
-- setup stays.
abbrev pub ComesTo : Office → List Event → Office → Type 0
ComesTo old events new =
    (new.setup ≡ old.setup) × HappensInTurn old.setup old.state events new.state

-- The state is what it was. Nothing is said of an office that was shut by a disk which failed
-- meanwhile.
abbrev pub StateStays : Office → Office → Type 0
StateStays old new = IfSome new.state (λ s. old.state ≡ Some s)

-- an answer with the counts of an import that lodged nothing
abbrev pub ReportsNothingLodged : List ℕ → Type 0
ReportsNothingLodged text = (count : ImportCount) × (count.lodged ≡ 0) × (text ≡ import_text count)

-- an answer that nothing was imported: a word alone, or that the setup has no such constituency
abbrev pub ReportsNoImport : List ℕ → Type 0
ReportsNoImport text =
    ((why : Word) × (text ≡ word_text why)) ⊎ (text ≡ refusal_text NoConstituency)

-- ---- what messages do

-- What the answer to a message does to an office is what happens to a keeper, so that the laws of
-- keepers hold of it: one request, one import or nothing. The slip of a request is a code.
abbrev pub AnswersAreWhatHappens : Type 0
AnswersAreWhatHappens =
    (old new : Office) (message : Result Message MessageFault) (text : List ℕ)
    → Answers old message text new
    → (event : Option Event) × IfSome event BringsCodes × ComesTo old (option_to_list event) new

-- and so it is of all messages of a serving, one after the other
abbrev pub ServingsAreWhatHappens : Type 0
ServingsAreWhatHappens =
    (old new : Office) (taken ended : List Connection) (answered : ℕ)
    → Serves Answers old taken ended answered new
    → (events : List Event) × All BringsCodes events × ComesTo old events new

-- ---- messages that are sent again

-- where a message acted, it does not when it comes again, whatever came between
abbrev pub WhatActedActsNoSecondTime : Type 0
WhatActedActsNoSecondTime =
    (old mid later new : Office) (message again : Result Message MessageFault)
    (text other : List ℕ) (events : List Event)
    → IsSame message again → Answers old message text mid → mid.state ≢ old.state
    → ComesTo mid events later
    → Answers later again other new → StateStays later new

-- Where a message was accepted, even if refused, it does not act when it comes again in the state
-- that it left. A command that was refused may act later, in another state.
abbrev pub WhatComesAgainAtOnceDoesNotAct : Type 0
WhatComesAgainAtOnceDoesNotAct =
    (old mid new : Office) (message again : Result Message MessageFault) (text other : List ℕ)
    → IsSetup old.setup → IsSame message again → Answers old message text mid
    → text ≢ word_text Unavailable
    → Answers mid again other new → StateStays mid new

-- Where an import was accepted, it lodges nothing when it comes again, whatever came between, also
-- where it lodged nothing at first: its answer says that none of its rows was lodged, or that
-- nothing was imported, and the state is what it was.
abbrev pub ImportsLodgeNothingAgain : Type 0
ImportsLodgeNothingAgain =
    (old mid later new : Office) (m again : Message) (text other : List ℕ) (events : List Event)
    → IsSameMessage m again → IsOfImport m → Answers old (Ok m) text mid
    → text ≢ word_text Unavailable → ComesTo mid events later → Answers later (Ok again) other new
    → StateStays later new × (ReportsNothingLodged other ⊎ ReportsNoImport other)

-- ---- connections that bring the same bytes

-- Where a connection acted, another one that gives the same bytes does not, whatever came between,
-- and however either ends.
abbrev pub SameBytesActNoSecondTime : Type 0
SameBytesActNoSecondTime =
    (old mid later new : Office) (c d again e : Connection) (whole other : Bool)
    (events : List Event)
    → again.input ≡ c.input → IsExchange Answers old c whole d mid → mid.state ≢ old.state
    → ComesTo mid events later → IsExchange Answers later again other e new → StateStays later new

-- what was written to a connection: as much of this text as there was room for, or nothing
abbrev pub IsWrittenTo : Connection → Connection → List ℕ → Type 0
IsWrittenTo c d text =
    (d.written ≡ c.written ++ take c.room text) ⊎ (d.written ≡ c.written)

-- Where the bytes of a connection are an import that was accepted, another connection that gives
-- the same bytes lodges nothing, whatever came between: what is written to it says that none of
-- its rows was lodged, or that nothing was imported, and the state is what it was.
abbrev pub SameBytesLodgeNothingAgain : Type 0
SameBytesLodgeNothingAgain =
    (old mid later new : Office) (c again e : Connection) (m : Message) (text : List ℕ)
    (other : Bool) (events : List Event)
    → IsMessageOrFault c.input c.fails (Ok m) → IsOfImport m → Answers old (Ok m) text mid
    → text ≢ word_text Unavailable → ComesTo mid events later → again.input ≡ c.input
    → IsExchange Answers later again other e new
    → StateStays later new × ((answer : List ℕ) × IsWrittenTo again e answer
    × (ReportsNothingLodged answer ⊎ ReportsNoImport answer))
