-- What a request on the return of a station does to the tables of an office, by what was found of
-- the station.
use Rattle.std.specs.Prelude.{◌≡◌, ◌≢◌, ℕ, Bool, List, length, Option, Some, Result, IfOk}
use Rattle.std.specs.FinMap.{get}
use Rattle.std.specs.Option.{ForSome}
use Rattle.sqlite.specs.declared.error.Error.{Error}
use Rattle.sqlite.specs.State.{State as Seen, HasCleanDisk}
use Rattle.tally_setup.specs.Constituency.{Constituency}
use Rattle.tally_setup.specs.declared.constituency.Station.{Station}
use Rattle.tally_returns.specs.Decide.{limits_of}
use Rattle.tally_returns.specs.Lawful.{IsLawful}
use Rattle.tally_returns.specs.Return.{StationReturn}
use Rattle.tally_returns.specs.State.{State, con_state}
use Rattle.tally_returns.specs.declared.ask.Ask.{Ask}
use Rattle.tally_returns.specs.declared.ask.Ask.TheVariants.{Query, Correct, Close, Confirm}
use Rattle.tally_returns.specs.declared.refusal.Refusal.{Refusal}
use Rattle.tally_returns.specs.declared.reply.Reply.{Reply}
use Rattle.tally_returns.specs.declared.returns.Status.TheVariants.{Closed, Corrected, Queried}
use Rattle.tally_machine_law.specs.LawfulState.{IsLawfulState}
use Rattle.tally_machine_law.specs.Step.{with_return, without_lot}
use Rattle.tally_store_schema.specs.Office.{IsInside}
use Rattle.tally_store_rows.specs.TablesOfState.{AreTables}
use Rattle.tally_store_commands.specs.internal.Requests.{IsCarriedOut}

-- the return that was found, if there is one, is lawful at this station
abbrev pub IsLawfulIfFound : Constituency → Station → Option StationReturn → Type 0
IsLawfulIfFound con place found = ForSome found (IsLawful (limits_of con place))

-- A command turns the return that was recorded into this one.
abbrev pub MovesTo : Constituency → Ask → StationReturn → StationReturn → Type 0
MovesTo con (Query station rev note) before standing =
    (standing.status ≡ Queried) × (before.counts ≡ standing.counts)
MovesTo con (Correct station rev slip counts) before standing =
    (before.status ≡ Queried) × (standing.status ≡ Corrected) ×
    (length standing.counts.votes ≡ length con.lists)
MovesTo con (Close station rev) before standing =
    (before.status ≢ Closed) × (standing.status ≡ Closed) × (before.counts ≡ standing.counts)
MovesTo con (Confirm station rev slip counts) before standing =
    (before.status ≢ Closed) × (standing.status ≡ Closed) × (before.counts ≡ standing.counts)
MovesTo con other before standing = ⊥

-- a query takes the lot of the constituency with it
abbrev pub after_lot : Constituency → Ask → State → State
after_lot con (Query station rev note) s = without_lot s (Some con.code)
after_lot con other s = s

-- the state after a command has recorded this return at a station of this constituency
abbrev pub after_move : Constituency → List ℕ → Ask → StationReturn → State → State
after_move con station ask standing s = with_return (after_lot con ask s) (Some station) standing

-- What holds after a call that answers a command on the return of a station, where the disk
-- returned what was written. It holds for every lawful state whose tables were there, in which the
-- constituency is certified or not as was found, and the return is the one that was found.
abbrev pub CarriesOutFound : List Constituency → Constituency → List ℕ → Bool →
    Option StationReturn → Ask → Seen → Seen → Result (Result Reply Refusal) Error → Type 0
CarriesOutFound setup con station certified found ask old new result =
    HasCleanDisk new → IsInside old →
    IfOk result (λ r. (text : List ℕ) (s : State) → IsLawfulState setup s →
    certified ≡ (con_state s con.code).certified → found ≡ get s.returns station
    → AreTables setup text s old.now.trees → IsCarriedOut setup text s ask r new)

-- What holds after a call that answers a request, where the disk returned what was written. It
-- holds for every lawful state whose tables were there.
abbrev pub CarriesOut : List Constituency → Ask → Seen → Seen →
    Result (Result Reply Refusal) Error → Type 0
CarriesOut setup ask old new result =
    HasCleanDisk new → IsInside old →
    IfOk result (λ r. (text : List ℕ) (s : State) → IsLawfulState setup s →
    AreTables setup text s old.now.trees → IsCarriedOut setup text s ask r new)
