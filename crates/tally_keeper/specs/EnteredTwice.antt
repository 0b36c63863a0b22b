-- Returns that were entered twice, by what happened to a keeper. An import is one thing that
-- happened: it brings each row that it lodged.
use Rattle.std.specs.Prelude.{◌≡◌, ℕ, Bool, List, [], ◌∷◌, Some, Result, slice_get}
use Rattle.tally_returns.specs.Return.{StationReturn}
use Rattle.tally_returns.specs.declared.ask.Ask.{Ask}
use Rattle.tally_returns.specs.declared.refusal.Refusal.{Refusal}
use Rattle.tally_returns.specs.declared.reply.Reply.{Reply}
use Rattle.tally_machine_law.specs.EnteredTwice.{ActsOn, AreTwoEntries, BringsAt}
use Rattle.tally_machine_law.specs.EnteredTwice.{is_first_entry, is_second_entry}
use Rattle.tally_keeper.specs.Events.{lodge_answers, lodge_commands}
use Rattle.tally_keeper.specs.Keeper.{Event, request, whole_import, failed_import}

-- the requests of one thing that happened, those of an import being the Lodge commands of its rows
abbrev pub asks_in : Event → List Ask
asks_in (request ask r) = ask ∷ []
asks_in (whole_import rows answered count) = lodge_commands rows
asks_in (failed_import fault) = []

-- the answers of these requests, in order
abbrev pub answers_in : Event → List (Result Reply Refusal)
answers_in (request ask r) = r ∷ []
answers_in (whole_import rows answered count) = lodge_answers answered
answers_in (failed_import fault) = []

-- one of these requests is of this kind, and brings this return
pub record BringsIn (is_kind : Ask → Result Reply Refusal → Bool) (station : List ℕ)
    (standing : StationReturn) (event : Event) : Type 0 where
  pub place : ℕ
  pub brings : BringsAt is_kind station standing (asks_in event) (answers_in event) place

-- one of these requests acted on the station
pub record ActsIn (station : List ℕ) (event : Event) : Type 0 where
  pub place : ℕ
  pub acts : ActsOn station (asks_in event) (answers_in event) place

-- at this place of a list, from 0, there is something of which this holds
abbrev pub HoldsAt : {X : Type 0} → (X → Type 0) → List X → ℕ → Type 0
HoldsAt {X} Holds xs place = (x : X) × (slice_get xs place ≡ Some x) × Holds x

-- By what happened the return of this station was entered twice: one thing that happened was a
-- first entry and a later one a second entry, both of its slip and counts, and nothing else that
-- happened acted on the station between them or after.
abbrev pub IsEnteredTwiceIn : List Event → List ℕ → StationReturn → Type 0
IsEnteredTwiceIn events station standing =
    AreTwoEntries (HoldsAt (BringsIn is_first_entry station standing) events)
    (HoldsAt (BringsIn is_second_entry station standing) events) (HoldsAt (ActsIn station) events)
