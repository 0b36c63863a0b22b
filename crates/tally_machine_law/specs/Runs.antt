-- Runs, their equal commands, and what is left of a run where some requests are left out.
use Rattle.std.specs.Prelude.{◌≡◌, if◌then◌else◌, ◌+◌, ℕ, Bool, true, false, List, [], ◌∷◌, Result}
use Rattle.std.specs.Prelude.{Ok, Err}
use Rattle.tally_setup.specs.Constituency.{Constituency}
use Rattle.tally_machine_law.specs.Step.{IsAnswered}
use Rattle.tally_returns.specs.AskSeen.{ask_seen}
use Rattle.tally_returns.specs.declared.ask.Ask.{Ask}
use Rattle.tally_returns.specs.declared.refusal.Refusal.{Refusal}
use Rattle.tally_returns.specs.declared.reply.Reply.{Reply}
use Rattle.tally_returns.specs.declared.reply.Reply.TheVariants.{Lodged, Same, Moved, Return}
use Rattle.tally_returns.specs.declared.reply.Reply.TheVariants.{Edition, Vacated, Con, Progress}
use Rattle.tally_returns.specs.State.{State}

-- A run: requests one after the other, their answers and the last state.
abbrev pub IsRun : List Constituency → State → List Ask → List (Result Reply Refusal) → State
    → Type 0
IsRun setup s [] [] t = t ≡ s
IsRun setup s (ask ∷ asks) (r ∷ rs) t =
    (mid : State) × IsAnswered setup s ask r mid × IsRun setup mid asks rs t
IsRun setup s [] (r ∷ rs) t = ⊥
IsRun setup s (ask ∷ asks) [] t = ⊥

-- whether a command acted, by its answer: Same and what is shown do not act
abbrev pub is_act : Result Reply Refusal → Bool
is_act (Ok (Lodged rev)) = true
is_act (Ok (Same rev)) = false
is_act (Ok (Moved rev)) = true
is_act (Ok (Return standing)) = false
is_act (Ok (Edition edition)) = true
is_act (Ok (Vacated next)) = true
is_act (Ok (Con view)) = false
is_act (Ok (Progress rows)) = false
is_act (Err refusal) = false

-- The same command: all its parts are equal. A note is compared by its text and an order by its
-- codes, not by how a program keeps them.
abbrev pub IsSameCommand : Ask → Ask → Type 0
IsSameCommand ask other = ask_seen ask ≡ ask_seen other

-- the requests that acted, by what they were answered
abbrev pub acting_asks : List Ask → List (Result Reply Refusal) → List Ask
acting_asks (ask ∷ asks) (r ∷ rs) =
    if is_act r then ask ∷ acting_asks asks rs else acting_asks asks rs
acting_asks [] rs = []
acting_asks (ask ∷ asks) [] = []

-- the elements whose places, from 0, are kept
abbrev pub kept_elements : {X : Type 0} → (ℕ → Bool) → List X → List X
kept_elements keep [] = []
kept_elements keep (x ∷ xs) =
    if keep 0
    then x ∷ kept_elements (λ i. keep (i + 1)) xs
    else kept_elements (λ i. keep (i + 1)) xs
