-- What functions of the desk give, and what the office is asked to show as they take it.
use Rattle.std.specs.Prelude.{◌≡◌, ℕ, List, Option, Some, None, Vec, Result, Ok, Err}
use Rattle.std.specs.declared.alloc.Global.{Global}
use Rattle.tally_setup.specs.Constituency.{Constituency, ListEntry}
use Rattle.tally_returns.specs.Return.{StationReturn}
use Rattle.tally_returns.specs.State.{State}
use Rattle.tally_returns.specs.declared.ask.Ask.{Ask}
use Rattle.tally_returns.specs.declared.refusal.Refusal.{Refusal}
use Rattle.tally_returns.specs.declared.reply.Reply.{Reply}
use Rattle.tally_returns.specs.declared.reply.Reply.TheVariants as reply
use Rattle.tally_keeper.specs.declared.keeper.Keeper.{Ghosts}
use Rattle.tally_desk_message.specs.declared.message.Message.{Message}
use Rattle.tally_desk_routes.specs.declared.routes.Route.{Route}
use Rattle.tally_desk_answer.specs.declared.word.Word.TheVariants as word
use Rattle.tally_desk.specs.Requests.{MessageAnswer, Commands, Says}
use Rattle.tally_desk.specs.Respond.{IsAnswerOn}

-- an answer; or none where there was no memory for one, and then nothing has changed
abbrev pub Gives : MessageAnswer → Option State → Option (Vec ℕ Global) → Option State → Type 0
Gives IsAnswer old (Some text) new = IsAnswer text.items new
Gives IsAnswer old None new = new ≡ old

-- what is answered by the setup of an office and its state
abbrev pub AnswerBy : Type 1
AnswerBy = List Constituency → Option State → MessageAnswer

-- Where a keeper is trusted after the call, this is answered, by what the keeper was before.
abbrev pub Answered : {K : Type 0} (g : Ghosts K) → AnswerBy → K → List ℕ → K → Type 0
Answered g IsAnswer old text new =
    g.IsTrusted new → IsAnswer (g.constituencies old) (g.content old) text (g.content new)

-- The same, or none where there was no memory for an answer, and then nothing has changed.
abbrev pub GivesBy : {K : Type 0} (g : Ghosts K) → AnswerBy → K → Option (Vec ℕ Global) → K → Type 0
GivesBy g IsAnswer old result new = g.IsTrusted new →
    Gives (IsAnswer (g.constituencies old) (g.content old)) (g.content old) result (g.content new)

-- the same of a message on this route
abbrev pub GivesOn : {K : Type 0} (g : Ghosts K) → Route → Message
    → K → Option (Vec ℕ Global) → K → Type 0
GivesOn g route m old result new =
    GivesBy g (λ setup state. IsAnswerOn setup state route m) old result new

-- the return that was shown, as the reply that showed it
abbrev pub as_return : Result StationReturn Refusal → Result Reply Refusal
as_return (Ok shown) = Ok (reply.Return shown)
as_return (Err why) = Err why

-- the answer to the command that a body was read as, or to a bad body
abbrev pub OrdersRead : List Constituency → Option State → List ListEntry → Option Ask
    → MessageAnswer
OrdersRead setup old lists None text new = Says old word.BadBody text new
OrdersRead setup old lists (Some a) text new = Commands setup old lists a text new
