-- What serving does to the connections of a door and to what a keeper has.
use Rattle.std.specs.Prelude.{◌≡◌, ℕ, ◌+◌, Bool, true, false, if◌then◌else◌, nat_le, List, [], ◌∷◌}
use Rattle.std.specs.Prelude.{◌++◌, length, take, drop, Option, Some, None, option_to_list, Vec}
use Rattle.std.specs.Prelude.{Result, Ok, Err}
use Rattle.std.specs.declared.alloc.Global.{Global}
use Rattle.tally_desk_message.specs.Connection.{Connection, Connections}
use Rattle.tally_desk_message.specs.Message.{IsMessageOrFault}
use Rattle.tally_desk_message.specs.declared.message.Message.{Message}
use Rattle.tally_desk_message.specs.declared.message.MessageFault.{MessageFault}
use Rattle.tally_desk_message.specs.declared.message.MessageFault.TheVariants.{Read}

-- which bytes are answered to a message or a fault over a content, and the content then
abbrev pub Answering : Type 0 → Type 1
Answering C = C → Result Message MessageFault → List ℕ → C → Type 0

-- the bytes of an answer, or others where there is none
abbrev pub text_or : List ℕ → Option (Vec ℕ Global) → List ℕ
text_or otherwise (Some text) = text.items
text_or otherwise None = otherwise

-- No read failed, and an answer was written as far as there was room for it. The connection counts
-- as answered where it was written whole. The content is what it is after the answer, whether that
-- was written whole or not.
abbrev pub IsSent : {C : Type 0}
    → Answering C → C → Connection → Bool → Connection → C → Result Message MessageFault → Type 0
IsSent Answers old c answered d new message =
    (text : List ℕ) × Answers old message text new × (d.written ≡ c.written ++ take c.room text)
    × (answered ≡ nat_le (length text) c.room) × (d.read_failed ≡ c.read_failed)

-- A read failed, nothing was written, and nothing changed.
abbrev pub IsFailed : {C : Type 0} → C → Connection → Bool → Connection → C → Type 0
IsFailed old c answered d new =
    (answered ≡ false) × (d.read_failed ≡ true) × (d.written ≡ c.written) × (new ≡ old)

-- what follows a message or a fault: an answer, but where a read failed
abbrev pub Follows : {C : Type 0}
    → Answering C → C → Connection → Bool → Connection → C → Result Message MessageFault → Type 0
Follows Answers old c answered d new (Ok m) = IsSent Answers old c answered d new (Ok m)
Follows Answers old c answered d new (Err Read) = IsFailed old c answered d new
Follows Answers old c answered d new (Err other) = IsSent Answers old c answered d new (Err other)

-- One connection `c`, left as `d`: the message or the fault that its input is, and what follows it.
abbrev pub IsExchange : {C : Type 0} → Answering C → C → Connection → Bool → Connection → C → Type 0
IsExchange Answers old c answered d new =
    (message : Result Message MessageFault) × IsMessageOrFault c.input c.fails message
    × Follows Answers old c answered d new message

abbrev pub one_if : Bool → ℕ
one_if answered = if answered then 1 else 0

-- Connections one after the other, each over the content that those before it left, and how many
-- were answered.
abbrev pub Serves : {C : Type 0}
    → Answering C → C → List Connection → List Connection → ℕ → C → Type 0
Serves Answers old [] [] answered new = (answered ≡ 0) × (new ≡ old)
Serves {C} Answers old (c ∷ cs) (d ∷ ds) answered new =
    (mid : C) × (whole : Bool) × (rest : ℕ) × IsExchange Answers old c whole d mid
    × (answered ≡ one_if whole + rest) × Serves Answers mid cs ds rest new
Serves Answers old [] (d ∷ ds) answered new = ⊥
Serves Answers old (c ∷ cs) [] answered new = ⊥

-- the connections of a door that were taken up: those that ended, and the current one
abbrev pub connections_taken_up : Connections → List Connection
connections_taken_up all = all.ended ++ option_to_list all.current

-- This many connections of a door, where they are known, were served one after the other: as many
-- of those to come were taken up, the others are still to come, and of those this many were
-- answered over a content, which is then `new`, where the keeper is trusted.
abbrev pub IsServing : {C : Type 0}
    → Answering C → Type 0 → ℕ → ℕ → Option Connections → Option Connections → C → C → Type 0
IsServing Answers IsTrusted count answered known known_new old new =
    (before : Connections) → known ≡ Some before
    → (after : Connections) × (known_new ≡ Some after) × (ended : List Connection)
    × (connections_taken_up after ≡ connections_taken_up before ++ ended)
    × (after.coming ≡ drop count before.coming)
    × (IsTrusted → Serves Answers old (take count before.coming) ended answered new)
