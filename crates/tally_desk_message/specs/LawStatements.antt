-- The law of messages: bytes are one message. Proved as the clause of a function of `src/laws.rt`.
use Rattle.std.specs.Prelude.{◌≡◌, ◌⊎◌, ℕ, Bool, List, Result, Ok, Err}
use Rattle.tally_desk_message.specs.Message.{IsMessageOrFault}
use Rattle.tally_desk_message.specs.declared.message.Message.{Message}
use Rattle.tally_desk_message.specs.declared.message.MessageFault.{MessageFault}
use Rattle.tally_desk_message.specs.declared.message.MessageFault.TheVariants.{Memory}

-- the same message: method, target and body are equal, byte for byte
abbrev pub IsSameMessage : Message → Message → Type 0
IsSameMessage m again =
    (again.method ≡ m.method) × (again.target.items ≡ m.target.items)
    × (again.body.items ≡ m.body.items)

-- the same message, or the same fault of one
abbrev pub IsSame : Result Message MessageFault → Result Message MessageFault → Type 0
IsSame (Ok m) (Ok again) = IsSameMessage m again
IsSame (Ok m) (Err fault) = ⊥
IsSame (Err fault) (Ok again) = ⊥
IsSame (Err fault) (Err again) = again ≡ fault

-- Bytes that are a message are no other message, and have no fault but that they may be refused
-- memory, whether a read fails after them or not.
abbrev pub BytesAreOneMessage : Type 0
BytesAreOneMessage =
    (text : List ℕ) (fails failing : Bool) (m : Message) (other : Result Message MessageFault)
    → IsMessageOrFault text fails (Ok m) → IsMessageOrFault text failing other
    → IsSame (Ok m) other ⊎ (other ≡ Err Memory)
