-- What the steps of reading a message leave.
use Rattle.std.specs.Prelude.{◌≡◌, ℕ, ◌<◌, ◌≤◌, Bool, true, false, List, [], ◌++◌, length, take}
use Rattle.std.specs.Prelude.{Result, Ok, Err, IfOk, IfErr, ⊤}
use Rattle.tally_desk_message.specs.Connection.{Connection}
use Rattle.httparse.specs.declared.spans.RequestSpans.{RequestSpans}
use Rattle.tally_desk_message.specs.Message.{OnlyReadsInput, IsFault, FailsAs}
use Rattle.tally_desk_message.specs.declared.message.MessageFault.{MessageFault}
use Rattle.tally_desk_message.specs.declared.message.MessageFault.TheVariants.{BadHead, HeadTooLong}
use Rattle.tally_desk_message.specs.declared.message.MessageFault.TheVariants.{LengthRequired}
use Rattle.tally_desk_message.specs.declared.message.MessageFault.TheVariants.{BadLength}
use Rattle.tally_desk_message.specs.declared.message.MessageFault.TheVariants.{BodyTooLong}
use Rattle.tally_desk_message.specs.declared.message.MessageFault.TheVariants.{EndedEarly}
use Rattle.tally_desk_message.specs.declared.message.MessageFault.TheVariants.{Read, Memory}
use Rattle.tally_desk_message.specs.declared.input.Input.{Input}
use Rattle.tally_desk_message.specs.declared.input.Input.TheVariants.{Bytes, End, Failure}

-- What was taken from the input is after the bytes that were there; a failure is noted.
abbrev pub HasReadOnto : Connection → List ℕ → Input → List ℕ → Connection → Type 0
HasReadOnto c old Bytes new d = (old ++ c.input ≡ new ++ d.input) × (d.read_failed ≡ c.read_failed)
HasReadOnto c old End new d =
    (c.input ≡ []) × (c.fails ≡ false) × (d.input ≡ []) × (new ≡ old)
    × (d.read_failed ≡ c.read_failed)
HasReadOnto c old Failure new d =
    (c.input ≡ []) × (c.fails ≡ true) × (d.input ≡ []) × (new ≡ old) × (d.read_failed ≡ true)

-- Input was taken and put after the bytes that were there.
abbrev pub ReadsOnto : List ℕ → Input → List ℕ → Connection → Connection → Type 0
ReadsOnto old result new c d = OnlyReadsInput c d × HasReadOnto c old result new d

-- Input was taken that begins with a head, and perhaps some of what follows it, or the input has a
-- fault.
abbrev pub ReadsHead : Result RequestSpans MessageFault → List ℕ → Connection → Connection → Type 0
ReadsHead result bytes c d =
    OnlyReadsInput c d × IfOk result (λ _. c.input ≡ bytes ++ d.input)
    × IfErr result (IsFault c.input c.fails) × FailsAs result c d

-- the body of this many bytes with which a text begins, or the fault
abbrev pub IsBodyOrFault : List ℕ → Bool → ℕ → Result ⊤ MessageFault → List ℕ → Type 0
IsBodyOrFault text fails count (Ok _) body = (count ≤ length text) × (body ≡ take count text)
IsBodyOrFault text fails count (Err BadHead) body = ⊥
IsBodyOrFault text fails count (Err HeadTooLong) body = ⊥
IsBodyOrFault text fails count (Err LengthRequired) body = ⊥
IsBodyOrFault text fails count (Err BadLength) body = ⊥
IsBodyOrFault text fails count (Err BodyTooLong) body = ⊥
IsBodyOrFault text fails count (Err EndedEarly) body = (length text < count) × (fails ≡ false)
IsBodyOrFault text fails count (Err Read) body = (length text < count) × (fails ≡ true)
IsBodyOrFault text fails count (Err Memory) body = ⊤

-- Input was taken that completes a body of this many bytes, of which the first were there, or it
-- has a fault.
abbrev pub ReadsBody :
    List ℕ → ℕ → Result ⊤ MessageFault → List ℕ → Connection → Connection → Type 0
ReadsBody old count result body c d =
    OnlyReadsInput c d × IsBodyOrFault (old ++ c.input) c.fails count result body
    × FailsAs result c d
