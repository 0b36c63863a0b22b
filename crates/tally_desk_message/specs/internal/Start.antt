-- What the bytes that were read of a message say of it.
use Rattle.std.specs.Prelude.{◌≡◌, ℕ, List, take, ⊤}
use Rattle.httparse.specs.Grammar.{RequestHead}
use Rattle.tally_desk_message.specs.Message.{Announces, HasFaultyHead}
use Rattle.tally_desk_message.specs.declared.start.Start.{Start}
use Rattle.tally_desk_message.specs.declared.message.MessageFault.{MessageFault}
use Rattle.tally_desk_message.specs.declared.message.MessageFault.TheVariants.{BadHead, HeadTooLong}
use Rattle.tally_desk_message.specs.declared.message.MessageFault.TheVariants.{LengthRequired}
use Rattle.tally_desk_message.specs.declared.message.MessageFault.TheVariants.{BadLength}
use Rattle.tally_desk_message.specs.declared.message.MessageFault.TheVariants.{BodyTooLong}
use Rattle.tally_desk_message.specs.declared.message.MessageFault.TheVariants.{EndedEarly}
use Rattle.tally_desk_message.specs.declared.message.MessageFault.TheVariants.{Read, Memory}

pub record IsStartOf
    (bytes : List ℕ) (s : Start) (head : RequestHead) (rest : List ℕ)
    : Type 0 where
  pub announces : Announces bytes s.length head rest
  pub method : s.method ≡ head.method
  pub target : s.target.items ≡ head.target
  pub body : s.body.items ≡ take s.length rest

abbrev pub IsStart : List ℕ → Start → Type 0
IsStart bytes s = (head : RequestHead) × (rest : List ℕ) × IsStartOf bytes s head rest

-- a fault in the head's fields, or out of memory
abbrev pub IsFaultyStart : List ℕ → MessageFault → Type 0
IsFaultyStart bytes BadHead = ⊥
IsFaultyStart bytes HeadTooLong = ⊥
IsFaultyStart bytes LengthRequired = HasFaultyHead bytes LengthRequired
IsFaultyStart bytes BadLength = HasFaultyHead bytes BadLength
IsFaultyStart bytes BodyTooLong = HasFaultyHead bytes BodyTooLong
IsFaultyStart bytes EndedEarly = ⊥
IsFaultyStart bytes Read = ⊥
IsFaultyStart bytes Memory = ⊤
