-- Connections that bring the same bytes bring the same message.
use Rattle.std.specs.Prelude.{IfSome}
use Rattle.std.proofs.Common.{◌≡◌, ◌≢◌, ◌⊎◌, ℕ, List, Bool, Option, Some, None, Result, Ok, Err, refl, sym, ap, subst, inl, inr}
use Rattle.tally_keeper.specs.Keeper.{Event}
use Rattle.tally_desk_message.specs.Connection.{Connection}
use Rattle.tally_returns.specs.State.{State}
use Rattle.tally_desk_message.specs.LawStatements.{BytesAreOneMessage, IsSame}
use Rattle.tally_desk_message.specs.Message.{IsMessageOrFault}
use Rattle.tally_desk_message.specs.declared.message.Message.{Message}
use Rattle.tally_desk_message.specs.declared.message.MessageFault.{MessageFault}
use Rattle.tally_desk_message.specs.declared.message.MessageFault.TheVariants as fault
use Rattle.tally_desk.specs.Serving.{Follows, IsExchange, IsFailed, IsSent}
use Rattle.tally_desk_answer.specs.Words.{word_text}
use Rattle.tally_desk_answer.specs.declared.word.Word.{Word}
use Rattle.tally_desk_answer.specs.declared.word.Word.TheVariants.{Unavailable}
use Rattle.tally_desk.specs.Respond.{Answers, Office, SaysAny, fault_word}
use Rattle.tally_theorems.specs.MessageLaws.{ComesTo, ImportsLodgeNothingAgain, IsOfImport, IsWrittenTo, StateStays, ReportsNoImport, ReportsNothingLodged, WhatActedActsNoSecondTime}

-- a fault leaves the state, and its answer is a word
fault-says : (old new : Office) (why : MessageFault) (text : List ℕ) → Answers old (Err why) text new → (w : Word) × (text ≡ word_text w) × (new.state ≡ old.state)
fault-says old new why text (setup, inr said) = (Unavailable, said.0, said.1)
fault-says old new why text (setup, inl is) = by (fault_word why) is
  where
    by : (o : Option Word) → SaysAny old.state o text new.state → (w : Word) × (text ≡ word_text w) × (new.state ≡ old.state)
    by None said = absurd said
    by (Some w) said = (w, said.0, said.1)

same-stays : (old new : Office) → new.state ≡ old.state → StateStays old new
same-stays old new same = by new.state same
  where
    by : (o : Option State) → o ≡ old.state → IfSome o (λ s. old.state ≡ Some s)
    by None is = tt
    by (Some s) is = sym is

-- a connection was answered, or a read of it failed
follows : (old new : Office) (c d : Connection) (whole : Bool) (message : Result Message MessageFault) → Follows Answers old c whole d new message
    → IsSent Answers old c whole d new message ⊎ IsFailed old c whole d new
follows old new c d whole (Ok m) is = inl is
follows old new c d whole (Err fault.BadHead) is = inl is
follows old new c d whole (Err fault.HeadTooLong) is = inl is
follows old new c d whole (Err fault.LengthRequired) is = inl is
follows old new c d whole (Err fault.BadLength) is = inl is
follows old new c d whole (Err fault.BodyTooLong) is = inl is
follows old new c d whole (Err fault.EndedEarly) is = inl is
follows old new c d whole (Err fault.Read) is = inr is
follows old new c d whole (Err fault.Memory) is = inl is

pub bytes-acted : BytesAreOneMessage → WhatActedActsNoSecondTime → (old mid later new : Office) (c d again e : Connection) (whole other : Bool) (events : List Event)
    → again.input ≡ c.input → IsExchange Answers old c whole d mid → mid.state ≢ old.state → ComesTo mid events later
    → IsExchange Answers later again other e new → StateStays later new
bytes-acted one acted old mid later new c d again e whole other events same first changed between second =
    both first.0 second.0 first.1 (subst (λ t. IsMessageOrFault t again.fails second.0) same second.1)
    (follows old mid c d whole first.0 first.2) (follows later new again e other second.0 second.2)
  where
    alike : (m : Message) (o : Result Message MessageFault) (text said : List ℕ) → IsSame (Ok m) o ⊎ (o ≡ Err fault.Memory)
        → Answers old (Ok m) text mid → Answers later o said new → StateStays later new
    alike m o text said (inl equal) answered answered_again = acted old mid later new (Ok m) o text said events equal answered changed between answered_again
    alike m o text said (inr refused) answered answered_again =
        let word = fault-says later new fault.Memory said (subst (λ x. Answers later x said new) refused answered_again) in same-stays later new word.2

    sent : (m o : Result Message MessageFault) (text said : List ℕ) → IsMessageOrFault c.input c.fails m → IsMessageOrFault c.input again.fails o
        → Answers old m text mid → Answers later o said new → StateStays later new
    sent (Ok m) o text said is is_again answered answered_again = alike m o text said (one c.input c.fails again.fails m o is is_again) answered answered_again
    sent (Err why) o text said is is_again answered answered_again = absurd (changed (fault-says old mid why text answered).2)

    both : (m o : Result Message MessageFault) → IsMessageOrFault c.input c.fails m → IsMessageOrFault c.input again.fails o
        → IsSent Answers old c whole d mid m ⊎ IsFailed old c whole d mid → IsSent Answers later again other e new o ⊎ IsFailed later again other e new
        → StateStays later new
    both m o is is_again (inl a) (inl b) = sent m o a.0 b.0 is is_again a.1 b.1
    both m o is is_again (inr failed) b = absurd (changed (ap (λ (x : Office). x.state) failed.3))
    both m o is is_again (inl a) (inr failed) = same-stays later new (ap (λ (x : Office). x.state) failed.3)

pub bytes-imported : BytesAreOneMessage → ImportsLodgeNothingAgain → (old mid later new : Office) (c again e : Connection) (m : Message) (text : List ℕ) (other : Bool) (events : List Event)
    → IsMessageOrFault c.input c.fails (Ok m) → IsOfImport m → Answers old (Ok m) text mid → text ≢ word_text Unavailable → ComesTo mid events later
    → again.input ≡ c.input → IsExchange Answers later again other e new
    → StateStays later new × ((ensured : List ℕ) × IsWrittenTo again e ensured × (ReportsNothingLodged ensured ⊎ ReportsNoImport ensured))
bytes-imported one imported old mid later new c again e m text other events is import answered good between same second =
    by second.0 (one c.input c.fails again.fails m second.0 is (subst (λ t. IsMessageOrFault t again.fails second.0) same second.1))
    (follows later new again e other second.0 second.2)
  where
    Vain : Type 0
    Vain = StateStays later new × ((ensured : List ℕ) × IsWrittenTo again e ensured × (ReportsNothingLodged ensured ⊎ ReportsNoImport ensured))

    sent : (o : Result Message MessageFault) → IsSame (Ok m) o ⊎ (o ≡ Err fault.Memory) → IsSent Answers later again other e new o → Vain
    sent (Ok n) (inl alike) b = let vain = imported old mid later new m n text b.0 events alike import answered good between b.1 in (vain.0, (b.0, inl b.2, vain.1))
    sent (Err why) (inl alike) b = absurd alike
    sent (Ok n) (inr refused) b = absurd (let k = refused in cc)
    sent (Err why) (inr refused) b = let word = fault-says later new why b.0 b.1 in (same-stays later new word.2, (b.0, inl b.2, inr (inl (word.0, word.1))))

    by : (o : Result Message MessageFault) → IsSame (Ok m) o ⊎ (o ≡ Err fault.Memory)
        → IsSent Answers later again other e new o ⊎ IsFailed later again other e new → Vain
    by o alike (inl b) = sent o alike b
    by o alike (inr failed) =
        (same-stays later new (ap (λ (x : Office). x.state) failed.3), (word_text Unavailable, inr failed.2, inr (inl (Unavailable, refl))))
