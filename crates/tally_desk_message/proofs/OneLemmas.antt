-- Bytes are one message: the grammar of heads has one reading, and a head announces one length.
use Rattle.std.proofs.Common.{◌≡◌, ◌⊎◌, ◌∙◌, ℕ, List, Bool, length, take, Result, Ok, Err, sym, ap, inl, inr, arith, refl}
use Rattle.httparse.specs.Grammar.{RequestHead}
use Rattle.httparse.proofs.GrammarLemmas.{request_unique}
use Rattle.tally_desk_message.specs.LawStatements.{IsSame, IsSameMessage}
use Rattle.tally_desk_message.specs.Message.{Announces, BeginsWithHead, HasCutBody, HasFaultyHead, HasNoHead, IsFault, IsMessage, IsMessageOrFault, body_length}
use Rattle.tally_desk_message.specs.declared.message.Message.{Message}
use Rattle.tally_desk_message.specs.declared.message.MessageFault.{MessageFault}
use Rattle.tally_desk_message.specs.declared.message.MessageFault.TheVariants.{BadHead, HeadTooLong, LengthRequired, BadLength, BodyTooLong, EndedEarly, Read, Memory}

one-head : (text : List ℕ) (h k : RequestHead) (r q : List ℕ) → BeginsWithHead text h r → BeginsWithHead text k q → (h ≡ k) × (r ≡ q)
one-head text h k r q first second = request_unique text h k r q first.reads second.reads

one-length : (text : List ℕ) (n j : ℕ) (h k : RequestHead) (r q : List ℕ) → Announces text n h r → Announces text j k q → n ≡ j
one-length text n j h k r q first second =
    let heads = one-head text h k r q first.begins second.begins in
    let same : ◌≡◌ {A = Result ℕ MessageFault} (Ok n) (Ok j) = sym first.length ∙ ap body_length heads.0 ∙ second.length in cc

one-message : (text : List ℕ) (m o : Message) (n j : ℕ) (h k : RequestHead) (r q : List ℕ) → IsMessage text m n h r → IsMessage text o j k q → IsSameMessage m o
one-message text m o n j h k r q first second =
    let heads = one-head text h k r q first.announces.begins second.announces.begins in
    let count : n ≡ j = one-length text n j h k r q first.announces second.announces in (
      second.method ∙ sym (ap (λ (x : RequestHead). x.method) heads.0) ∙ sym first.method,
      second.target ∙ sym (ap (λ (x : RequestHead). x.target) heads.0) ∙ sym first.target,
      second.body ∙ sym (ap (λ c. take c q) count) ∙ sym (ap (take n) heads.1) ∙ sym first.body,
    )

-- the fields of a message's head have no fault
not-faulty : (text : List ℕ) (n : ℕ) (h : RequestHead) (r : List ℕ) (fault : MessageFault) → Announces text n h r → HasFaultyHead text fault → ⊥
not-faulty text n h r fault is (k, q, begins, faulty) =
    let heads = one-head text h k r q is.begins begins in
    let both : ◌≡◌ {A = Result ℕ MessageFault} (Ok n) (Err fault) = sym is.length ∙ ap body_length heads.0 ∙ faulty in
    absurd (let k = both in cc)

-- the body of a message is not cut
not-cut : (text : List ℕ) (m : Message) (n : ℕ) (h : RequestHead) (r : List ℕ) → IsMessage text m n h r → HasCutBody text → ⊥
not-cut text m n h r is (j, k, q, announces, short) =
    let heads = one-head text h k r q is.announces.begins announces.begins in
    let count : n ≡ j = one-length text n j h k r q is.announces announces in
    let left : length r ≡ length q = ap length heads.1 in
    absurd (omega (arith, is.whole, short, left, count))

not-none : (text : List ℕ) (h : RequestHead) (r : List ℕ) → BeginsWithHead text h r → HasNoHead text → ⊥
not-none text h r is none = none h r is

no-fault : (text : List ℕ) (failing : Bool) (m : Message) (n : ℕ) (h : RequestHead) (r : List ℕ) (fault : MessageFault) → IsMessage text m n h r
    → IsFault text failing fault → ◌≡◌ {A = Result Message MessageFault} (Err fault) (Err Memory)
no-fault text failing m n h r BadHead is other = absurd (not-none text h r is.announces.begins other.0)
no-fault text failing m n h r HeadTooLong is other = absurd (not-none text h r is.announces.begins other.0)
no-fault text failing m n h r LengthRequired is other = absurd (not-faulty text n h r LengthRequired is.announces other)
no-fault text failing m n h r BadLength is other = absurd (not-faulty text n h r BadLength is.announces other)
no-fault text failing m n h r BodyTooLong is other = absurd (not-faulty text n h r BodyTooLong is.announces other)
no-fault text failing m n h r EndedEarly is other = absurd (not-cut text m n h r is other.1)
no-fault text failing m n h r Read is (fails, inl none) = absurd (not-none text h r is.announces.begins none.0)
no-fault text failing m n h r Read is (fails, inr cut) = absurd (not-cut text m n h r is cut)
no-fault text failing m n h r Memory is other = refl

pub bytes-are-one : (text : List ℕ) (fails failing : Bool) (m : Message) (other : Result Message MessageFault)
    → IsMessageOrFault text fails (Ok m) → IsMessageOrFault text failing other → IsSame (Ok m) other ⊎ (other ≡ Err Memory)
bytes-are-one text fails failing m (Ok o) (n, h, r, is) (j, k, q, again) = inl (one-message text m o n j h k r q is again)
bytes-are-one text fails failing m (Err fault) (n, h, r, is) again = inr (no-fault text failing m n h r fault is again)
