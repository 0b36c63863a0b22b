-- The start of a message, in the bytes that were read and in the whole text.
use Rattle.std.proofs.Common.{◌≡◌, ℕ, zero, suc, ◌+◌, ◌<◌, ◌≤◌, Bool, true, false, cond, List, [], ◌∷◌, ◌++◌, length, map, take, drop, refl, sym, ap, subst, append_assoc, inr, ◌∙◌, arith, IsTrue, nat_le, codes, bytes_eq, Result, Ok, Err, IsErrAnd}
use Rattle.std.specs.Prelude.{⊤}
use Rattle.std.proofs.lemmas.List.{length-take, length-map, length-append}
use Rattle.std.proofs.lemmas.Bool.{leb-true}
use Rattle.http.specs.Token as http
use Rattle.httparse.specs.Grammar as grammar
use Rattle.httparse.specs.Grammar.{RequestHead}
use Rattle.httparse.specs.Spans.{IsRequestAt, IsRequestWithin, header_bytes, span_bytes, name_and_value}
use Rattle.httparse.specs.declared.spans.HeaderSpan.{HeaderSpan}
use Rattle.httparse.specs.declared.spans.RequestSpans.{RequestSpans}
use Rattle.httparse.proofs.GrammarLemmas.{ReadsRequest-append}
use Rattle.std.specs.List.{list_any}
use Rattle.std.specs.Str.Parse.{digits_value}
use Rattle.tally_desk_message.specs.Connection.{Connection}
use Rattle.tally_desk_message.specs.internal.Reading.{IsBodyOrFault}
use Rattle.tally_desk_message.specs.Message.{OnlyReadsInput, FailsAs, head_limit, field_limit, body_limit, NameAndValue, is_field_named, values_of, single_value, is_content_length, content_length, length_by, BeginsWithHead, Announces, IsFault, IsMessageOrFault, HasCutBody, announced_length, body_length}
use Rattle.tally_desk_message.specs.internal.Start.{IsStart, IsFaultyStart}
use Rattle.tally_desk_message.specs.declared.start.Start.{Start}
use Rattle.tally_desk_message.specs.declared.message.Message.{Message}
use Rattle.tally_desk_message.specs.declared.message.MessageFault.{MessageFault}
use Rattle.tally_desk_message.specs.declared.message.MessageFault.TheVariants.{BadHead, HeadTooLong, LengthRequired, BadLength, BodyTooLong, EndedEarly, Read, Memory}

-- the two crates have the same tokens
same_byte : (b : ℕ) → grammar.is_token_byte b ≡ http.is_token_byte b
unfolding grammar.is_token_byte http.is_token_byte
same_byte b = refl

pub token : (m : List ℕ) → grammar.IsToken m → http.IsToken m
token m is = (is.0, λ k d within. subst IsTrue (same_byte _) (is.1 k d within))

-- a whole head in the bytes that were read
pub begins : (bytes : List ℕ) (headers : List HeaderSpan) (r : RequestSpans) (h : RequestHead) → length bytes ≤ head_limit → length headers ≡ field_limit
    → IsRequestWithin bytes headers r → IsRequestAt bytes headers r h → BeginsWithHead bytes h (drop r.len bytes)
begins bytes headers r h short room within at =
    let count : length h.fields ≡ length (take r.headers headers) =
    sym (length-map h.fields name_and_value) ∙ ap length (sym at.fields) ∙ length-map (take r.headers headers) (header_bytes bytes) in
    let taken = length-take r.headers headers in
    record {
      reads = at.reads;
      short = omega (arith, short, at.len, within.section.len_fits);
      few = omega (arith, count, taken, room);
      method = token h.method at.reads.0.method;
    }

pub same_length : (bytes : List ℕ) (headers : List HeaderSpan) (r : RequestSpans) (h : RequestHead) → IsRequestAt bytes headers r h
    → announced_length (span_bytes bytes r.method) (map (header_bytes bytes) (take r.headers headers)) ≡ body_length h
same_length bytes headers r h at = ap (λ m. announced_length m (map (header_bytes bytes) (take r.headers headers))) at.method ∙ ap (announced_length h.method) at.fields

pub more : (bytes left : List ℕ) (h : RequestHead) (rest : List ℕ) → BeginsWithHead bytes h rest → BeginsWithHead (bytes ++ left) h (rest ++ left)
more bytes left h rest b = record { reads = ReadsRequest-append bytes h rest left b.reads; short = b.short; few = b.few; method = b.method }

-- the body, of which the first bytes were taken
pub body_length_is : (n : ℕ) (rest left : List ℕ) → n ≤ length (take n rest ++ left) → n ≤ length (rest ++ left)
body_length_is n rest left h =
    let a = length-append (take n rest) left in let b = length-append rest left in let c = length-take n rest in omega (arith, a, b, c, h)

pub body_short : (n : ℕ) (rest left : List ℕ) → length (take n rest ++ left) < n → length (rest ++ left) < n
body_short n rest left h =
    let a = length-append (take n rest) left in let b = length-append rest left in let c = length-take n rest in omega (arith, a, b, c, h)

pub body_is : (n : ℕ) (rest left : List ℕ) → take n (take n rest ++ left) ≡ take n (rest ++ left)
body_is zero rest left = refl
body_is (suc n) [] left = refl
body_is (suc n) (x ∷ rest) left = ap (λ t. x ∷ t) (body_is n rest left)

-- ---- the length, or the fault, that a head's fields may have

abbrev IsFieldFault : MessageFault → Type 0
IsFieldFault BadHead = ⊥
IsFieldFault HeadTooLong = ⊥
IsFieldFault LengthRequired = Unit {0}
IsFieldFault BadLength = Unit {0}
IsFieldFault BodyTooLong = Unit {0}
IsFieldFault EndedEarly = ⊥
IsFieldFault Read = ⊥
IsFieldFault Memory = ⊥

either : {X : Type 0} (P : X → Type 0) (b : Bool) (x y : X) → P x → P y → P (cond b x y)
either P true x y px py = px
either P false x y px py = py

abbrev Passes : Result ℕ MessageFault → Type 0
Passes (Ok count) = count ≤ body_limit
Passes (Err fault) = IsFieldFault fault

within_limit : (n : ℕ) (b : Bool) → nat_le n body_limit ≡ b → Passes (cond b (Ok n) (Err BodyTooLong))
within_limit n true is = leb-true n body_limit is
within_limit n false is = tt

number_fault : (v : List ℕ) → Passes (content_length v)
number_fault v = either Passes (is_content_length v) _ (Err BadLength) (within_limit (digits_value 10 v) _ refl) tt

from_fault : (post : Bool) (vs : List (List ℕ)) → Passes (length_by post (single_value vs))
from_fault post [] = either Passes post (Err LengthRequired) (Ok 0) tt (omega arith)
from_fault post (v ∷ []) = number_fault v
from_fault post (v ∷ w ∷ vs) = tt

length_fault : (m : List ℕ) (fields : List NameAndValue) → Passes (announced_length m fields)
length_fault m fields = either Passes (list_any (is_field_named (codes "transfer-encoding")) fields) (Err LengthRequired) (length_by (bytes_eq m (codes "POST")) (single_value (values_of (codes "content-length") fields))) tt (from_fault (bytes_eq m (codes "POST")) (values_of (codes "content-length") fields))

pub faulty_start : (bytes : List ℕ) (e : MessageFault) (h : RequestHead) (rest : List ℕ) → BeginsWithHead bytes h rest → body_length h ≡ Err e → IsFaultyStart bytes e
faulty_start bytes e h rest begins is = go e begins is (subst Passes is (length_fault h.method (map name_and_value h.fields)))
  where
    go : (e : MessageFault) → BeginsWithHead bytes h rest → body_length h ≡ Err e → IsFieldFault e → IsFaultyStart bytes e
    go BadHead b i k = absurd k
    go HeadTooLong b i k = absurd k
    go LengthRequired b i k = (h, rest, b, i)
    go BadLength b i k = (h, rest, b, i)
    go BodyTooLong b i k = (h, rest, b, i)
    go EndedEarly b i k = absurd k
    go Read b i k = absurd k
    go Memory b i k = absurd k

pub short_body : (bytes : List ℕ) (s : Start) → IsStart bytes s → s.length ≤ body_limit
short_body bytes s (h, rest, is) = subst Passes is.announces.length (length_fault h.method (map name_and_value h.fields))

-- the same fault of the whole text
pub whole_fault : (bytes left : List ℕ) (fails : Bool) (e : MessageFault) → IsFaultyStart bytes e → IsFault (bytes ++ left) fails e
whole_fault bytes left fails BadHead b = absurd b
whole_fault bytes left fails HeadTooLong b = absurd b
whole_fault bytes left fails LengthRequired (h, rest, b, i) = (h, rest ++ left, more bytes left h rest b, i)
whole_fault bytes left fails BadLength (h, rest, b, i) = (h, rest ++ left, more bytes left h rest b, i)
whole_fault bytes left fails BodyTooLong (h, rest, b, i) = (h, rest ++ left, more bytes left h rest b, i)
whole_fault bytes left fails EndedEarly b = absurd b
whole_fault bytes left fails Read b = absurd b
whole_fault bytes left fails Memory b = tt

-- and of the body
pub cut_fault : (bytes left : List ℕ) (fails : Bool) (s : Start) (e : MessageFault) (body : List ℕ) → IsStart bytes s → IsBodyOrFault (s.body.items ++ left) fails s.length (Err e) body → IsFault (bytes ++ left) fails e
cut_fault bytes left fails s e body (h, rest, is) reads = go e (subst (λ t. IsBodyOrFault (t ++ left) fails s.length (Err e) body) is.body reads)
  where
    announced : Announces (bytes ++ left) s.length h (rest ++ left)
    announced = record { begins = more bytes left h rest is.announces.begins; length = is.announces.length }

    short : length (take s.length rest ++ left) < s.length → HasCutBody (bytes ++ left)
    short cut = (s.length, h, rest ++ left, announced, body_short s.length rest left cut)

    go : (e : MessageFault) → IsBodyOrFault (take s.length rest ++ left) fails s.length (Err e) body → IsFault (bytes ++ left) fails e
    go BadHead r = absurd r
    go HeadTooLong r = absurd r
    go LengthRequired r = absurd r
    go BadLength r = absurd r
    go BodyTooLong r = absurd r
    go EndedEarly r = (r.1, short r.0)
    go Read r = (r.1, inr (short r.0))
    go Memory r = tt

pub whole_message : (bytes left : List ℕ) (fails : Bool) (s : Start) (m : Message) → IsStart bytes s → m.method ≡ s.method → m.target.items ≡ s.target.items → IsBodyOrFault (s.body.items ++ left) fails s.length (Ok tt) m.body.items → IsMessageOrFault (bytes ++ left) fails (Ok m)
whole_message bytes left fails s m (h, rest, is) method target reads =
    let r : IsBodyOrFault (take s.length rest ++ left) fails s.length (Ok tt) m.body.items = subst (λ t. IsBodyOrFault (t ++ left) fails s.length (Ok tt) m.body.items) is.body reads in (
      s.length,
      h,
      rest ++ left,
      record {
        announces = record { begins = more bytes left h rest is.announces.begins; length = is.announces.length };
        whole = body_length_is s.length rest left r.0;
        method = method ∙ is.method;
        target = target ∙ is.target;
        body = r.1 ∙ body_is s.length rest left;
      },
    )

pub reads_on : (a b c : Connection) → OnlyReadsInput a b → OnlyReadsInput b c → OnlyReadsInput a c
reads_on a b c first second = (
  first.0 ++ second.0,
  first.1 ∙ ap (λ t. first.0 ++ t) second.1 ∙ sym (append_assoc first.0 second.0 c.input),
  second.2 ∙ ap (λ (t : Connection). let same : Connection = record t { input = c.input; read_failed = c.read_failed } in same) first.2,
)

-- what came was put after what was there, so it is no longer than both
pub no_longer : (old input buf left : List ℕ) → old ++ input ≡ buf ++ left → length input ≤ length buf + length left
no_longer old input buf left same =
    omega (arith, sym (length-append old input) ∙ ap length same ∙ length-append buf left)

-- ---- out of memory

pub refused_body : (text : List ℕ) (fails : Bool) (count : ℕ) (body : List ℕ) (r : Result ⊤ MessageFault) → IsErrAnd r (λ fault. fault ≡ Memory)
    → IsBodyOrFault text fails count r body
refused_body text fails count body (Ok whole) is = absurd is
refused_body text fails count body (Err fault) is = subst (λ e. IsBodyOrFault text fails count (Err e) body) (sym is) tt

pub refused_failure : {X : Type 0} (r : Result X MessageFault) (c d : Connection) → IsErrAnd r (λ fault. fault ≡ Memory) → d.read_failed ≡ c.read_failed → FailsAs r c d
refused_failure {X} (Ok x) c d is same = absurd is
refused_failure {X} (Err fault) c d is same = subst (λ e. FailsAs {X = X} (Err e) c d) (sym is) same
