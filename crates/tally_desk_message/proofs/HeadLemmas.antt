-- Heads in the bytes that came so far, and in the whole text.
use Rattle.std.proofs.Common.{◌≡◌, ℕ, Bool, false, ◌+◌, ◌-◌, ◌≤◌, ◌<◌, List, [], ◌++◌, length, take, drop, sym, ap, subst, append_assoc, append-nil, inl, inr, ◌∙◌, arith}
use Rattle.std.proofs.Math.Seq.{take-append_seam, take-append-add, take-length}
use Rattle.std.proofs.lemmas.List.{take-append-drop, take-append-le, length-append, length-drop}
use Rattle.httparse.specs.Grammar.{ReadsRequest, HasNoRequest, print_request}
use Rattle.httparse.specs.Spans.{RequestOverflows}
use Rattle.tally_desk_message.specs.Message.{head_limit, field_limit, HasNoHead, CannotBecomeHead, IsFault}
use Rattle.tally_desk_message.specs.declared.message.MessageFault.{MessageFault}
use Rattle.tally_desk_message.specs.declared.message.MessageFault.TheVariants.{BadHead, HeadTooLong}

-- the shorter of two fronts of a text is a front of the longer
pub shorter_front : (a b r l : List ℕ) → a ++ r ≡ b ++ l → length a ≤ length b → b ≡ a ++ drop (length a) b
shorter_front a b r l same short =
    let front : take (length a) b ≡ a = sym (take-append-le (length a) b l short) ∙ ap (take (length a)) (sym same) ∙ take-append_seam a r in
    sym (take-append-drop (length a) b) ∙ ap (λ t. t ++ drop (length a) b) front

pub none_yet : (text : List ℕ) → HasNoRequest text → HasNoHead text
none_yet text none h rest begins = none h rest begins.reads

-- this many bytes have no head: what follows makes no head of that many bytes
pub none_in : (text buf left : List ℕ) → text ≡ buf ++ left → HasNoRequest buf → head_limit ≤ length buf → HasNoHead text
none_in text buf left is none full h rest begins =
    let same : print_request h ++ rest ≡ buf ++ left = sym begins.reads.1 ∙ is in
    let front = shorter_front (print_request h) buf rest left same (omega (arith, full, begins.short)) in
    none h (drop (length (print_request h)) buf) (begins.reads.0, front)

pub none_ever : (text buf left : List ℕ) → text ≡ buf ++ left → RequestOverflows field_limit buf → HasNoHead text
none_ever text buf left is over h rest begins =
    let long = over left h rest (subst (λ t. ReadsRequest t h rest) is begins.reads) in
    absurd (omega (arith, long, begins.few))

past : (n : ℕ) (a b : List ℕ) → length a ≤ n → take n (a ++ b) ≡ a ++ take (n - length a) b
past n a b within = ap (λ k. take k (a ++ b)) (let e : n ≡ length a + (n - length a) = omega (arith, within) in e) ∙ take-append-add a b (n - length a)

pub cannot_become : (text buf left : List ℕ) → text ≡ buf ++ left → length buf ≤ head_limit → RequestOverflows field_limit buf → CannotBecomeHead (take head_limit text)
cannot_become text buf left is short over more h rest reads few =
    let cut : take head_limit text ≡ buf ++ take (head_limit - length buf) left = ap (take head_limit) is ∙ past head_limit buf left short in
    let whole : take head_limit text ++ more ≡ buf ++ (take (head_limit - length buf) left ++ more) = ap (λ t. t ++ more) cut ∙ append_assoc buf (take (head_limit - length buf) left) more in
    let long = over (take (head_limit - length buf) left ++ more) h rest (subst (λ t. ReadsRequest t h rest) whole reads) in
    absurd (omega (arith, long, few))

pub longer : (text buf left : List ℕ) → text ≡ buf ++ left → head_limit ≤ length buf → head_limit ≤ length text
longer text buf left is full = let long : length text ≡ length buf + length left = ap length is ∙ length-append buf left in omega (arith, long, full)

-- the text ended before its head did
pub ended_head : (text buf left : List ℕ) (fails : Bool) → text ≡ buf ++ left → left ≡ [] → fails ≡ false → length buf < head_limit → HasNoRequest buf → IsFault text fails BadHead
ended_head text buf left fails is empty ended short none =
    let same : text ≡ buf = is ∙ ap (λ t. buf ++ t) empty ∙ append-nil buf in
    subst (λ t. IsFault t fails BadHead) (sym same) (none_yet buf none, inl (short, ended))

-- bytes of which no head can come
pub overflowing_head : (text buf left : List ℕ) (fails : Bool) (found : MessageFault) → text ≡ buf ++ left → length buf ≤ head_limit
    → (found ≡ BadHead) × RequestOverflows field_limit buf → IsFault text fails found
overflowing_head text buf left fails found is short (bad, over) =
    subst (IsFault text fails) (sym bad) (none_ever text buf left is over, inr (cannot_become text buf left is short over))

pub too_long_head : (text buf left : List ℕ) (fails : Bool) → text ≡ buf ++ left → head_limit ≤ length buf → HasNoRequest buf → IsFault text fails HeadTooLong
too_long_head text buf left fails is full none = (none_in text buf left is none full, longer text buf left is full)

-- a slice from a place on
pub rest_all : {X : Type 0} (xs : List X) (at : ℕ) → take (length xs - at) (drop at xs) ≡ drop at xs
rest_all xs at = ap (λ n. take n (drop at xs)) (sym (length-drop at xs)) ∙ take-length (drop at xs)
