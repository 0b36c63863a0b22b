-- A head ends with an empty line after its first line, so bytes in
-- which no such line ends have no head.
use Rattle.std.proofs.Common.{◌≡◌, ℕ, ◌<◌, ◌≤◌, Bool, true, false, cond, ◌&&◌, ◌==◌, List, [], ◌∷◌, ◌++◌, length, take, drop, get_or, refl, sym, ap, ap₂, subst, append_assoc, append-nil, ◌∙◌, arith, IsTrue, true≢false, flat_map}
use Rattle.std.proofs.lemmas.Map.Views.{exact_unsigned_eq}
use Rattle.std.proofs.lemmas.List.{take-append-drop, length-append}
use Rattle.httparse.specs.Grammar.{LineEnd, crlf, lf, print_end, print_blank, print_version, is_token_byte, Field, print_field, RequestHead, IsRequestHead, print_request, ReadsRequest, HasNoRequest}
use Rattle.httparse.proofs.GrammarLemmas.{ReadsRequest-append, cons-append}
use Rattle.tally_desk_message.specs.internal.Lines.{no_lines, lines_with, lines_after}
use Rattle.tally_desk_message.specs.declared.lines.Lines.{Lines}
use Rattle.tally_desk_message.proofs.HeadLemmas.{shorter_front}

pub lines_append : (l : Lines) (a b : List ℕ) → lines_after l (a ++ b) ≡ lines_after (lines_after l a) b
lines_append l [] b = refl
lines_append l (x ∷ a) b = lines_append (lines_with x l) a b

begun_by : (a b : Bool) (l ended other : Lines) → l.begun ≡ true → ended.begun ≡ true → other.begun ≡ true → (let now : Lines = cond a ended (cond b l other) in now.begun) ≡ true
begun_by true b l ended other is e o = e
begun_by false true l ended other is e o = is
begun_by false false l ended other is e o = o

still_begun : (l : Lines) (bytes : List ℕ) → l.begun ≡ true → (lines_after l bytes).begun ≡ true
still_begun l [] is = is
still_begun l (x ∷ bytes) is =
    still_begun (lines_with x l) bytes (begun_by (x == 10) (x == 13) l (record { begun = l.begun; empty = true }) (record { begun = true; empty = false }) is is refl)

empty_behind : (l : Lines) (e : LineEnd) → (lines_after l (print_end e)).empty ≡ true
empty_behind l crlf = refl
empty_behind l lf = refl

-- ---- a token begins a line that is not empty

no_token_ten : IsTrue (is_token_byte 10) → ⊥
unfolding is_token_byte
no_token_ten is = true≢false (sym is)

no_token_thirteen : IsTrue (is_token_byte 13) → ⊥
unfolding is_token_byte
no_token_thirteen is = true≢false (sym is)

begun_with : (x : ℕ) (l : Lines) → IsTrue (is_token_byte x) → (lines_with x l).begun ≡ true
begun_with x l is = go (x == 10) (x == 13) refl refl
  where
    ended : Lines
    ended = record { begun = l.begun; empty = true }

    other : Lines
    other = record { begun = true; empty = false }

    go : (a b : Bool) → (x == 10) ≡ a → (x == 13) ≡ b → (lines_with x l).begun ≡ true
    go true b ten return = absurd (no_token_ten (subst (λ y. IsTrue (is_token_byte y)) (exact_unsigned_eq x 10 ten) is))
    go false true ten return = absurd (no_token_thirteen (subst (λ y. IsTrue (is_token_byte y)) (exact_unsigned_eq x 13 return) is))
    go false false ten return =
        ap (λ a. let now : Lines = cond a ended (cond (x == 13) l other) in now.begun) ten
        ∙ ap (λ b. let now : Lines = cond b l other in now.begun) return

-- ---- a head

front_of_end : (l : Lines) (e : LineEnd) → (front : List ℕ) × (print_end e ≡ front ++ 10 ∷ []) × (lines_after l front ≡ l)
front_of_end l crlf = (13 ∷ [], refl, refl)
front_of_end l lf = ([], refl, refl)

empty_field : (l : Lines) (f : Field) → (lines_after l (print_field f)).empty ≡ true
empty_field l f =
    let front : List ℕ = f.name ++ (58 ∷ f.raw) in
    let whole : print_field f ≡ front ++ print_end f.end = simp (append_assoc, cons-append) in
    ap (λ t. (lines_after l t).empty) whole ∙ ap (λ (n : Lines). n.empty) (lines_append l front (print_end f.end)) ∙ empty_behind (lines_after l front) f.end

empty_fields : (l : Lines) (fs : List Field) → l.empty ≡ true → (lines_after l (flat_map print_field fs)).empty ≡ true
empty_fields l [] is = is
empty_fields l (f ∷ fs) is =
    ap (λ (n : Lines). n.empty) (lines_append l (print_field f) (flat_map print_field fs)) ∙ empty_fields (lines_after l (print_field f)) fs (empty_field l f)

begun_token : (l : Lines) (m rest : List ℕ) → 0 < length m → ((k : ℕ) (d : ℕ) → k < length m → IsTrue (is_token_byte (get_or m k d))) → (lines_after l (m ++ rest)).begun ≡ true
begun_token l [] rest some all = absurd (omega (arith, some))
begun_token l (x ∷ m) rest some all = still_begun (lines_with x l) (m ++ rest) (begun_with x l (all 0 0 (omega arith)))

start : RequestHead → List ℕ
start h = print_blank h.blank ++ (h.method ++ (32 ∷ h.target ++ 32 ∷ print_version h.minor))

printed : (h : RequestHead) → print_request h ≡ ((start h ++ print_end h.line_end) ++ flat_map print_field h.fields) ++ print_end h.last
unfolding print_request start
printed h = regroup (print_blank h.blank) h.method h.target (print_version h.minor) (print_end h.line_end) (flat_map print_field h.fields) (print_end h.last)
  where
    regroup : (a b c d e f r : List ℕ)
        → a ++ b ++ 32 ∷ c ++ 32 ∷ d ++ e ++ (f ++ r) ≡ (((a ++ (b ++ (32 ∷ c ++ 32 ∷ d))) ++ e) ++ f) ++ r
    regroup a b c d e f r = simp (append_assoc, cons-append)

begun_start : (h : RequestHead) → IsRequestHead h → (lines_after no_lines (start h)).begun ≡ true
unfolding start
begun_start h is =
    let rest = 32 ∷ h.target ++ 32 ∷ print_version h.minor in
    ap (λ (n : Lines). n.begun) (lines_append no_lines (print_blank h.blank) (h.method ++ rest))
    ∙ begun_token (lines_after no_lines (print_blank h.blank)) h.method rest is.method.0 is.method.1

-- the bytes before a head's last, which is a line feed, and the lines that they make up
pub record EndsWithLine (text front : List ℕ) : Type 0 where
  pub whole : text ≡ front ++ 10 ∷ []
  pub begun : (lines_after no_lines front).begun ≡ true
  pub empty : (lines_after no_lines front).empty ≡ true

pub head_ends : (h : RequestHead) → IsRequestHead h → (front : List ℕ) × EndsWithLine (print_request h) front
head_ends h is =
    let first = start h ++ print_end h.line_end in
    let body = first ++ flat_map print_field h.fields in
    let a = lines_after no_lines (start h) in
    let b = lines_after a (print_end h.line_end) in
    let c = lines_after b (flat_map print_field h.fields) in
    let to_b : lines_after no_lines first ≡ b = lines_append no_lines (start h) (print_end h.line_end) in
    let to_c : lines_after no_lines body ≡ c = lines_append no_lines first (flat_map print_field h.fields) ∙ ap (λ l. lines_after l (flat_map print_field h.fields)) to_b in
    let last = front_of_end c h.last in
    let front = body ++ last.0 in
    let same : lines_after no_lines front ≡ c = lines_append no_lines body last.0 ∙ ap (λ l. lines_after l last.0) to_c ∙ last.2 in (
      front,
      record {
        whole = printed h ∙ ap (λ t. body ++ t) last.1 ∙ sym (append_assoc body last.0 (10 ∷ []));
        begun = ap (λ (l : Lines). l.begun) same ∙ still_begun b (flat_map print_field h.fields) (still_begun a (print_end h.line_end) (begun_start h is));
        empty = ap (λ (l : Lines). l.empty) same ∙ empty_fields b h.fields (empty_behind a h.line_end);
      },
    )

-- ---- bytes that have no head

longer_than_none : (a : List ℕ) (x : ℕ) → 0 < length (a ++ x ∷ [])
longer_than_none a x = omega (arith, length-append a (x ∷ []))

pub none_in_nothing : HasNoRequest []
none_in_nothing h rest reads =
    let ends = head_ends h reads.0 in
    absurd (omega (arith, ap length reads.1, length-append (print_request h) rest, ap length ends.1.whole, longer_than_none ends.0 10))

pub none_in_front : (n : ℕ) (bytes : List ℕ) → HasNoRequest bytes → HasNoRequest (take n bytes)
none_in_front n bytes none h rest reads =
    none h (rest ++ drop n bytes) (subst (λ t. ReadsRequest t h (rest ++ drop n bytes)) (take-append-drop n bytes) (ReadsRequest-append (take n bytes) h rest (drop n bytes) reads))

same_ends : (a b : List ℕ) (x y : ℕ) → a ++ x ∷ [] ≡ b ++ y ∷ [] → (a ≡ b) × (x ≡ y)
same_ends [] [] x y is = (refl, ap (λ l. get_or l 0 0) is)
same_ends [] (z ∷ b) x y is = absurd (omega (arith, ap length is, length-append b (y ∷ [])))
same_ends (z ∷ a) [] x y is = absurd (omega (arith, ap length is, length-append a (x ∷ [])))
same_ends (z ∷ a) (w ∷ b) x y is =
    let rest = same_ends a b x y (ap (drop 1) is) in
    (ap₂ (λ h t. h ∷ t) (ap (λ l. get_or l 0 0) is) rest.0, rest.1)

-- one byte more, with which no empty line ends
pub none_with : (bytes : List ℕ) (byte : ℕ) → HasNoRequest bytes → (((byte == 10) && (lines_after no_lines bytes).begun) && (lines_after no_lines bytes).empty) ≡ false → HasNoRequest (bytes ++ byte ∷ [])
none_with bytes byte none not h [] reads =
    let ends = head_ends h reads.0 in
    let same = same_ends bytes ends.0 byte 10 (reads.1 ∙ append-nil (print_request h) ∙ ends.1.whole) in
    let at : (((byte == 10) && (lines_after no_lines bytes).begun) && (lines_after no_lines bytes).empty) ≡ ((lines_after no_lines ends.0).begun && (lines_after no_lines ends.0).empty) =
    ap (λ b. ((b == 10) && (lines_after no_lines bytes).begun) && (lines_after no_lines bytes).empty) same.1 ∙ ap (λ t. (lines_after no_lines t).begun && (lines_after no_lines t).empty) same.0 in
    absurd (true≢false (sym (sym not ∙ at ∙ ap (λ b. b && (lines_after no_lines ends.0).empty) ends.1.begun ∙ ends.1.empty)))
none_with bytes byte none not h (x ∷ rest) reads =
    let short : length (print_request h) ≤ length bytes = omega (arith, ap length reads.1, length-append (print_request h) (x ∷ rest), length-append bytes (byte ∷ [])) in
    none h (drop (length (print_request h)) bytes) (reads.0, shorter_front (print_request h) bytes (x ∷ rest) (byte ∷ []) (sym reads.1) short)
