-- A head's fields, and the number that a length writes.
use Rattle.std.proofs.Common.{◌≡◌, ℕ, suc, ◌-◌, ◌<◌, ◌≤◌, Bool, true, false, cond, ◌&&◌, List, [], ◌∷◌, ◌++◌, length, map, take, drop, get_or, Some, Ok, Err, nat_le, refl, sym, ap, ◌∙◌, arith, true≢false}
use Rattle.std.specs.List.{filter, list_all, list_any}
use Rattle.std.specs.Char.{is_ascii_digit, digit_value}
use Rattle.std.specs.Str.Parse.{digits_value}
use Rattle.std.specs.Int.Digits.{number_from_digits, number_from_digits_after}
use Rattle.std.proofs.Math.Seq.{drop-cons}
use Rattle.std.proofs.lemmas.List.{take-append-drop, take-map, get_or-map, map-append, length-map}
use Rattle.std.proofs.lemmas.List.Elements.{filter-append}
use Rattle.std.proofs.lemmas.List.Folds.{list_any_at, list_all_at}
use Rattle.std.proofs.lemmas.Int.Digits.{digits_value_is, number_after_append, number_after_ge}
use Rattle.httparse.specs.declared.spans.HeaderSpan.{HeaderSpan}
use Rattle.httparse.specs.Spans.{header_bytes}
use Rattle.tally_desk_message.specs.Message.{NameAndValue, is_field_named, values_of, single_value, is_content_length, content_length, body_limit}
use Rattle.tally_desk_message.specs.declared.message.MessageFault.TheVariants.{BadLength, BodyTooLong}

mapped : (bytes : List ℕ) (hs : List HeaderSpan) (i : ℕ) → i < length hs → i < length (map (header_bytes bytes) hs)
mapped bytes hs i within = let same : length (map (header_bytes bytes) hs) ≡ length hs = length-map hs (header_bytes bytes) in omega (arith, within, same)

pub named_at : (name bytes : List ℕ) (hs : List HeaderSpan) (i : ℕ) (d : HeaderSpan) → i < length hs → is_field_named name (header_bytes bytes (get_or hs i d)) ≡ true → list_any (is_field_named name) (map (header_bytes bytes) hs) ≡ true
named_at name bytes hs i d within is =
    list_any_at (is_field_named name) (map (header_bytes bytes) hs) i (header_bytes bytes d) (mapped bytes hs i within) (ap (is_field_named name) (get_or-map (header_bytes bytes) hs i d (header_bytes bytes d) within) ∙ is)

-- one value connected, and another field has the name
one_more : (vs ws : List (List ℕ)) (v w : List ℕ) → single_value vs ≡ Ok (Some v) → single_value (vs ++ w ∷ ws) ≡ Err BadLength
one_more [] ws v w is = cc
one_more (a ∷ []) ws v w is = refl
one_more (a ∷ b ∷ vs) ws v w is = cc

values-append : (name : List ℕ) (a b : List NameAndValue) → values_of name (a ++ b) ≡ values_of name a ++ values_of name b
values-append name a b = ap (map (λ f. f.1)) (filter-append (is_field_named name) a b) ∙ map-append (λ f. f.1) (filter (is_field_named name) a) (filter (is_field_named name) b)

values-first : (name : List ℕ) (f : NameAndValue) (ps : List NameAndValue) → is_field_named name f ≡ true → values_of name (f ∷ ps) ≡ f.1 ∷ values_of name ps
values-first name f ps is = ap (λ b. map (λ f. f.1) (cond b (f ∷ filter (is_field_named name) ps) (filter (is_field_named name) ps))) is

twice : (name : List ℕ) (ps : List NameAndValue) (i : ℕ) (d : NameAndValue) (v : List ℕ) → i < length ps → is_field_named name (get_or ps i d) ≡ true → single_value (values_of name (take i ps)) ≡ Ok (Some v) → single_value (values_of name ps) ≡ Err BadLength
twice name ps i d v within is one =
    let parts : ps ≡ take i ps ++ (get_or ps i d ∷ drop (suc i) ps) = sym (take-append-drop i ps) ∙ ap (λ r. take i ps ++ r) (drop-cons ps i d within) in
    let values : values_of name ps ≡ values_of name (take i ps) ++ ((get_or ps i d).1 ∷ values_of name (drop (suc i) ps)) =
    ap (values_of name) parts ∙ values-append name (take i ps) (get_or ps i d ∷ drop (suc i) ps) ∙ ap (λ r. values_of name (take i ps) ++ r) (values-first name (get_or ps i d) (drop (suc i) ps) is) in
    ap single_value values ∙ one_more (values_of name (take i ps)) (values_of name (drop (suc i) ps)) v (get_or ps i d).1 one

pub twice_at : (name bytes : List ℕ) (hs : List HeaderSpan) (i : ℕ) (d : HeaderSpan) (v : List ℕ) → i < length hs → is_field_named name (header_bytes bytes (get_or hs i d)) ≡ true
    → single_value (values_of name (map (header_bytes bytes) (take i hs))) ≡ Ok (Some v) → single_value (values_of name (map (header_bytes bytes) hs)) ≡ Err BadLength
twice_at name bytes hs i d v within is one =
    twice name (map (header_bytes bytes) hs) i (header_bytes bytes d) v (mapped bytes hs i within)
    (ap (is_field_named name) (get_or-map (header_bytes bytes) hs i d (header_bytes bytes d) within) ∙ is)
    (ap (λ ps. single_value (values_of name ps)) (take-map (header_bytes bytes) i hs) ∙ one)

-- ---- digits

-- a number is at least what its first digits write
pub front_value : (v : List ℕ) (i : ℕ) → digits_value 10 (take i v) ≤ digits_value 10 v
front_value v i =
    let back = map digit_value (drop i v) in
    let whole : digits_value 10 v ≡ number_from_digits_after 10 (digits_value 10 (take i v)) back =
    digits_value_is 10 v ∙ ap (λ x. number_from_digits 10 (map digit_value x)) (sym (take-append-drop i v))
    ∙ ap (number_from_digits 10) (map-append digit_value (take i v) (drop i v))
    ∙ number_after_append 10 0 (map digit_value (take i v)) back
    ∙ ap (λ n. number_from_digits_after 10 n back) (sym (digits_value_is 10 (take i v))) in
    let more = number_after_ge 10 (digits_value 10 (take i v)) back (omega arith) in
    omega (arith, whole, more)

and_right : (a b : Bool) → (a && b) ≡ true → b ≡ true
and_right true b is = is
and_right false b is = absurd (true≢false (sym is))

digit_in : (c : ℕ) → is_ascii_digit c ≡ true → digit_value c ≡ c - 48
digit_in c is = grind (arith, is)

pub digit_at : (v : List ℕ) (i : ℕ) → is_content_length v ≡ true → i < length v → digit_value (get_or v i 0) ≡ get_or v i 0 - 48
digit_at v i is within = digit_in (get_or v i 0) (pass (is_ascii_digit (get_or v i 0)) refl)
  where
    all : list_all is_ascii_digit v ≡ true
    all = and_right (nat_le 1 (length v) && nat_le (length v) 18) (list_all is_ascii_digit v) is

    pass : (b : Bool) → is_ascii_digit (get_or v i 0) ≡ b → is_ascii_digit (get_or v i 0) ≡ true
    pass true e = e
    pass false e = absurd (true≢false (sym all ∙ list_all_at is_ascii_digit v i 0 within e))

pub too_long : (v : List ℕ) → is_content_length v ≡ true → body_limit < digits_value 10 v → content_length v ≡ Err BodyTooLong
too_long v is long = ap (λ b. cond b (cond (nat_le (digits_value 10 v) body_limit) (Ok (digits_value 10 v)) (Err BodyTooLong)) (Err BadLength)) is ∙ over
  where
    over : cond (nat_le (digits_value 10 v) body_limit) (Ok (digits_value 10 v)) (Err BodyTooLong) ≡ Err BodyTooLong
    over = grind (arith, long)
