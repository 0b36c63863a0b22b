-- How the records of a text follow one another.
use Rattle.std.proofs.Common.{◌≡◌, ◌<◌, ◌≤◌, ◌++◌, ◌∷◌, ℕ, zero, suc, List, [], Bool, true, false, Option, Some, None, length, refl, ap, subst, arith}
use Rattle.std.specs.Prelude.{◌==◌, ◌&&◌, if◌then◌else◌}
use Rattle.csv.specs.Machine.{Read, step, is_end, ends_at_end, ends_with, after_end, in_field, start_field, start_record, is_byte, next_record, fields_after, field_after, carriage_return}
use Rattle.csv.specs.Reading.{records_from, records_next}
use Rattle.csv.specs.declared.parser.Action.{Action}
use Rattle.csv.specs.declared.parser.Config.{Config}
use Rattle.csv.specs.declared.parser.State.{State}
use Rattle.csv.specs.declared.parser.State.TheVariants as st
use Rattle.csv.specs.declared.parser.Terminator.{Terminator}
use Rattle.csv.specs.declared.parser.Terminator.TheVariants as term

-- a step that ends a record leaves the state between two records
abbrev pub EndsWell : State × Action → Type 0
EndsWell p = is_end p.1 ≡ true → ends_at_end p.0 ≡ false

after-end : (t : Terminator) (c : ℕ) → ends_at_end (after_end t c) ≡ false
after-end term.CRLF c = go (c == carriage_return)
  where
    go : (b : Bool) → ends_at_end (if b then st.AfterCr else st.StartRecord) ≡ false
    go true = refl
    go false = refl
after-end (term.Any t) c = refl

choose : (b : Bool) (x y : State × Action) → EndsWell x → EndsWell y → EndsWell (if b then x else y)
choose true x y p q = p
choose false x y p q = q

field-ends : (cfg : Config) (c : ℕ) → EndsWell (in_field cfg c)
field-ends cfg c =
    choose (c == cfg.delimiter) _ _ (λ e. cc e)
    (choose (ends_with cfg.terminator c) _ _ (λ e. after-end cfg.terminator c) (λ e. cc e))

start-ends : (cfg : Config) (c : ℕ) → EndsWell (start_field cfg c)
start-ends cfg c = choose (cfg.quoting && (c == cfg.quote)) _ _ (λ e. cc e) (field-ends cfg c)

record-ends : (cfg : Config) (c : ℕ) → EndsWell (start_record cfg c)
record-ends cfg c =
    choose (ends_with cfg.terminator c) _ _ (λ e. refl)
    (choose (is_byte cfg.comment c) _ _ (λ e. cc e) (start-ends cfg c))

step-ends : (cfg : Config) (s : State) (c : ℕ) → EndsWell (step cfg s c)
step-ends cfg st.StartRecord c = record-ends cfg c
step-ends cfg st.StartField c = start-ends cfg c
step-ends cfg st.InField c = field-ends cfg c
step-ends cfg st.InQuoted c =
    choose (cfg.quoting && (c == cfg.quote)) _ _ (λ e. cc e) (choose (cfg.quoting && is_byte cfg.escape c) _ _ (λ e. cc e) (λ e. cc e))
step-ends cfg st.InEscape c = λ e. cc e
step-ends cfg st.AfterQuote c = choose (cfg.quoting && cfg.double_quote && (c == cfg.quote)) _ _ (λ e. cc e) (field-ends cfg c)
step-ends cfg st.InComment c = choose (c == 10) _ _ (λ e. refl) (λ e. cc e)
step-ends cfg st.AfterCr c = choose (c == 10) _ _ (λ e. refl) (record-ends cfg c)

-- what is left after a record: no more of the text, in a state between two records
abbrev pub IsAfter : List ℕ → Read → Type 0
IsAfter xs p = (length p.2 ≤ length xs) × (ends_at_end p.1 ≡ false)

after-same : (xs : List ℕ) (q p : Read) → Some q ≡ Some p → IsAfter xs q → IsAfter xs p
after-same xs q p e h = let is : q ≡ p = cc in subst (IsAfter xs) is h

after-more : (c : ℕ) (xs : List ℕ) (p : Read) → IsAfter xs p → IsAfter (c ∷ xs) p
after-more c xs p h = (omega (arith, h.0), h.1)

pub next_record-after : (cfg : Config) (s : State) (fields : List (List ℕ)) (field xs : List ℕ) (p : Read)
    → next_record cfg s fields field xs ≡ Some p → IsAfter xs p
unfolding next_record
next_record-after cfg s fields field [] p e = at_end (ends_at_end s) e
  where
    at_end : (b : Bool) → ◌≡◌ {A = Option Read} (if b then Some (fields ++ (field ∷ []), st.StartRecord, []) else None) (Some p) → IsAfter [] p
    at_end true e = after-same [] _ p e (omega arith, refl)
    at_end false e = cc
next_record-after cfg s fields field (c ∷ rest) p e =
    in_text (is_end (step cfg s c).1) refl e (next_record-after cfg (step cfg s c).0 (fields_after (step cfg s c).1 fields field) (field_after (step cfg s c).1 c field) rest p)
  where
    more : Option Read
    more = next_record cfg (step cfg s c).0 (fields_after (step cfg s c).1 fields field) (field_after (step cfg s c).1 c field) rest

    in_text : (b : Bool) → is_end (step cfg s c).1 ≡ b
        → (if b then Some (fields_after (step cfg s c).1 fields field, (step cfg s c).0, rest)
        else next_record cfg (step cfg s c).0 (fields_after (step cfg s c).1 fields field) (field_after (step cfg s c).1 c field) rest) ≡ Some p
        → (more ≡ Some p → IsAfter rest p)
        → IsAfter (c ∷ rest) p
    in_text true ends e later = after-same (c ∷ rest) _ p e (omega arith, step-ends cfg s c ends)
    in_text false ends e later = after-more c rest p (later e)

-- between two records a record takes at least one byte
pub next_record-takes : (cfg : Config) (s : State) (xs : List ℕ) (p : Read)
    → ends_at_end s ≡ false → next_record cfg s [] [] xs ≡ Some p → length p.2 < length xs
unfolding next_record
next_record-takes cfg s [] p between e = at_end (ends_at_end s) between e
  where
    at_end : (b : Bool) → b ≡ false → ◌≡◌ {A = Option Read} (if b then Some ([] ++ ([] ∷ []), st.StartRecord, []) else None) (Some p) → length p.2 < 0
    at_end true same e = cc
    at_end false same e = cc
next_record-takes cfg s (c ∷ rest) p between e = in_text (is_end (step cfg s c).1) e
  where
    in_text : (b : Bool)
        → (if b then Some (fields_after (step cfg s c).1 [] [], (step cfg s c).0, rest)
        else next_record cfg (step cfg s c).0 (fields_after (step cfg s c).1 [] []) (field_after (step cfg s c).1 c []) rest) ≡ Some p
        → length p.2 < length (c ∷ rest)
    in_text true e = let is : rest ≡ p.2 = cc in omega (arith, ap length is)
    in_text false e = omega (arith, (next_record-after cfg (step cfg s c).0 (fields_after (step cfg s c).1 [] []) (field_after (step cfg s c).1 c []) rest p e).0)

-- as many turns as the text has bytes, and one more, are enough to read all records
pub records_from-enough : (cfg : Config) (n m : ℕ) (s : State) (xs : List ℕ)
    → ends_at_end s ≡ false → length xs < n → length xs < m → records_from cfg n s xs ≡ records_from cfg m s xs
unfolding records_from
records_from-enough cfg zero m s xs between few enough = absurd (omega arith)
records_from-enough cfg (suc n) zero s xs between few enough = absurd (omega arith)
records_from-enough cfg (suc n) (suc m) s xs between few enough =
    go (next_record cfg s [] [] xs) refl (λ p. records_from-enough cfg n m p.1 p.2)
  where
    go : (o : Option Read) → next_record cfg s [] [] xs ≡ o
        → ((p : Read) → ends_at_end p.1 ≡ false → length p.2 < n → length p.2 < m → records_from cfg n p.1 p.2 ≡ records_from cfg m p.1 p.2)
        → records_next (records_from cfg n) o ≡ records_next (records_from cfg m) o
    go None e later = refl
    go (Some p) e later =
        let less = next_record-takes cfg s xs p between e in
        let after = next_record-after cfg s [] [] xs p e in
        ap (λ rest. p.0 ∷ rest) (later p after.1 (omega (arith, less)) (omega (arith, less)))
