-- The complete records of a text that was stopped are the first of all
-- that the text would have had.
use Rattle.std.proofs.Common.{◌≡◌, ◌<◌, ◌++◌, ◌∷◌, ◌∙◌, ℕ, zero, suc, List, [], Bool, true, false, Option, Some, None, length, refl, sym, ap, subst, arith}
use Rattle.std.specs.Prelude.{◌==◌, ◌&&◌, if◌then◌else◌}
use Rattle.std.specs.Cmp.{first_so, second_so}
use Rattle.std.proofs.lemmas.Bool.{eqb-true}
use Rattle.csv.specs.Machine.{Read, step, is_end, ends_at_end, next_record, fields_after, field_after}
use Rattle.csv.specs.Reading.{records, records_from, records_next, strip_bom, is_bom}
use Rattle.csv.specs.declared.parser.Config.{Config}
use Rattle.csv.specs.declared.parser.State.{State}
use Rattle.csv.specs.declared.parser.State.TheVariants as st
use Rattle.tally_import_records.specs.Input.{BeginsWith, without_last, complete_records}
use Rattle.tally_import_records.specs.Separator.{separator, config}
use Rattle.tally_import_records.specs.declared.end.Stop.{Stop}
use Rattle.tally_import_records.specs.declared.separator.Sep.{Sep}
use Rattle.tally_import_records.specs.declared.separator.Sep.TheVariants.{Comma, Semicolon}
use Rattle.tally_import_records.proofs.RecordLemmas.{next_record-after, next_record-takes}

-- A record that ends before the last byte ends alike whatever follows.
abbrev pub EndsBefore : Config → State → List (List ℕ) → List ℕ → List ℕ → ℕ → Read → Type 0
EndsBefore cfg s fields field xs d p =
    (ys : List ℕ) × (p.2 ≡ ys ++ d ∷ []) × ((rest : List ℕ) → next_record cfg s fields field (xs ++ rest) ≡ Some (p.0, p.1, ys ++ rest))

pub next_record-ends_before : (cfg : Config) (s : State) (fields : List (List ℕ)) (field xs : List ℕ) (d : ℕ) (p : Read)
    → next_record cfg s fields field (xs ++ d ∷ []) ≡ Some p → 0 < length p.2 → EndsBefore cfg s fields field xs d p
unfolding next_record
next_record-ends_before cfg s fields field [] d p e some = absurd (at_last (is_end (step cfg s d).1) e)
  where
    at_end : (b : Bool) (q : Read) → length q.2 ≡ 0 → ◌≡◌ {A = Option Read} (if b then Some q else None) (Some p) → ⊥
    at_end true q none same = let is : q ≡ p = cc in omega (arith, some, none, ap (λ r. length r.2) is)
    at_end false q none same = cc

    at_last : (b : Bool)
        → ◌≡◌ {A = Option Read} (if b then Some (fields_after (step cfg s d).1 fields field, (step cfg s d).0, [])
        else next_record cfg (step cfg s d).0 (fields_after (step cfg s d).1 fields field) (field_after (step cfg s d).1 d field) []) (Some p)
        → ⊥
    at_last true same = at_end true _ refl same
    at_last false same = at_end (ends_at_end (step cfg s d).0) _ refl same
next_record-ends_before cfg s fields field (c ∷ xs) d p e some =
    go (is_end (step cfg s c).1) e
    (next_record-ends_before cfg (step cfg s c).0 (fields_after (step cfg s c).1 fields field) (field_after (step cfg s c).1 c field) xs d p)
  where
    now : List ℕ → Option Read
    now text = Some (fields_after (step cfg s c).1 fields field, (step cfg s c).0, text)

    more : List ℕ → Option Read
    more text = next_record cfg (step cfg s c).0 (fields_after (step cfg s c).1 fields field) (field_after (step cfg s c).1 c field) text

    go : (b : Bool)
        → (if b then now (xs ++ d ∷ []) else more (xs ++ d ∷ [])) ≡ Some p
        → (more (xs ++ d ∷ []) ≡ Some p → 0 < length p.2
        → (ys : List ℕ) × (p.2 ≡ ys ++ d ∷ []) × ((rest : List ℕ) → more (xs ++ rest) ≡ Some (p.0, p.1, ys ++ rest)))
        → (ys : List ℕ) × (p.2 ≡ ys ++ d ∷ []) × ((rest : List ℕ) → (if b then now (xs ++ rest) else more (xs ++ rest)) ≡ Some (p.0, p.1, ys ++ rest))
    go true same later =
        let is : ◌≡◌ {A = Read} (fields_after (step cfg s c).1 fields field, (step cfg s c).0, xs ++ d ∷ []) p = cc in
        (xs, sym (ap (λ r. r.2) is), λ rest. ap (λ (r : Read). Some (r.0, r.1, xs ++ rest)) is)
    go false same later = later same some

-- one record more in front of both
begins-cons : (r : List (List ℕ)) (all front : List (List (List ℕ))) → BeginsWith all (without_last front) → BeginsWith (r ∷ all) (without_last (r ∷ front))
begins-cons r all [] h = (r ∷ all, refl)
begins-cons r all (q ∷ front) h = (h.0, ap (λ l. r ∷ l) h.1)

-- between two records an empty text has none
pub records_from-nothing : (cfg : Config) (n : ℕ) (s : State) → ends_at_end s ≡ false → records_from cfg n s [] ≡ []
unfolding records_from next_record
records_from-nothing cfg zero s between = refl
records_from-nothing cfg (suc n) s between = go (ends_at_end s) between
  where
    go : (b : Bool) → b ≡ false → records_next (records_from cfg n) (if b then Some ([] ++ ([] ∷ []), st.StartRecord, []) else None) ≡ []
    go true same = cc
    go false same = refl

pub records_from-front : (cfg : Config) (n m : ℕ) (s : State) (xs rest : List ℕ) (d : ℕ)
    → ends_at_end s ≡ false → length (xs ++ rest) < m
    → BeginsWith (records_from cfg m s (xs ++ rest)) (without_last (records_from cfg n s (xs ++ d ∷ [])))
unfolding records_from
records_from-front cfg zero m s xs rest d between enough = (records_from cfg m s (xs ++ rest), refl)
records_from-front cfg (suc n) zero s xs rest d between enough = absurd (omega arith)
records_from-front cfg (suc n) (suc m) s xs rest d between enough =
    go (λ s2 ys. records_from-front cfg n m s2 ys rest d) (next_record cfg s [] [] (xs ++ d ∷ [])) refl
  where
    all : List (List (List ℕ))
    all = records_next (records_from cfg m) (next_record cfg s [] [] (xs ++ rest))

    Later : Type 0
    Later = (s2 : State) (ys : List ℕ) → ends_at_end s2 ≡ false → length (ys ++ rest) < m
        → BeginsWith (records_from cfg m s2 (ys ++ rest)) (without_last (records_from cfg n s2 (ys ++ d ∷ [])))

    under : Later → (p : Read) → EndsBefore cfg s [] [] xs d p → next_record cfg s [] [] (xs ++ d ∷ []) ≡ Some p
        → BeginsWith all (without_last (p.0 ∷ records_from cfg n p.1 p.2))
    under later p ends e =
        let ys = ends.0 in
        let same = ends.2 rest in
        let between_p = (next_record-after cfg s [] [] (xs ++ d ∷ []) p e).1 in
        let less = next_record-takes cfg s (xs ++ rest) (p.0, p.1, ys ++ rest) between same in
        let there = later p.1 ys between_p (omega (arith, less, enough)) in
        let moved = subst (λ l. BeginsWith (records_from cfg m p.1 (ys ++ rest)) (without_last (records_from cfg n p.1 l))) (sym ends.1) there in
        let here = begins-cons p.0 _ _ moved in
        (here.0, ap (records_next (records_from cfg m)) same ∙ here.1)

    last : Later → (p : Read) (left : List ℕ) → left ≡ p.2 → next_record cfg s [] [] (xs ++ d ∷ []) ≡ Some p
        → BeginsWith all (without_last (p.0 ∷ records_from cfg n p.1 p.2))
    last later p [] is e =
        let between_p = (next_record-after cfg s [] [] (xs ++ d ∷ []) p e).1 in
        let none : records_from cfg n p.1 p.2 ≡ [] = ap (records_from cfg n p.1) (sym is) ∙ records_from-nothing cfg n p.1 between_p in
        (all, sym (ap (λ l. without_last (p.0 ∷ l) ++ all) none))
    last later p (c ∷ left) is e =
        let some : 0 < length p.2 = subst (λ l. 0 < length l) is (omega arith) in
        under later p (next_record-ends_before cfg s [] [] xs d p e some) e

    go : Later → (o : Option Read) → next_record cfg s [] [] (xs ++ d ∷ []) ≡ o → BeginsWith all (without_last (records_next (records_from cfg n) o))
    go later None e = (all, refl)
    go later (Some p) e = last later p p.2 refl e

pub records-front : (cfg : Config) (xs rest : List ℕ) (d : ℕ) → BeginsWith (records cfg (xs ++ rest)) (without_last (records cfg (xs ++ d ∷ [])))
records-front cfg xs rest d = records_from-front cfg _ _ st.StartRecord xs rest d refl (omega arith)

-- no byte order mark ends with a separator
pub no-mark : (sep : Sep) (a b : ℕ) → is_bom a b (separator sep) ≡ false
no-mark Comma a b = go (a == 0xEF) (b == 0xBB)
  where
    go : (x y : Bool) → (x && y && false) ≡ false
    go true true = refl
    go true false = refl
    go false y = refl
no-mark Semicolon a b = go (a == 0xEF) (b == 0xBB)
  where
    go : (x y : Bool) → (x && y && false) ≡ false
    go true true = refl
    go true false = refl
    go false y = refl

-- what has come of a byte order mark, and no more, has no complete record
pub none-of-nothing : (sep : Sep) → without_last (records (config sep) (separator sep ∷ [])) ≡ []
unfolding records_from next_record
none-of-nothing Comma = refl
none-of-nothing Semicolon = refl

pub none-of-one : (sep : Sep) → without_last (records (config sep) (0xEF ∷ separator sep ∷ [])) ≡ []
unfolding records_from next_record
none-of-one Comma = refl
none-of-one Semicolon = refl

pub none-of-two : (sep : Sep) → without_last (records (config sep) (0xEF ∷ 0xBB ∷ separator sep ∷ [])) ≡ []
unfolding records_from next_record
none-of-two Comma = refl
none-of-two Semicolon = refl

pub begins-nothing : (all front : List (List (List ℕ))) → front ≡ [] → BeginsWith all front
begins-nothing all front none = (all, sym (ap (λ l. l ++ all) none))

pub complete_records-front : (sep : Sep) (bytes rest : List ℕ) (stop : Stop)
    → BeginsWith (complete_records sep (bytes ++ rest) None) (complete_records sep bytes (Some stop))
unfolding strip_bom
complete_records-front sep [] rest stop = begins-nothing _ _ (none-of-nothing sep)
complete_records-front sep (a ∷ []) [] stop = records-front (config sep) (a ∷ []) [] (separator sep)
complete_records-front sep (a ∷ []) (b ∷ []) stop = records-front (config sep) (a ∷ []) (b ∷ []) (separator sep)
complete_records-front sep (a ∷ []) (b ∷ c ∷ rest) stop = go (is_bom a b c) refl
  where
    go : (m : Bool) → is_bom a b c ≡ m
        → BeginsWith (records (config sep) (if m then rest else a ∷ b ∷ c ∷ rest)) (without_last (records (config sep) (a ∷ separator sep ∷ [])))
    go true e =
        let is : a ≡ 0xEF = eqb-true _ _ (first_so _ _ (first_so _ _ e)) in
        begins-nothing _ _ (ap (λ x. without_last (records (config sep) (x ∷ separator sep ∷ []))) is ∙ none-of-one sep)
    go false e = records-front (config sep) (a ∷ []) (b ∷ c ∷ rest) (separator sep)
complete_records-front sep (a ∷ b ∷ []) rest stop =
    subst (λ m. BeginsWith (complete_records sep (a ∷ b ∷ rest) None) (without_last (records (config sep) (if m then [] else a ∷ b ∷ separator sep ∷ []))))
    (sym (no-mark sep a b)) (whole rest)
  where
    go : (c : ℕ) (rest : List ℕ) (m : Bool) → is_bom a b c ≡ m
        → BeginsWith (records (config sep) (if m then rest else a ∷ b ∷ c ∷ rest)) (without_last (records (config sep) (a ∷ b ∷ separator sep ∷ [])))
    go c rest true e =
        let mark = first_so _ _ e in
        let is_a : a ≡ 0xEF = eqb-true _ _ (first_so _ _ mark) in
        let is_b : b ≡ 0xBB = eqb-true _ _ (second_so _ _ mark) in
        begins-nothing _ _
        (ap (λ x. without_last (records (config sep) (x ∷ b ∷ separator sep ∷ []))) is_a
        ∙ ap (λ x. without_last (records (config sep) (0xEF ∷ x ∷ separator sep ∷ []))) is_b
        ∙ none-of-two sep)
    go c rest false e = records-front (config sep) (a ∷ b ∷ []) (c ∷ rest) (separator sep)

    whole : (rest : List ℕ) → BeginsWith (complete_records sep (a ∷ b ∷ rest) None) (without_last (records (config sep) (a ∷ b ∷ separator sep ∷ [])))
    whole [] = records-front (config sep) (a ∷ b ∷ []) [] (separator sep)
    whole (c ∷ rest) = go c rest (is_bom a b c) refl
complete_records-front sep (a ∷ b ∷ c ∷ bytes) rest stop = go (is_bom a b c)
  where
    go : (m : Bool)
        → BeginsWith (records (config sep) (if m then bytes ++ rest else a ∷ b ∷ c ∷ (bytes ++ rest)))
        (without_last (records (config sep) (if m then bytes ++ separator sep ∷ [] else a ∷ b ∷ c ∷ (bytes ++ separator sep ∷ []))))
    go true = records-front (config sep) bytes rest (separator sep)
    go false = records-front (config sep) (a ∷ b ∷ c ∷ bytes) rest (separator sep)
