-- What a piece of a text shows of the text's records.
use Rattle.std.proofs.Common.{◌≡◌, ◌<◌, ◌≤◌, ◌+◌, ◌-◌, ◌++◌, ◌∷◌, ◌∙◌, ℕ, zero, suc, List, [], Bool, true, false, Option, Some, None, length, take, drop, get_or, refl, sym, ap, subst, arith, add-one, length-append}
use Rattle.std.specs.Prelude.{◌==◌, ◌||◌, ◌⊎◌, if◌then◌else◌, nat_le}
use Rattle.std.proofs.Common.{inl, inr}
use Rattle.std.proofs.lemmas.Bool.{eqb-true, false≢true, leb-true, true≢false}
use Rattle.std.proofs.lemmas.Bool.Decides.{nat_tests}
use Rattle.std.proofs.lemmas.List.{append-nil}
use Rattle.csv.specs.Machine.{Read, step, is_end, ends_at_end, ends_with, after_end, in_field, start_field, start_record, next_record, fields_after, field_after, carriage_return}
use Rattle.csv.specs.Reading.{records_from, records_next}
use Rattle.csv.specs.declared.parser.Action.{Action}
use Rattle.csv.specs.declared.parser.Config.{Config}
use Rattle.csv.specs.declared.parser.State.{State}
use Rattle.csv.specs.declared.parser.State.TheVariants as st
use Rattle.csv.specs.declared.parser.Terminator.TheVariants as term
use Rattle.tally_import_records.specs.internal.Pieces.{is_line_end, ends_line, nothing}
use Rattle.tally_import_records.specs.Separator.{separator, config}
use Rattle.tally_import_records.specs.declared.separator.Sep.{Sep}
use Rattle.tally_import_records.specs.declared.separator.Sep.TheVariants.{Comma, Semicolon}
use Rattle.tally_import_records.proofs.FieldLemmas.{same_some, none_some}
use Rattle.tally_import_records.proofs.RecordLemmas.{next_record-after, next_record-takes, records_from-enough}
use Rattle.tally_import_records.proofs.FrontLemmas.{next_record-ends_before, records_from-nothing}

-- ---- lists

same_cons : {X : Type 0} (x y : X) (xs ys : List X) → x ∷ xs ≡ y ∷ ys → (x ≡ y) × (xs ≡ ys)
same_cons x y xs ys e = (cc e, cc e)

nil_cons : {X : Type 0} (x : X) (xs : List X) → [] ≡ x ∷ xs → ⊥
nil_cons x xs e = cc e

-- the text ends as the whole of it does
ends_line-behind : (ws zs : List ℕ) → ends_line (ws ++ zs) ≡ true → ends_line zs ≡ true
ends_line-behind [] zs e = e
ends_line-behind (w ∷ ws) [] e = refl
ends_line-behind (w ∷ []) (z ∷ zs) e = e
ends_line-behind (w ∷ v ∷ ws) (z ∷ zs) e = ends_line-behind (v ∷ ws) (z ∷ zs) e

pub drop-nothing : {X : Type 0} (k : ℕ) → drop {A = X} k [] ≡ []
drop-nothing zero = refl
drop-nothing (suc k) = refl

-- ---- records in turn

-- every record from a state
abbrev pub all : Config → State → List ℕ → List (List (List ℕ))
all cfg s xs = records_from cfg (length xs + 1) s xs

pub all-next : (cfg : Config) (s : State) (xs : List ℕ) → ends_at_end s ≡ false → all cfg s xs ≡ records_next (all cfg) (next_record cfg s [] [] xs)
unfolding records_from
all-next cfg s xs between = rw (add-one (length xs)) (go (next_record cfg s [] [] xs) refl)
  where
    go : (o : Option Read) → next_record cfg s [] [] xs ≡ o → records_next (records_from cfg (length xs)) o ≡ records_next (all cfg) o
    go None e = refl
    go (Some p) e =
        let less = next_record-takes cfg s xs p between e in
        let after = next_record-after cfg s [] [] xs p e in
        ap (λ rest. p.0 ∷ rest) (records_from-enough cfg (length xs) (length p.2 + 1) p.1 p.2 after.1 less (omega arith))

all-nothing : (cfg : Config) (s : State) → ends_at_end s ≡ false → all cfg s [] ≡ []
all-nothing cfg s between = records_from-nothing cfg 1 s between

-- what is left after a record is the end of the text
next_record-behind : (cfg : Config) (s : State) (fields : List (List ℕ)) (field xs : List ℕ) (p : Read)
    → next_record cfg s fields field xs ≡ Some p → (ws : List ℕ) × (xs ≡ ws ++ p.2)
unfolding next_record
next_record-behind cfg s fields field [] p e = at_end (ends_at_end s) e
  where
    at_end : (b : Bool) → ◌≡◌ {A = Option Read} (if b then Some (fields ++ (field ∷ []), st.StartRecord, []) else None) (Some p) → (ws : List ℕ) × ([] ≡ ws ++ p.2)
    at_end true e = ([], ap (λ r. r.2) (same_some _ p e))
    at_end false e = absurd (none_some p e)
next_record-behind cfg s fields field (c ∷ rest) p e =
    in_text (is_end (step cfg s c).1) e (next_record-behind cfg (step cfg s c).0 (fields_after (step cfg s c).1 fields field) (field_after (step cfg s c).1 c field) rest p)
  where
    more : Option Read
    more = next_record cfg (step cfg s c).0 (fields_after (step cfg s c).1 fields field) (field_after (step cfg s c).1 c field) rest

    in_text : (b : Bool)
        → (if b then Some (fields_after (step cfg s c).1 fields field, (step cfg s c).0, rest)
        else next_record cfg (step cfg s c).0 (fields_after (step cfg s c).1 fields field) (field_after (step cfg s c).1 c field) rest) ≡ Some p
        → (more ≡ Some p → (ws : List ℕ) × (rest ≡ ws ++ p.2))
        → (ws : List ℕ) × (c ∷ rest ≡ ws ++ p.2)
    in_text true e later = (c ∷ [], ap (λ r. c ∷ r.2) (same_some _ p e))
    in_text false e later = let behind = later e in (c ∷ behind.0, ap (λ l. c ∷ l) behind.1)

-- A record before another one is the first of the text whatever follows; after it come these bytes.
abbrev pub Steps : Config → State → List ℕ → ℕ → List (List ℕ) → List (List (List ℕ)) → Type 0
Steps cfg s ys d a others = (s2 : State) × (zs : List ℕ) × (ends_at_end s2 ≡ false) × (ends_line ys ≡ true → ends_line zs ≡ true)
    × (all cfg s2 (zs ++ d ∷ []) ≡ others) × ((rest : List ℕ) → all cfg s (ys ++ rest) ≡ a ∷ all cfg s2 (zs ++ rest))

pub all-steps : (cfg : Config) (s : State) (ys : List ℕ) (d : ℕ) (a b : List (List ℕ)) (more : List (List (List ℕ)))
    → ends_at_end s ≡ false → all cfg s (ys ++ d ∷ []) ≡ a ∷ b ∷ more → Steps cfg s ys d a (b ∷ more)
all-steps cfg s ys d a b more between is = go (next_record cfg s [] [] (ys ++ d ∷ [])) refl
  where
    first : (p : Read) → next_record cfg s [] [] (ys ++ d ∷ []) ≡ Some p → p.0 ∷ all cfg p.1 p.2 ≡ a ∷ b ∷ more
    first p e = sym (all-next cfg s (ys ++ d ∷ []) between ∙ ap (records_next (all cfg)) e) ∙ is

    under : (p : Read) → next_record cfg s [] [] (ys ++ d ∷ []) ≡ Some p → 0 < length p.2 → Steps cfg s ys d a (b ∷ more)
    under p e some =
        let ends = next_record-ends_before cfg s [] [] ys d p e some in
        let zs = ends.0 in
        let after = next_record-after cfg s [] [] (ys ++ d ∷ []) p e in
        let same = first p e in
        let are = same_cons p.0 a (all cfg p.1 p.2) (b ∷ more) same in
        let behind = next_record-behind cfg s [] [] (ys ++ []) (p.0, p.1, zs ++ []) (ends.2 []) in
        let split : ys ≡ behind.0 ++ zs = sym (append-nil ys) ∙ behind.1 ∙ ap (λ l. behind.0 ++ l) (append-nil zs) in (
          p.1,
          zs,
          after.1,
          (λ line. ends_line-behind behind.0 zs (ap ends_line (sym split) ∙ line)),
          ap (all cfg p.1) (sym ends.1) ∙ are.1,
          (λ rest. all-next cfg s (ys ++ rest) between ∙ ap (records_next (all cfg)) (ends.2 rest) ∙ ap (λ r. r ∷ all cfg p.1 (zs ++ rest)) are.0),
        )

    left : (p : Read) (behind : List ℕ) → p.2 ≡ behind → next_record cfg s [] [] (ys ++ d ∷ []) ≡ Some p → Steps cfg s ys d a (b ∷ more)
    left p [] none e =
        let after = next_record-after cfg s [] [] (ys ++ d ∷ []) p e in
        let last : all cfg p.1 p.2 ≡ [] = ap (all cfg p.1) none ∙ all-nothing cfg p.1 after.1 in
        absurd (nil_cons b more (sym last ∙ (same_cons p.0 a (all cfg p.1 p.2) (b ∷ more) (first p e)).1))
    left p (c ∷ behind) some e = under p e (subst (λ l. 0 < length l) (sym some) (omega arith))

    go : (o : Option Read) → next_record cfg s [] [] (ys ++ d ∷ []) ≡ o → Steps cfg s ys d a (b ∷ more)
    go None e =
        absurd (nil_cons a (b ∷ more) (sym (all-next cfg s (ys ++ d ∷ []) between ∙ ap (records_next (all cfg)) e) ∙ is))
    go (Some p) e = left p p.2 refl e

-- After this many records of a text these bytes come, whatever follows.
abbrev pub Passes : Config → State → List ℕ → ℕ → ℕ → List (List (List ℕ)) → Type 0
Passes cfg s ys d k others = (s2 : State) × (zs : List ℕ) × (ends_at_end s2 ≡ false) × (ends_line ys ≡ true → ends_line zs ≡ true)
    × (all cfg s2 (zs ++ d ∷ []) ≡ others) × ((rest : List ℕ) → drop k (all cfg s (ys ++ rest)) ≡ all cfg s2 (zs ++ rest))

pub all-passes : (cfg : Config) (k : ℕ) (s : State) (ys : List ℕ) (d : ℕ) (a : List (List ℕ)) (more : List (List (List ℕ)))
    → ends_at_end s ≡ false → drop k (all cfg s (ys ++ d ∷ [])) ≡ a ∷ more → Passes cfg s ys d k (a ∷ more)
all-passes cfg zero s ys d a more between is = (s, ys, between, (λ line. line), is, (λ rest. refl))
all-passes cfg (suc k) s ys d a more between is =
    go (λ s2 zs. all-passes cfg k s2 zs d a more) (all cfg s (ys ++ d ∷ [])) refl is
  where
    Later : Type 0
    Later = (s2 : State) (zs : List ℕ) → ends_at_end s2 ≡ false → drop k (all cfg s2 (zs ++ d ∷ [])) ≡ a ∷ more → Passes cfg s2 zs d k (a ∷ more)

    go : Later → (rows : List (List (List ℕ))) → all cfg s (ys ++ d ∷ []) ≡ rows → drop (suc k) rows ≡ a ∷ more → Passes cfg s ys d (suc k) (a ∷ more)
    go later [] e same = absurd (nil_cons a more same)
    go later (r ∷ []) e same = absurd (nil_cons a more (sym (drop-nothing k) ∙ same))
    go later (r ∷ q ∷ rows) e same =
        let one = all-steps cfg s ys d r q rows between e in
        let others = later one.0 one.1 one.2 (ap (drop k) one.4 ∙ same) in
        (others.0, others.1, others.2, (λ line. others.3 (one.3 line)), others.4, (λ rest. ap (drop (suc k)) (one.5 rest) ∙ others.5 rest))

-- ---- the records of a returns' text

-- with a field begun after it each text has a record
next-found : (sep : Sep) (s : State) (fields : List (List ℕ)) (field xs : List ℕ)
    → next_record (config sep) s fields field (xs ++ separator sep ∷ []) ≡ None → ⊥
unfolding next_record
next-found Comma st.StartRecord fields field [] e = none_some _ (sym e)
next-found Comma st.StartField fields field [] e = none_some _ (sym e)
next-found Comma st.InField fields field [] e = none_some _ (sym e)
next-found Comma st.InQuoted fields field [] e = none_some _ (sym e)
next-found Comma st.AfterQuote fields field [] e = none_some _ (sym e)
next-found Comma st.InEscape fields field [] e = none_some _ (sym e)
next-found Comma st.InComment fields field [] e = none_some _ (sym e)
next-found Comma st.AfterCr fields field [] e = none_some _ (sym e)
next-found Semicolon st.StartRecord fields field [] e = none_some _ (sym e)
next-found Semicolon st.StartField fields field [] e = none_some _ (sym e)
next-found Semicolon st.InField fields field [] e = none_some _ (sym e)
next-found Semicolon st.InQuoted fields field [] e = none_some _ (sym e)
next-found Semicolon st.AfterQuote fields field [] e = none_some _ (sym e)
next-found Semicolon st.InEscape fields field [] e = none_some _ (sym e)
next-found Semicolon st.InComment fields field [] e = none_some _ (sym e)
next-found Semicolon st.AfterCr fields field [] e = none_some _ (sym e)
next-found sep s fields field (c ∷ xs) e =
    go (is_end (step (config sep) s c).1) e
    (next-found sep (step (config sep) s c).0 (fields_after (step (config sep) s c).1 fields field) (field_after (step (config sep) s c).1 c field) xs)
  where
    more : Option Read
    more = next_record (config sep) (step (config sep) s c).0 (fields_after (step (config sep) s c).1 fields field) (field_after (step (config sep) s c).1 c field) (xs ++ separator sep ∷ [])

    go : (b : Bool) → (if b then Some (fields_after (step (config sep) s c).1 fields field, (step (config sep) s c).0, xs ++ separator sep ∷ []) else more) ≡ None
        → (more ≡ None → ⊥) → ⊥
    go true same later = none_some _ (sym same)
    go false same later = later same

-- there is a first one
abbrev pub HasFirst : List (List (List ℕ)) → Type 0
HasFirst rows = (a : List (List ℕ)) × (more : List (List (List ℕ))) × (rows ≡ a ∷ more)

pub all-found : (sep : Sep) (s : State) (xs : List ℕ) → ends_at_end s ≡ false → HasFirst (all (config sep) s (xs ++ separator sep ∷ []))
all-found sep s xs between = go (next_record (config sep) s [] [] (xs ++ separator sep ∷ [])) refl
  where
    go : (o : Option Read) → next_record (config sep) s [] [] (xs ++ separator sep ∷ []) ≡ o → HasFirst (all (config sep) s (xs ++ separator sep ∷ []))
    go None e = absurd (next-found sep s [] [] xs e)
    go (Some p) e = (p.0, all (config sep) p.1 p.2, all-next (config sep) s (xs ++ separator sep ∷ []) between ∙ ap (records_next (all (config sep))) e)

-- ---- where a line ends

abbrev pub is_plain : State → Bool
is_plain st.InComment = false
is_plain st.StartRecord = true
is_plain st.StartField = true
is_plain st.InField = true
is_plain st.InQuoted = true
is_plain st.AfterQuote = true
is_plain st.InEscape = true
is_plain st.AfterCr = true

plain-choose : (b : Bool) (x y : State × Action) → is_plain x.0 ≡ true → is_plain y.0 ≡ true → is_plain (if b then x else y).0 ≡ true
plain-choose true x y p q = p
plain-choose false x y p q = q

plain-end : (c : ℕ) → is_plain (after_end term.CRLF c) ≡ true
plain-end c = go (c == carriage_return)
  where
    go : (b : Bool) → is_plain (if b then st.AfterCr else st.StartRecord) ≡ true
    go true = refl
    go false = refl

plain-field : (sep : Sep) (c : ℕ) → is_plain (in_field (config sep) c).0 ≡ true
plain-field sep c = plain-choose (c == separator sep) _ _ refl (plain-choose (ends_with term.CRLF c) _ _ (plain-end c) refl)

plain-start : (sep : Sep) (c : ℕ) → is_plain (start_field (config sep) c).0 ≡ true
plain-start sep c = plain-choose (c == 34) _ _ refl (plain-field sep c)

plain-record : (sep : Sep) (c : ℕ) → is_plain (start_record (config sep) c).0 ≡ true
plain-record sep c = plain-choose (ends_with term.CRLF c) _ _ refl (plain-start sep c)

-- no text of returns has a comment
plain-step : (sep : Sep) (s : State) (c : ℕ) → is_plain s ≡ true → is_plain (step (config sep) s c).0 ≡ true
plain-step sep st.StartRecord c plain = plain-record sep c
plain-step sep st.StartField c plain = plain-start sep c
plain-step sep st.InField c plain = plain-field sep c
plain-step sep st.InQuoted c plain = plain-choose (c == 34) _ _ refl refl
plain-step sep st.InEscape c plain = refl
plain-step sep st.AfterQuote c plain = plain-choose (c == 34) _ _ refl (plain-field sep c)
plain-step sep st.InComment c plain = absurd (false≢true plain)
plain-step sep st.AfterCr c plain = plain-choose (c == 10) _ _ refl (plain-record sep c)

plain-between : (s : State) → ends_at_end s ≡ false → is_plain s ≡ true
plain-between st.StartRecord between = refl
plain-between st.StartField between = absurd (true≢false between)
plain-between st.InField between = absurd (true≢false between)
plain-between st.InQuoted between = absurd (true≢false between)
plain-between st.AfterQuote between = absurd (true≢false between)
plain-between st.InEscape between = absurd (true≢false between)
plain-between st.InComment between = absurd (true≢false between)
plain-between st.AfterCr between = refl

-- a record of two empty fields, which a separator began
two-fields : (fields : List (List ℕ)) (field : List ℕ) → (fields ++ field ∷ []) ++ [] ∷ [] ≡ nothing → (fields ≡ []) × (field ≡ [])
two-fields [] field e = (refl, (same_cons field [] ([] ∷ []) ([] ∷ []) e).0)
two-fields (x ∷ fields) field e = absurd (omega (arith, ap length e, length-append (fields ++ field ∷ []) ([] ∷ []), length-append fields (field ∷ [])))

no-quote : (fields : List (List ℕ)) (field : List ℕ) (c d : ℕ) → fields ++ ((field ++ c ∷ []) ++ d ∷ []) ∷ [] ≡ nothing → ⊥
no-quote [] field c d e = omega (arith, ap length e)
no-quote (x ∷ []) field c d e =
    some field c (same_cons ((field ++ c ∷ []) ++ d ∷ []) [] [] [] (same_cons x [] (((field ++ c ∷ []) ++ d ∷ []) ∷ []) ([] ∷ []) e).1).0
  where
    some : (xs : List ℕ) (c : ℕ) → (xs ++ c ∷ []) ++ d ∷ [] ≡ [] → ⊥
    some [] c same = nil_cons c (d ∷ []) (sym same)
    some (y ∷ xs) c same = nil_cons y ((xs ++ c ∷ []) ++ d ∷ []) (sym same)
no-quote (x ∷ y ∷ fields) field c d e = omega (arith, ap length e, length-append fields (((field ++ c ∷ []) ++ d ∷ []) ∷ []))

-- After a line end after which a separator would begin nothing the machine begins again.
abbrev pub BeginsAnew : Sep → State → List (List ℕ) → List ℕ → List ℕ → Type 0
BeginsAnew sep s fields field xs = (rest : List ℕ) → next_record (config sep) s fields field (xs ++ rest) ≡ next_record (config sep) st.StartRecord [] [] rest

begins : (sep : Sep) (s : State) (fields : List (List ℕ)) (field xs rest : List ℕ) (p : Read)
    → ◌≡◌ {A = Option Read} (Some ((fields ++ field ∷ []) ++ [] ∷ [], st.StartRecord, [])) (Some p) → p.0 ≡ nothing
    → next_record (config sep) s fields field xs ≡ next_record (config sep) st.StartRecord fields field rest
    → next_record (config sep) s fields field xs ≡ next_record (config sep) st.StartRecord [] [] rest
begins sep s fields field xs rest p is none e =
    let are = two-fields fields field (ap (λ r. r.0) (same_some _ p is) ∙ none) in
    e ∙ ap (λ f. next_record (config sep) st.StartRecord f field rest) are.0 ∙ ap (λ f. next_record (config sep) st.StartRecord [] f rest) are.1

-- nor does it where a byte is left, or where one was quoted
left-over : (fields : List (List ℕ)) (s : State) (c : ℕ) (p : Read) → ◌≡◌ {A = Option Read} (Some (fields, s, c ∷ [])) (Some p) → p.2 ≡ [] → ⊥
left-over fields s c p is last = nil_cons c [] (sym (ap (λ r. r.2) (same_some _ p is) ∙ last))

quoted : (fields : List (List ℕ)) (field : List ℕ) (c d : ℕ) (s : State) (p : Read)
    → ◌≡◌ {A = Option Read} (Some (fields ++ ((field ++ c ∷ []) ++ d ∷ []) ∷ [], s, [])) (Some p) → p.0 ≡ nothing → ⊥
quoted fields field c d s p is none = no-quote fields field c d (ap (λ r. r.0) (same_some _ p is) ∙ none)

at-carriage : (sep : Sep) (s : State) (fields : List (List ℕ)) (field : List ℕ) (p : Read)
    → is_plain s ≡ true → next_record (config sep) s fields field (13 ∷ separator sep ∷ []) ≡ Some p → p.2 ≡ [] → p.0 ≡ nothing
    → BeginsAnew sep s fields field (13 ∷ [])
unfolding next_record
at-carriage Comma st.StartRecord fields field p plain e last none = λ rest. begins Comma st.StartRecord fields field (13 ∷ rest) rest p e none refl
at-carriage Comma st.AfterCr fields field p plain e last none = λ rest. begins Comma st.AfterCr fields field (13 ∷ rest) rest p e none refl
at-carriage Comma st.StartField fields field p plain e last none = absurd (left-over _ _ 44 p e last)
at-carriage Comma st.InField fields field p plain e last none = absurd (left-over _ _ 44 p e last)
at-carriage Comma st.AfterQuote fields field p plain e last none = absurd (left-over _ _ 44 p e last)
at-carriage Comma st.InQuoted fields field p plain e last none = absurd (quoted fields field 13 44 _ p e none)
at-carriage Comma st.InEscape fields field p plain e last none = absurd (quoted fields field 13 44 _ p e none)
at-carriage Comma st.InComment fields field p plain e last none = absurd (false≢true plain)
at-carriage Semicolon st.StartRecord fields field p plain e last none = λ rest. begins Semicolon st.StartRecord fields field (13 ∷ rest) rest p e none refl
at-carriage Semicolon st.AfterCr fields field p plain e last none = λ rest. begins Semicolon st.AfterCr fields field (13 ∷ rest) rest p e none refl
at-carriage Semicolon st.StartField fields field p plain e last none = absurd (left-over _ _ 59 p e last)
at-carriage Semicolon st.InField fields field p plain e last none = absurd (left-over _ _ 59 p e last)
at-carriage Semicolon st.AfterQuote fields field p plain e last none = absurd (left-over _ _ 59 p e last)
at-carriage Semicolon st.InQuoted fields field p plain e last none = absurd (quoted fields field 13 59 _ p e none)
at-carriage Semicolon st.InEscape fields field p plain e last none = absurd (quoted fields field 13 59 _ p e none)
at-carriage Semicolon st.InComment fields field p plain e last none = absurd (false≢true plain)

at-feed : (sep : Sep) (s : State) (fields : List (List ℕ)) (field : List ℕ) (p : Read)
    → is_plain s ≡ true → next_record (config sep) s fields field (10 ∷ separator sep ∷ []) ≡ Some p → p.2 ≡ [] → p.0 ≡ nothing
    → BeginsAnew sep s fields field (10 ∷ [])
unfolding next_record
at-feed Comma st.StartRecord fields field p plain e last none = λ rest. begins Comma st.StartRecord fields field (10 ∷ rest) rest p e none refl
at-feed Comma st.AfterCr fields field p plain e last none = λ rest. begins Comma st.AfterCr fields field (10 ∷ rest) rest p e none refl
at-feed Comma st.StartField fields field p plain e last none = absurd (left-over _ _ 44 p e last)
at-feed Comma st.InField fields field p plain e last none = absurd (left-over _ _ 44 p e last)
at-feed Comma st.AfterQuote fields field p plain e last none = absurd (left-over _ _ 44 p e last)
at-feed Comma st.InQuoted fields field p plain e last none = absurd (quoted fields field 10 44 _ p e none)
at-feed Comma st.InEscape fields field p plain e last none = absurd (quoted fields field 10 44 _ p e none)
at-feed Comma st.InComment fields field p plain e last none = absurd (false≢true plain)
at-feed Semicolon st.StartRecord fields field p plain e last none = λ rest. begins Semicolon st.StartRecord fields field (10 ∷ rest) rest p e none refl
at-feed Semicolon st.AfterCr fields field p plain e last none = λ rest. begins Semicolon st.AfterCr fields field (10 ∷ rest) rest p e none refl
at-feed Semicolon st.StartField fields field p plain e last none = absurd (left-over _ _ 59 p e last)
at-feed Semicolon st.InField fields field p plain e last none = absurd (left-over _ _ 59 p e last)
at-feed Semicolon st.AfterQuote fields field p plain e last none = absurd (left-over _ _ 59 p e last)
at-feed Semicolon st.InQuoted fields field p plain e last none = absurd (quoted fields field 10 59 _ p e none)
at-feed Semicolon st.InEscape fields field p plain e last none = absurd (quoted fields field 10 59 _ p e none)
at-feed Semicolon st.InComment fields field p plain e last none = absurd (false≢true plain)

pub line-end : (c : ℕ) → is_line_end c ≡ true → (c ≡ 13) ⊎ (c ≡ 10)
line-end c e = go (c == 13) refl
  where
    go : (b : Bool) → (c == 13) ≡ b → (c ≡ 13) ⊎ (c ≡ 10)
    go true is = inl (eqb-true _ _ is)
    go false is = inr (eqb-true _ _ (sym (ap (λ b. b || (c == 10)) is) ∙ e))

at-line-end : (sep : Sep) (s : State) (fields : List (List ℕ)) (field : List ℕ) (p : Read) (c : ℕ)
    → is_line_end c ≡ true → is_plain s ≡ true → next_record (config sep) s fields field (c ∷ separator sep ∷ []) ≡ Some p → p.2 ≡ [] → p.0 ≡ nothing
    → BeginsAnew sep s fields field (c ∷ [])
at-line-end sep s fields field p c line plain e last none = go (line-end c line)
  where
    go : (c ≡ 13) ⊎ (c ≡ 10) → BeginsAnew sep s fields field (c ∷ [])
    go (inl is) = subst (λ b. BeginsAnew sep s fields field (b ∷ [])) (sym is)
        (at-carriage sep s fields field p plain (subst (λ b. next_record (config sep) s fields field (b ∷ separator sep ∷ []) ≡ Some p) is e) last none)
    go (inr is) = subst (λ b. BeginsAnew sep s fields field (b ∷ [])) (sym is)
        (at-feed sep s fields field p plain (subst (λ b. next_record (config sep) s fields field (b ∷ separator sep ∷ []) ≡ Some p) is e) last none)

-- So it does after all bytes that end with a line, where a separator
-- after them begins nothing and no record ended in them.
anew-inside : (sep : Sep) (s : State) (fields : List (List ℕ)) (field : List ℕ) (p : Read) (c : ℕ) (ys : List ℕ)
    → ends_line (c ∷ ys) ≡ true → is_plain s ≡ true → next_record (config sep) s fields field (c ∷ (ys ++ separator sep ∷ [])) ≡ Some p → p.2 ≡ [] → p.0 ≡ nothing
    → BeginsAnew sep s fields field (c ∷ ys)
unfolding next_record
anew-inside sep s fields field p c [] line plain e last none = at-line-end sep s fields field p c line plain e last none
anew-inside sep s fields field p c (d ∷ ys) line plain e last none =
    go (is_end (step (config sep) s c).1) e
    (λ same. anew-inside sep (step (config sep) s c).0 (fields_after (step (config sep) s c).1 fields field) (field_after (step (config sep) s c).1 c field) p d ys
    line (plain-step sep s c plain) same last none)
  where
    now : List ℕ → Option Read
    now text = Some (fields_after (step (config sep) s c).1 fields field, (step (config sep) s c).0, text)

    more : List ℕ → Option Read
    more text = next_record (config sep) (step (config sep) s c).0 (fields_after (step (config sep) s c).1 fields field) (field_after (step (config sep) s c).1 c field) text

    go : (b : Bool) → (if b then now (d ∷ (ys ++ separator sep ∷ [])) else more (d ∷ (ys ++ separator sep ∷ []))) ≡ Some p
        → (more (d ∷ (ys ++ separator sep ∷ [])) ≡ Some p → BeginsAnew sep (step (config sep) s c).0 (fields_after (step (config sep) s c).1 fields field) (field_after (step (config sep) s c).1 c field) (d ∷ ys))
        → (rest : List ℕ) → (if b then now (d ∷ (ys ++ rest)) else more (d ∷ (ys ++ rest))) ≡ next_record (config sep) st.StartRecord [] [] rest
    go true same later = absurd (nil_cons d (ys ++ separator sep ∷ []) (sym (ap (λ r. r.2) (same_some _ p same) ∙ last)))
    go false same later = later same

-- between two records a text reads alike
next-between : (sep : Sep) (s : State) (rest : List ℕ) → ends_at_end s ≡ false → next_record (config sep) s [] [] rest ≡ next_record (config sep) st.StartRecord [] [] rest
unfolding next_record
next-between sep st.StartRecord rest between = refl
next-between sep st.StartField rest between = absurd (true≢false between)
next-between sep st.InField rest between = absurd (true≢false between)
next-between sep st.InQuoted rest between = absurd (true≢false between)
next-between sep st.AfterQuote rest between = absurd (true≢false between)
next-between sep st.InEscape rest between = absurd (true≢false between)
next-between sep st.InComment rest between = absurd (true≢false between)
next-between sep st.AfterCr [] between = refl
next-between sep st.AfterCr (c ∷ rest) between = go (c == 10) refl
  where
    go : (b : Bool) → (c == 10) ≡ b
        → next_record (config sep) st.AfterCr [] [] (c ∷ rest) ≡ next_record (config sep) st.StartRecord [] [] (c ∷ rest)
    go true is =
        subst (λ d. next_record (config sep) st.AfterCr [] [] (d ∷ rest) ≡ next_record (config sep) st.StartRecord [] [] (d ∷ rest)) (sym (eqb-true c 10 is)) refl
    go false is = rw is refl

-- After a piece that ends with a line, and all of whose records but one that a separator begins
-- were passed over, the text begins again.
pub all-anew : (sep : Sep) (k : ℕ) (s : State) (ys : List ℕ)
    → ends_at_end s ≡ false → ends_line ys ≡ true → drop k (all (config sep) s (ys ++ separator sep ∷ [])) ≡ nothing ∷ []
    → (rest : List ℕ) → drop k (all (config sep) s (ys ++ rest)) ≡ all (config sep) st.StartRecord rest
all-anew sep k s ys between line is rest =
    passed.5 rest ∙ all-next cfg s2 (zs ++ rest) passed.2 ∙ ap (records_next (all cfg)) anew ∙ sym (all-next cfg st.StartRecord rest refl)
  where
    cfg : Config
    cfg = config sep

    passed : Passes cfg s ys (separator sep) k (nothing ∷ [])
    passed = all-passes cfg k s ys (separator sep) nothing [] between is

    s2 : State
    s2 = passed.0

    zs : List ℕ
    zs = passed.1

    last : (p : Read) → next_record cfg s2 [] [] (zs ++ separator sep ∷ []) ≡ Some p → (p.2 ≡ []) × (p.0 ≡ nothing)
    last p e = (go p.2 refl, same.0)
      where
        same : (p.0 ≡ nothing) × (all cfg p.1 p.2 ≡ [])
        same = same_cons p.0 nothing (all cfg p.1 p.2) []
            (sym (all-next cfg s2 (zs ++ separator sep ∷ []) passed.2 ∙ ap (records_next (all cfg)) e) ∙ passed.4)

        after : ends_at_end p.1 ≡ false
        after = (next_record-after cfg s2 [] [] (zs ++ separator sep ∷ []) p e).1

        go : (left : List ℕ) → p.2 ≡ left → p.2 ≡ []
        go [] is = is
        go (c ∷ left) is =
            let some : 0 < length p.2 = subst (λ l. 0 < length l) (sym is) (omega arith) in
            let ends = next_record-ends_before cfg s2 [] [] zs (separator sep) p e some in
            let first = all-found sep p.1 ends.0 after in
            absurd (nil_cons first.0 first.1 (sym same.1 ∙ ap (all cfg p.1) ends.1 ∙ first.2))

    inside : (xs : List ℕ) → ends_line xs ≡ true → ((p : Read) → next_record cfg s2 [] [] (xs ++ separator sep ∷ []) ≡ Some p → (p.2 ≡ []) × (p.0 ≡ nothing))
        → next_record cfg s2 [] [] (xs ++ rest) ≡ next_record cfg st.StartRecord [] [] rest
    inside [] ends were = next-between sep s2 rest passed.2
    inside (c ∷ xs) ends were = go (next_record cfg s2 [] [] (c ∷ (xs ++ separator sep ∷ []))) refl
      where
        go : (o : Option Read) → next_record cfg s2 [] [] (c ∷ (xs ++ separator sep ∷ [])) ≡ o
            → next_record cfg s2 [] [] (c ∷ (xs ++ rest)) ≡ next_record cfg st.StartRecord [] [] rest
        go None e = absurd (next-found sep s2 [] [] (c ∷ xs) e)
        go (Some p) e =
            let is = were p e in
            anew-inside sep s2 [] [] p c xs ends (plain-between s2 passed.2) e is.0 is.1 rest

    anew : next_record cfg s2 [] [] (zs ++ rest) ≡ next_record cfg st.StartRecord [] [] rest
    anew = inside zs (passed.3 line) last

-- a line feed at the start of a text is no record
pub all-line : (sep : Sep) (rest : List ℕ) → all (config sep) st.StartRecord (10 ∷ rest) ≡ all (config sep) st.StartRecord rest
unfolding next_record
all-line sep rest = all-next (config sep) st.StartRecord (10 ∷ rest) refl ∙ sym (all-next (config sep) st.StartRecord rest refl)

-- ---- the end of a line within a text

pub ends_line-take : (bytes : List ℕ) (n : ℕ) → n < length bytes → is_line_end (get_or bytes n 0) ≡ true → ends_line (take (suc n) bytes) ≡ true
ends_line-take [] n within line = absurd (omega (arith, within))
ends_line-take (c ∷ bytes) zero within line = line
ends_line-take (c ∷ []) (suc n) within line = absurd (omega (arith, within))
ends_line-take (c ∷ d ∷ bytes) (suc n) within line = ends_line-take (d ∷ bytes) n (omega (arith, within)) line

pub ends_line-found : (bytes : List ℕ) (n : ℕ) → n < length bytes → is_line_end (get_or bytes n 0) ≡ true → ends_line (take (n + 1) bytes) ≡ true
ends_line-found bytes n within line = ap (λ j. ends_line (take j bytes)) (add-one n) ∙ ends_line-take bytes n within line

-- the last line ends where no byte after it ends one
pub last-line : (bytes : List ℕ) (n size : ℕ) → ((k : ℕ) → n ≤ k → k < length bytes → is_line_end (get_or bytes k 0) ≡ false)
    → size ≤ length bytes → ends_line (take size bytes) ≡ true → size ≤ n
last-line bytes n zero none within line = omega arith
last-line bytes n (suc k) none within line = go (nat_le n k) refl
  where
    byte : (bytes : List ℕ) (k : ℕ) → suc k ≤ length bytes → ends_line (take (suc k) bytes) ≡ true → is_line_end (get_or bytes k 0) ≡ true
    byte [] k within line = absurd (omega (arith, within))
    byte (c ∷ bytes) zero within line = line
    byte (c ∷ []) (suc k) within line = absurd (omega (arith, within))
    byte (c ∷ d ∷ bytes) (suc k) within line = byte (d ∷ bytes) k (omega (arith, within)) line

    go : (b : Bool) → nat_le n k ≡ b → suc k ≤ n
    go true is =
        absurd (false≢true (sym (none k (leb-true n k is) (omega (arith, within))) ∙ byte bytes k within line))
    go false is = grind (arith, nat_tests)

pub ends_line-at : (bytes : List ℕ) (n : ℕ) → 0 < n → n ≤ length bytes → is_line_end (get_or bytes (n - 1) 0) ≡ true → ends_line (take n bytes) ≡ true
ends_line-at bytes zero some within line = absurd (omega (arith, some))
ends_line-at bytes (suc n) some within line =
    let one : suc n - 1 ≡ n = omega arith in
    ends_line-take bytes n (omega (arith, within)) (ap (λ k. is_line_end (get_or bytes k 0)) (sym one) ∙ line)

-- a byte of which it is not true that it ends a line
pub no-line_end : (b : Bool) → ¬ (b ≡ true) → b ≡ false
no-line_end true never = absurd (never refl)
no-line_end false never = refl
