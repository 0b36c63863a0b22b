-- The records of a text, by a piece of it and what may come after.
use Rattle.std.proofs.Common.{◌≡◌, ◌<◌, ◌≤◌, ◌+◌, ◌++◌, ◌∷◌, ◌∙◌, ℕ, zero, suc, List, [], Bool, true, false, Option, Some, None, length, drop, refl, sym, ap, subst, arith, add-one, length-append, length-drop, append_assoc, ◌-◌}
use Rattle.std.specs.Prelude.{◌==◌, ◌&&◌, ◌⊎◌, if◌then◌else◌}
use Rattle.std.proofs.Common.{inl, inr}
use Rattle.csv.specs.Machine.{Read, next_record}
use Rattle.csv.specs.Reading.{records, records_from, records_next, strip_bom, is_bom}
use Rattle.csv.specs.declared.parser.Config.{Config}
use Rattle.csv.specs.declared.parser.State.{State}
use Rattle.csv.specs.declared.parser.State.TheVariants as st
use Rattle.tally_import_records.specs.Input.{without_last, complete_records}
use Rattle.tally_import_records.specs.internal.Pieces.{is_line_end, ends_line, nothing}
use Rattle.tally_import_records.specs.Separator.{separator, config}
use Rattle.tally_import_records.specs.declared.end.Stop.{Stop}
use Rattle.tally_import_records.specs.declared.separator.Sep.{Sep}
use Rattle.tally_import_records.specs.declared.separator.Sep.TheVariants.{Comma, Semicolon}
use Rattle.tally_import_records.proofs.FrontLemmas.{no-mark, complete_records-front}
use Rattle.tally_import_records.proofs.PieceLemmas.{all, all-passes, all-steps, all-found, all-anew, all-line, HasFirst, line-end, drop-nothing}

-- ---- the byte order mark

-- a line feed is no part of one
strip-line : (rest : List ℕ) → strip_bom (10 ∷ rest) ≡ 10 ∷ rest
unfolding strip_bom
strip-line [] = refl
strip-line (a ∷ []) = refl
strip-line (a ∷ b ∷ rest) = refl

no-mark-line : (a b c : ℕ) → is_line_end a ≡ true → is_bom a b c ≡ false
no-mark-line a b c line = go (line-end a line)
  where
    go : (a ≡ 13) ⊎ (a ≡ 10) → is_bom a b c ≡ false
    go (inl is) = rw is refl
    go (inr is) = rw is refl

no-mark-second : (a b c : ℕ) → is_line_end b ≡ true → is_bom a b c ≡ false
no-mark-second a b c line = go (line-end b line) (a == 0xEF)
  where
    none : (x : Bool) → (x && false && (c == 0xBF)) ≡ false
    none true = refl
    none false = refl

    go : (b ≡ 13) ⊎ (b ≡ 10) → (x : Bool) → is_bom a b c ≡ false
    go (inl is) x = rw is (none (a == 0xEF))
    go (inr is) x = rw is (none (a == 0xEF))

-- A piece without its mark, whatever follows.
abbrev pub Unmarked : List ℕ → Type 0
Unmarked piece = (base : List ℕ) × (ends_line base ≡ true) × ((rest : List ℕ) → strip_bom (piece ++ rest) ≡ base ++ rest)

unmarked : (c : ℕ) (ys : List ℕ) → ends_line (c ∷ ys) ≡ true → Unmarked (c ∷ ys)
unfolding strip_bom
unmarked c [] line = (c ∷ [], line, one)
  where
    one : (rest : List ℕ) → strip_bom (c ∷ rest) ≡ c ∷ rest
    one [] = refl
    one (a ∷ []) = refl
    one (a ∷ b ∷ rest) = ap (λ m. if m then rest else c ∷ a ∷ b ∷ rest) (no-mark-line c a b line)
unmarked c (d ∷ []) line = (c ∷ d ∷ [], line, two)
  where
    two : (rest : List ℕ) → strip_bom (c ∷ d ∷ rest) ≡ c ∷ d ∷ rest
    two [] = refl
    two (a ∷ rest) = ap (λ m. if m then rest else c ∷ d ∷ a ∷ rest) (no-mark-second c d a line)
unmarked c (d ∷ e ∷ ys) line = go (is_bom c d e) refl
  where
    behind : (xs : List ℕ) → ends_line (e ∷ xs) ≡ true → ends_line xs ≡ true
    behind [] same = refl
    behind (x ∷ xs) same = same

    go : (m : Bool) → is_bom c d e ≡ m → Unmarked (c ∷ d ∷ e ∷ ys)
    go true is = (ys, behind ys line, λ rest. ap (λ m. if m then ys ++ rest else c ∷ d ∷ e ∷ (ys ++ rest)) is)
    go false is = (c ∷ d ∷ e ∷ ys, line, λ rest. ap (λ m. if m then ys ++ rest else c ∷ d ∷ e ∷ (ys ++ rest)) is)

-- a text with a field begun after it has a record
pub some-record : (sep : Sep) (xs : List ℕ) → HasFirst (records (config sep) (strip_bom (xs ++ separator sep ∷ [])))
unfolding strip_bom
some-record sep [] = all-found sep st.StartRecord [] refl
some-record sep (a ∷ []) = all-found sep st.StartRecord (a ∷ []) refl
some-record sep (a ∷ b ∷ []) =
    subst (λ m. HasFirst (records (config sep) (if m then [] else a ∷ b ∷ separator sep ∷ []))) (sym (no-mark sep a b)) (all-found sep st.StartRecord (a ∷ b ∷ []) refl)
some-record sep (a ∷ b ∷ c ∷ xs) = go (is_bom a b c)
  where
    go : (m : Bool) → HasFirst (records (config sep) (if m then xs ++ separator sep ∷ [] else a ∷ b ∷ c ∷ (xs ++ separator sep ∷ [])))
    go true = all-found sep st.StartRecord xs refl
    go false = all-found sep st.StartRecord (a ∷ b ∷ c ∷ xs) refl

-- ---- all but the last

pub without_last-drop : (k : ℕ) (rows : List (List (List ℕ))) → drop k (without_last rows) ≡ without_last (drop k rows)
without_last-drop zero rows = refl
without_last-drop (suc k) [] = refl
without_last-drop (suc k) (a ∷ []) = ap without_last (sym (drop-nothing k))
without_last-drop (suc k) (a ∷ b ∷ rows) = without_last-drop k (b ∷ rows)

pub drop-next : (k : ℕ) (rows : List (List (List ℕ))) (a : List (List ℕ)) (more : List (List (List ℕ))) → drop k rows ≡ a ∷ more → drop (k + 1) rows ≡ more
drop-next k rows a more is = ap (λ n. drop n rows) (add-one k) ∙ go k rows is
  where
    go : (k : ℕ) (rows : List (List (List ℕ))) → drop k rows ≡ a ∷ more → drop (suc k) rows ≡ more
    go zero [] is = cc is
    go zero (r ∷ rows) is = cc is
    go (suc k) [] is = cc is
    go (suc k) (r ∷ rows) is = go k rows is

pub next-dropped : (k : ℕ) (rows : List (List (List ℕ))) (a : List (List ℕ)) (more : List (List (List ℕ))) → drop k rows ≡ a ∷ more → drop k rows ≡ a ∷ drop (k + 1) rows
next-dropped k rows a more is = is ∙ ap (λ l. a ∷ l) (sym (drop-next k rows a more is))

-- ---- a piece

one-record : (sep : Sep) → length (records (config sep) (strip_bom (separator sep ∷ []))) ≡ 1
unfolding strip_bom records_from next_record
one-record Comma = refl
one-record Semicolon = refl

none-in-nothing : (sep : Sep) (k : ℕ) (a b : List (List ℕ)) (more : List (List (List ℕ)))
    → drop k (records (config sep) (strip_bom (separator sep ∷ []))) ≡ a ∷ b ∷ more → ⊥
none-in-nothing sep k a b more is = omega (arith, one-record sep, ap length is, length-drop k (records (config sep) (strip_bom (separator sep ∷ []))))

length-without_last : (rows : List (List (List ℕ))) → length (without_last rows) ≡ length rows - 1
length-without_last [] = refl
length-without_last (a ∷ []) = refl
length-without_last (a ∷ b ∷ rows) = omega (arith, length-without_last (b ∷ rows))

-- a record of a piece that another one follows is complete, whatever comes after the piece
pub gives : (sep : Sep) (piece : List ℕ) (k : ℕ) (a b : List (List ℕ)) (more : List (List (List ℕ))) (rest : List ℕ) (stop : Option Stop)
    → ends_line piece ≡ true → drop k (records (config sep) (strip_bom (piece ++ separator sep ∷ []))) ≡ a ∷ b ∷ more
    → drop k (complete_records sep (piece ++ rest) stop) ≡ a ∷ drop (k + 1) (complete_records sep (piece ++ rest) stop)
gives sep [] k a b more rest stop line is = absurd (none-in-nothing sep k a b more is)
gives sep (c ∷ ys) k a b more rest None line is =
    let base = unmarked c ys line in
    let rows = ap (λ t. drop k (records (config sep) t)) (sym (base.2 (separator sep ∷ []))) ∙ is in
    let passed = all-passes (config sep) k st.StartRecord base.0 (separator sep) a (b ∷ more) refl rows in
    let one = all-steps (config sep) passed.0 passed.1 (separator sep) a b more passed.2 passed.4 in
    next-dropped k (complete_records sep (c ∷ (ys ++ rest)) None) a _ (ap (λ t. drop k (records (config sep) t)) (base.2 rest) ∙ passed.5 rest ∙ one.5 rest)
gives sep (c ∷ ys) k a b more rest (Some stop) line is =
    let base = unmarked c ys line in
    let rows = ap (λ t. drop k (records (config sep) t)) (sym (base.2 (separator sep ∷ []))) ∙ is in
    let passed = all-passes (config sep) k st.StartRecord base.0 (separator sep) a (b ∷ more) refl rows in
    let one = all-steps (config sep) passed.0 passed.1 (separator sep) a b more passed.2 passed.4 in
    let text : strip_bom (((c ∷ ys) ++ rest) ++ separator sep ∷ []) ≡ base.0 ++ (rest ++ separator sep ∷ []) =
    ap strip_bom (append_assoc (c ∷ ys) rest (separator sep ∷ [])) ∙ base.2 (rest ++ separator sep ∷ []) in
    let first = all-found sep one.0 (one.1 ++ rest) one.2 in
    let behind : all (config sep) one.0 (one.1 ++ (rest ++ separator sep ∷ [])) ≡ first.0 ∷ first.1 =
    ap (all (config sep) one.0) (sym (append_assoc one.1 rest (separator sep ∷ []))) ∙ first.2 in
    next-dropped k (complete_records sep (c ∷ (ys ++ rest)) (Some stop)) a _
    (without_last-drop k _ ∙ ap without_last (ap (λ t. drop k (records (config sep) t)) text
    ∙ passed.5 (rest ++ separator sep ∷ []) ∙ one.5 (rest ++ separator sep ∷ []) ∙ ap (λ l. a ∷ l) behind))

-- what is left of a text after a piece that was given
pub anew : (sep : Sep) (c : ℕ) (ys : List ℕ) (k : ℕ) (rest : List ℕ) (stop : Option Stop)
    → ends_line (c ∷ ys) ≡ true → drop k (records (config sep) (strip_bom ((c ∷ ys) ++ separator sep ∷ []))) ≡ nothing ∷ []
    → drop k (complete_records sep ((c ∷ ys) ++ rest) stop) ≡ complete_records sep (10 ∷ rest) stop
anew sep c ys k rest None line is =
    let base = unmarked c ys line in
    let rows = ap (λ t. drop k (records (config sep) t)) (sym (base.2 (separator sep ∷ []))) ∙ is in
    ap (λ t. drop k (records (config sep) t)) (base.2 rest) ∙ all-anew sep k st.StartRecord base.0 refl base.1 rows rest
    ∙ sym (all-line sep rest) ∙ ap (records (config sep)) (sym (strip-line rest))
anew sep c ys k rest (Some stop) line is =
    let base = unmarked c ys line in
    let rows = ap (λ t. drop k (records (config sep) t)) (sym (base.2 (separator sep ∷ []))) ∙ is in
    let text : strip_bom (((c ∷ ys) ++ rest) ++ separator sep ∷ []) ≡ base.0 ++ (rest ++ separator sep ∷ []) =
    ap strip_bom (append_assoc (c ∷ ys) rest (separator sep ∷ [])) ∙ base.2 (rest ++ separator sep ∷ []) in
    without_last-drop k _ ∙ ap without_last (ap (λ t. drop k (records (config sep) t)) text
    ∙ all-anew sep k st.StartRecord base.0 refl base.1 rows (rest ++ separator sep ∷ [])
    ∙ sym (all-line sep (rest ++ separator sep ∷ [])) ∙ ap (records (config sep)) (sym (strip-line (rest ++ separator sep ∷ []))))

-- after the records that were given of a piece there is one more in a longer one
pub more-behind : (sep : Sep) (piece : List ℕ) (k : ℕ) (a : List (List ℕ)) (rest : List ℕ)
    → ends_line piece ≡ true → drop k (records (config sep) (strip_bom (piece ++ separator sep ∷ []))) ≡ a ∷ []
    → k < length (records (config sep) (strip_bom ((piece ++ rest) ++ separator sep ∷ [])))
more-behind sep [] k a rest line is =
    let first = some-record sep rest in
    omega (arith, ap length first.2, ap length is, one-record sep, length-drop k (records (config sep) (strip_bom (separator sep ∷ []))))
more-behind sep (c ∷ ys) k a rest line is =
    let base = unmarked c ys line in
    let rows = ap (λ t. drop k (records (config sep) t)) (sym (base.2 (separator sep ∷ []))) ∙ is in
    let passed = all-passes (config sep) k st.StartRecord base.0 (separator sep) a [] refl rows in
    let text : strip_bom (((c ∷ ys) ++ rest) ++ separator sep ∷ []) ≡ base.0 ++ (rest ++ separator sep ∷ []) =
    ap strip_bom (append_assoc (c ∷ ys) rest (separator sep ∷ [])) ∙ base.2 (rest ++ separator sep ∷ []) in
    let first = all-found sep passed.0 (passed.1 ++ rest) passed.2 in
    let behind : drop k (records (config sep) (strip_bom (((c ∷ ys) ++ rest) ++ separator sep ∷ []))) ≡ first.0 ∷ first.1 =
    ap (λ t. drop k (records (config sep) t)) text ∙ passed.5 (rest ++ separator sep ∷ [])
    ∙ ap (all (config sep) passed.0) (sym (append_assoc passed.1 rest (separator sep ∷ []))) ∙ first.2 in
    omega (arith, ap length behind, length-drop k (records (config sep) (strip_bom (((c ∷ ys) ++ rest) ++ separator sep ∷ []))))

-- and as many in the whole text
pub as-many : (sep : Sep) (piece : List ℕ) (k : ℕ) (a : List (List ℕ)) (rest : List ℕ) (stop : Stop)
    → drop k (records (config sep) (strip_bom (piece ++ separator sep ∷ []))) ≡ a ∷ []
    → k ≤ length (records (config sep) (strip_bom (piece ++ rest)))
as-many sep piece k a rest stop is =
    let front = complete_records-front sep piece rest stop in
    let dropped : drop k (without_last (records (config sep) (strip_bom (piece ++ separator sep ∷ [])))) ≡ [] = without_last-drop k _ ∙ ap without_last is in
    omega (
      arith,
      ap length front.1,
      length-append (without_last (records (config sep) (strip_bom (piece ++ separator sep ∷ [])))) front.0,
      length-without_last (records (config sep) (strip_bom (piece ++ separator sep ∷ []))),
      ap length is,
      length-drop k (records (config sep) (strip_bom (piece ++ separator sep ∷ []))),
    )

-- ---- how many records a text has

records_from-few : (cfg : Config) (n : ℕ) (s : State) (xs : List ℕ) → length (records_from cfg n s xs) ≤ n
unfolding records_from
records_from-few cfg zero s xs = omega arith
records_from-few cfg (suc n) s xs = go (next_record cfg s [] [] xs) (λ s2 ys. records_from-few cfg n s2 ys)
  where
    go : (o : Option Read) → ((s2 : State) (ys : List ℕ) → length (records_from cfg n s2 ys) ≤ n) → length (records_next (records_from cfg n) o) ≤ suc n
    go None few = omega arith
    go (Some p) few = omega (arith, few p.1 p.2)

strip-shorter : (xs : List ℕ) → length (strip_bom xs) ≤ length xs
unfolding strip_bom
strip-shorter [] = omega arith
strip-shorter (a ∷ []) = omega arith
strip-shorter (a ∷ b ∷ []) = omega arith
strip-shorter (a ∷ b ∷ c ∷ xs) = go (is_bom a b c)
  where
    go : (m : Bool) → length (if m then xs else a ∷ b ∷ c ∷ xs) ≤ length (a ∷ b ∷ c ∷ xs)
    go true = omega arith
    go false = omega arith

-- no more than its bytes and one
pub records-few : (sep : Sep) (text : List ℕ) → length (records (config sep) (strip_bom text)) ≤ length text + 1
records-few sep text = omega (arith, records_from-few (config sep) (length (strip_bom text) + 1) st.StartRecord (strip_bom text), strip-shorter text)
