-- What an INSERT of several rows means and does, each with the next item and its number.
use Rattle.std.proofs.Common.{◌≡◌, Some, ℕ, ◌+◌, ◌-◌, ◌*◌, ◌/◌, ◌≤◌, ◌<◌, pos, suc, zero, List, [], ◌∷◌, ◌++◌, length, take, drop, set, get_or, Result, refl, sym, ap, ap₂, subst, ◌∙◌, arith, true, nat_lt, append_assoc}
use Rattle.std.specs.List.{AllByRecursion, list_all, range_with_len}
use Rattle.std.specs.Str.{IsAscii, IsCharBoundary}
use Rattle.std.specs.List.Sorted.{IsPermutation}
use Rattle.std.proofs.lemmas.List.{get_or-drop, drop-drop, length-set, length-take, map-append, take_more, take_more_set}
use Rattle.std.proofs.lemmas.Str.{IsCharBoundary-from_ascii}
use Rattle.std.proofs.lemmas.Str.Ascii.{IsAscii-nil, IsAscii-cons}
use Rattle.std.proofs.lemmas.Bool.{and_parts, ltb-true}
use Rattle.std.proofs.lemmas.List.FromFn.{get_or-range_with_len}
use Rattle.std.proofs.lemmas.List.Elements.{All-from_recursion}
use Rattle.std.proofs.lemmas.List.Sorted.{IsPermutation-trans, IsPermutation-append_left, IsPermutation-append_right, IsPermutation-append_comm}
use Rattle.sqlite_value.specs.declared.value.Value.TheVariants.{Null, Int, Text}
use Rattle.sqlite_value.specs.declared.value.ValueRef.{ValueRef}
use Rattle.sqlite_value.specs.Value.{owned}
use Rattle.sqlite_value.specs.Order.{Row}
use Rattle.sqlite_sql.specs.Term.{Term, lit, col}
use Rattle.sqlite_schema.specs.declared.command.Command.{Command}
use Rattle.sqlite_schema.specs.declared.command.Command.TheVariants.{Insert}
use Rattle.sqlite_schema.specs.declared.command.Source.TheVariants.{Values}
use Rattle.sqlite_resolve.specs.Compile.{compiled}
use Rattle.sqlite_rules.specs.Cast.{cast_all}
use Rattle.sqlite.specs.declared.error.Error.{Error}
use Rattle.sqlite.specs.Effect.{value_rows}
use Rattle.sqlite.specs.Values.{bound, bound_value}
use Rattle.sqlite.specs.State.{State}
use Rattle.sqlite_tied.specs.Compute.{everything}
use Rattle.tally_store_schema.proofs.ManyLemmas.{unnumbered}
use Rattle.tally_store_schema.proofs.StatementLemmas.{cast_int}
use Rattle.tally_store_schema.specs.Tables.{office_schema}
use Rattle.tally_store_schema.specs.declared.table.KeyedTable.{KeyedTable}
use Rattle.tally_store_schema.specs.declared.numbered.NumberedTable.{NumberedTable}
use Rattle.tally_store_schema.specs.declared.numbered.NumberedTable.TheVariants as numbered
use Rattle.tally_store_schema.specs.Office.{table_of, rows_in, HasRows, InsertsAll, RunsWithValues, numbered_rows}
use Rattle.tally_store_schema.specs.internal.StatementTexts.{insert_rows_text, most_rows_text, rows_end}
use Rattle.tally_store_schema.specs.internal.Numbered.{IsFront, keyed_table, pairs}
use Rattle.tally_store_schema.proofs.TableLemmas.{table_number}
use Rattle.tally_store_schema.proofs.StatementTextLemmas.{on_ok}
use Rattle.tally_store_schema.proofs.WriteLemmas.{Means, plain_command, understood_as, inserts_all}

-- ---- the terms of the rows, from the parameter at this place on

abbrev front_terms : NumberedTable → List Term
front_terms numbered.Counts = col 0 0 ∷ []
front_terms numbered.Lots = col 0 0 ∷ []
front_terms numbered.Seats = col 0 0 ∷ []
front_terms numbered.Past = col 0 0 ∷ col 0 1 ∷ []

abbrev front_length : NumberedTable → ℕ
front_length numbered.Counts = 1
front_length numbered.Lots = 1
front_length numbered.Seats = 1
front_length numbered.Past = 2

abbrev width : NumberedTable → ℕ
width numbered.Counts = 4
width numbered.Lots = 4
width numbered.Seats = 4
width numbered.Past = 5

abbrev terms_from : List Term → ℕ → ℕ → List Term
terms_from front at zero = []
terms_from front at (suc rows) = (lit Null ∷ front ++ col 0 at ∷ col 0 (at + 1) ∷ []) ++ terms_from front (at + 2) rows

abbrev terms : NumberedTable → ℕ → List Term
terms t rows = terms_from (front_terms t) (front_length t) rows

-- ---- what each text means

abbrev meant : NumberedTable → ℕ → Command
meant t rows = Insert (table_number (keyed_table t)) (Values (terms t rows) (width t))

abbrev IsCompiled : NumberedTable → ℕ → Type 0
IsCompiled t rows = plain_command (compiled office_schema (insert_rows_text t rows)) ≡ Some (meant t rows)

counts_compiled : AllByRecursion (IsCompiled numbered.Counts) (range_with_len 1 16)
unfolding everything
counts_compiled = (refl, (refl, (refl, (refl, (refl, (refl, (refl, (refl, (refl, (refl, (refl, (refl, (refl, (refl, (refl, (refl, tt))))))))))))))))

lots_compiled : AllByRecursion (IsCompiled numbered.Lots) (range_with_len 1 16)
unfolding everything
lots_compiled = (refl, (refl, (refl, (refl, (refl, (refl, (refl, (refl, (refl, (refl, (refl, (refl, (refl, (refl, (refl, (refl, tt))))))))))))))))

seats_compiled : AllByRecursion (IsCompiled numbered.Seats) (range_with_len 1 16)
unfolding everything
seats_compiled = (refl, (refl, (refl, (refl, (refl, (refl, (refl, (refl, (refl, (refl, (refl, (refl, (refl, (refl, (refl, (refl, tt))))))))))))))))

past_compiled : AllByRecursion (IsCompiled numbered.Past) (range_with_len 1 16)
unfolding everything
past_compiled = (refl, (refl, (refl, (refl, (refl, (refl, (refl, (refl, (refl, (refl, (refl, (refl, (refl, (refl, (refl, (refl, tt))))))))))))))))

each_compiled : (t : NumberedTable) → AllByRecursion (IsCompiled t) (range_with_len 1 16)
each_compiled numbered.Counts = counts_compiled
each_compiled numbered.Lots = lots_compiled
each_compiled numbered.Seats = seats_compiled
each_compiled numbered.Past = past_compiled

means_rows : (t : NumberedTable) (rows : ℕ) → 1 ≤ rows → rows ≤ 16 → Means (insert_rows_text t rows) (meant t rows)
means_rows t rows some few =
    let place : ℕ = rows - 1 in
    let zeroth : ℕ = 0 in
    let low : place < 16 = omega (arith, some, few) in
    let at : 1 + place ≡ rows = omega (arith, some) in
    let is : IsCompiled t rows = subst (IsCompiled t) (get_or-range_with_len 1 16 place zeroth low ∙ at) (All-from_recursion (IsCompiled t) (range_with_len 1 16) (each_compiled t) place zeroth low) in
    (understood_as (insert_rows_text t rows) (meant t rows) is).0

-- ---- where a text may end

-- texts whose bytes are all ASCII
ascii_by : (bs : List ℕ) → list_all (λ b. nat_lt b 128) bs ≡ true → IsAscii bs
ascii_by [] h = IsAscii-nil
ascii_by (b ∷ bs) h =
    let parts = and_parts (nat_lt b 128) (list_all (λ x. nat_lt x 128) bs) h in
    IsAscii-cons b bs (ltb-true b 128 parts.0) (ascii_by bs parts.1)

all_ascii : (t : NumberedTable) → IsAscii (most_rows_text t)
all_ascii numbered.Counts = ascii_by (most_rows_text numbered.Counts) refl
all_ascii numbered.Lots = ascii_by (most_rows_text numbered.Lots) refl
all_ascii numbered.Seats = ascii_by (most_rows_text numbered.Seats) refl
all_ascii numbered.Past = ascii_by (most_rows_text numbered.Past) refl

pub ends_anywhere : (t : NumberedTable) (end : ℕ) → end ≤ length (most_rows_text t) → IsCharBoundary (most_rows_text t) end
ends_anywhere t end low = IsCharBoundary-from_ascii (most_rows_text t) end (all_ascii t) low

pub ends_within : (t : NumberedTable) (rows : ℕ) → rows ≤ 16 → rows_end t rows ≤ length (most_rows_text t)
ends_within numbered.Counts rows few = omega (arith, few)
ends_within numbered.Lots rows few = omega (arith, few)
ends_within numbered.Seats rows few = omega (arith, few)
ends_within numbered.Past rows few = omega (arith, few)

-- ---- what they are worth

-- the rows of a statement whose parameters from this place on are the numbers with their items
key_rows : (key : List ℕ) (params : Row) (at first : ℕ) (ns : List ℕ) → get_or params 0 Null ≡ Text key → drop at params ≡ pairs first ns
    → value_rows params 4 (length ns) (terms_from (col 0 0 ∷ []) at (length ns)) ≡ unnumbered (numbered_rows (Text key ∷ []) first ns)
key_rows key params at first [] own e = refl
key_rows key params at first (n ∷ ns) own e =
    let item : get_or params at Null ≡ Int (pos first) = ap (λ j. get_or params j Null) (omega arith) ∙ sym (get_or-drop at params 0 Null) ∙ ap (λ (l : Row). get_or l 0 Null) e in
    let number : get_or params (at + 1) Null ≡ Int (pos n) = sym (get_or-drop at params 1 Null) ∙ ap (λ (l : Row). get_or l 1 Null) e in
    let rest : drop (at + 2) params ≡ pairs (first + 1) ns = sym (drop-drop 2 at params) ∙ ap (drop 2) e in
    let later = key_rows key params (at + 2) (first + 1) ns own rest in
    (λ i. (Null ∷ own i ∷ item i ∷ number i ∷ []) ∷ later i)

edition_rows : (con : List ℕ) (edition : ℕ) (params : Row) (at first : ℕ) (ns : List ℕ) → get_or params 0 Null ≡ Text con → get_or params 1 Null ≡ Int (pos edition) → drop at params ≡ pairs first ns
    → value_rows params 5 (length ns) (terms_from (col 0 0 ∷ col 0 1 ∷ []) at (length ns)) ≡ unnumbered (numbered_rows (Text con ∷ Int (pos edition) ∷ []) first ns)
edition_rows con edition params at first [] own next e = refl
edition_rows con edition params at first (n ∷ ns) own next e =
    let item : get_or params at Null ≡ Int (pos first) = ap (λ j. get_or params j Null) (omega arith) ∙ sym (get_or-drop at params 0 Null) ∙ ap (λ (l : Row). get_or l 0 Null) e in
    let number : get_or params (at + 1) Null ≡ Int (pos n) = sym (get_or-drop at params 1 Null) ∙ ap (λ (l : Row). get_or l 1 Null) e in
    let rest : drop (at + 2) params ≡ pairs (first + 1) ns = sym (drop-drop 2 at params) ∙ ap (drop 2) e in
    let later = edition_rows con edition params (at + 2) (first + 1) ns own next rest in
    (λ i. (Null ∷ own i ∷ next i ∷ item i ∷ number i ∷ []) ∷ later i)

-- as many rows as their terms say
key_terms : (at rows : ℕ) → length (terms_from (col 0 0 ∷ []) at rows) / 4 ≡ rows
key_terms at rows = omega (arith, key_length at rows)
  where
    key_length : (at rows : ℕ) → length (terms_from (col 0 0 ∷ []) at rows) ≡ 4 * rows
    key_length at zero = refl
    key_length at (suc rows) = omega (arith, key_length (at + 2) rows)

edition_terms : (at rows : ℕ) → length (terms_from (col 0 0 ∷ col 0 1 ∷ []) at rows) / 5 ≡ rows
edition_terms at rows = omega (arith, edition_length at rows)
  where
    edition_length : (at rows : ℕ) → length (terms_from (col 0 0 ∷ col 0 1 ∷ []) at rows) ≡ 5 * rows
    edition_length at zero = refl
    edition_length at (suc rows) = omega (arith, edition_length (at + 2) rows)

rows_are : (t : NumberedTable) (front : Row) (first : ℕ) (ns : List ℕ) → IsFront t front
    → value_rows (front ++ pairs first ns) (width t) (length (terms t (length ns)) / width t) (terms t (length ns)) ≡ unnumbered (numbered_rows front first ns)
rows_are numbered.Counts _ first ns (key, is) = subst (λ front. value_rows (front ++ pairs first ns) 4 (length (terms numbered.Counts (length ns)) / 4) (terms numbered.Counts (length ns)) ≡ unnumbered (numbered_rows front first ns)) (sym is)
    (ap (λ count. value_rows (Text key ∷ pairs first ns) 4 count (terms numbered.Counts (length ns))) (key_terms 1 (length ns)) ∙ key_rows key (Text key ∷ pairs first ns) 1 first ns refl refl)
rows_are numbered.Lots _ first ns (key, is) = subst (λ front. value_rows (front ++ pairs first ns) 4 (length (terms numbered.Lots (length ns)) / 4) (terms numbered.Lots (length ns)) ≡ unnumbered (numbered_rows front first ns)) (sym is)
    (ap (λ count. value_rows (Text key ∷ pairs first ns) 4 count (terms numbered.Lots (length ns))) (key_terms 1 (length ns)) ∙ key_rows key (Text key ∷ pairs first ns) 1 first ns refl refl)
rows_are numbered.Seats _ first ns (key, is) = subst (λ front. value_rows (front ++ pairs first ns) 4 (length (terms numbered.Seats (length ns)) / 4) (terms numbered.Seats (length ns)) ≡ unnumbered (numbered_rows front first ns)) (sym is)
    (ap (λ count. value_rows (Text key ∷ pairs first ns) 4 count (terms numbered.Seats (length ns))) (key_terms 1 (length ns)) ∙ key_rows key (Text key ∷ pairs first ns) 1 first ns refl refl)
rows_are numbered.Past _ first ns (con, edition, is) = subst (λ front. value_rows (front ++ pairs first ns) 5 (length (terms numbered.Past (length ns)) / 5) (terms numbered.Past (length ns)) ≡ unnumbered (numbered_rows front first ns)) (sym is)
    (ap (λ count. value_rows (Text con ∷ Int (pos edition) ∷ pairs first ns) 5 count (terms numbered.Past (length ns))) (edition_terms 2 (length ns)) ∙ edition_rows con edition (Text con ∷ Int (pos edition) ∷ pairs first ns) 2 first ns refl refl refl)

-- a table keeps such cells as they are
casts_one : (t : NumberedTable) (front : Row) (first n : ℕ) → IsFront t front → cast_all (table_of (keyed_table t)).columns (front ++ Int (pos first) ∷ Int (pos n) ∷ []) ≡ front ++ Int (pos first) ∷ Int (pos n) ∷ []
casts_one numbered.Counts _ first n (key, is) = rw (is, cast_int (pos first), cast_int (pos n))
casts_one numbered.Lots _ first n (key, is) = rw (is, cast_int (pos first), cast_int (pos n))
casts_one numbered.Seats _ first n (key, is) = rw (is, cast_int (pos first), cast_int (pos n))
casts_one numbered.Past _ first n (con, edition, is) = rw (is, cast_int (pos edition), cast_int (pos first), cast_int (pos n))

casts_rows : (t : NumberedTable) (front : Row) (first : ℕ) (ns : List ℕ) → IsFront t front → AllByRecursion (λ r. cast_all (table_of (keyed_table t)).columns r ≡ r) (numbered_rows front first ns)
casts_rows t front first [] is = tt
casts_rows t front first (n ∷ ns) is = (casts_one t front first n is, casts_rows t front (first + 1) ns is)

-- ---- the values of a statement, filled in one after the other

pairs_then : (first : ℕ) (xs ys : List ℕ) → pairs first (xs ++ ys) ≡ pairs first xs ++ pairs (first + length xs) ys
pairs_then first [] ys = ap (λ n. pairs n ys) (omega arith)
pairs_then first (x ∷ xs) ys = ap (λ (l : Row). Int (pos first) ∷ Int (pos x) ∷ l) (pairs_then (first + 1) xs ys ∙ ap (λ n. pairs (first + 1) xs ++ pairs n ys) (omega arith))

pub filled_more : (front values : List ValueRef) (first : ℕ) (ns : List ℕ) (i n : ℕ) (a b : ValueRef) → i < length ns → n ≡ get_or ns i 0 → length front + 2 * i + 1 < length values → owned a ≡ Int (pos (first + i)) → owned b ≡ Int (pos n)
    → bound (take (length front + 2 * i) values) ≡ bound front ++ pairs first (take i ns)
    → bound (take (length front + 2 * (i + 1)) (set (set values (length front + 2 * i) a) (length front + 2 * i + 1) b)) ≡ bound front ++ pairs first (take (i + 1) ns)
filled_more front values first ns i n a b low own room item number was =
    let at : ℕ = length front + 2 * i in
    let half : List ValueRef = set values at a in
    let long : length half ≡ length values = length-set values at a in
    let one : take (at + 1) half ≡ take at values ++ a ∷ [] = take_more_set values at a (omega (arith, room)) in
    let two : take (at + 1 + 1) (set half (at + 1) b) ≡ take (at + 1) half ++ b ∷ [] = take_more_set half (at + 1) b (omega (arith, room, long)) in
    let end : length front + 2 * (i + 1) ≡ at + 1 + 1 = omega arith in
    let whole : take (length front + 2 * (i + 1)) (set half (at + 1) b) ≡ take at values ++ a ∷ b ∷ [] =
    ap (λ k. take k (set half (at + 1) b)) end ∙ two ∙ ap (λ (l : List ValueRef). l ++ b ∷ []) one ∙ append_assoc (take at values) (a ∷ []) (b ∷ []) in
    let last : bound (a ∷ b ∷ []) ≡ Int (pos (first + i)) ∷ Int (pos n) ∷ [] = (λ k. bound_value (item k) ∷ bound_value (number k) ∷ []) in
    let few : length (take i ns) ≡ i = omega (arith, low, length-take i ns) in
    let more : pairs first (take (i + 1) ns) ≡ pairs first (take i ns) ++ Int (pos (first + i)) ∷ Int (pos n) ∷ [] =
    ap (pairs first) (take_more ns i 0 low) ∙ pairs_then first (take i ns) (get_or ns i 0 ∷ []) ∙ (λ k. pairs first (take i ns) ++ Int (pos (first + few k)) ∷ Int (pos (sym own k)) ∷ []) in
    ap bound whole ∙ map-append (λ v. bound_value (owned v)) (take at values) (a ∷ b ∷ []) ∙ ap₂ ◌++◌ was last ∙ append_assoc (bound front) (pairs first (take i ns)) _ ∙ ap (λ (l : Row). bound front ++ l) (sym more)

-- ---- what a statement does

pub numbered_does : (t : NumberedTable) (front : Row) (first : ℕ) (ns sql : List ℕ) (params : Row) (old new : State) (r : Result Unit Error) → IsFront t front → 1 ≤ length ns → length ns ≤ 16
    → sql ≡ insert_rows_text t (length ns) → params ≡ front ++ pairs first ns → RunsWithValues sql params old new r → InsertsAll (keyed_table t) (numbered_rows front first ns) old new r
numbered_does t front first ns _ _ old new r is some few text values ran clean inside =
    on_ok r
    (λ it. inserts_all (keyed_table t) (insert_rows_text t (length ns)) (front ++ pairs first ns) (numbered_rows front first ns) (terms t (length ns)) (width t) (means_rows t (length ns) some few) (rows_are t front first ns is) (casts_rows t front first ns is) old new it.0 inside it.1)
    (rw (text, values) at (ran clean inside.inside))

-- ---- rows in several statements

pub rows_then : (t : KeyedTable) (xs ys : List Row) (old mid new : State) → HasRows t (xs ++ rows_in t old) old mid → HasRows t (ys ++ rows_in t mid) mid new → HasRows t ((xs ++ ys) ++ rows_in t old) old new
rows_then t xs ys old mid new was now =
    let turned : IsPermutation ((xs ++ ys) ++ rows_in t old) ((ys ++ xs) ++ rows_in t old) = IsPermutation-append_left (rows_in t old) _ _ (IsPermutation-append_comm xs ys) in
    let front : IsPermutation ((xs ++ ys) ++ rows_in t old) (ys ++ (xs ++ rows_in t old)) = subst (IsPermutation ((xs ++ ys) ++ rows_in t old)) (append_assoc ys xs (rows_in t old)) turned in
    record {
      inside = now.inside;
      rows = IsPermutation-trans _ _ _ front (IsPermutation-trans _ _ _ (IsPermutation-append_right ys _ _ was.rows) now.rows);
      others = λ u apart. now.others u apart ∙ was.others u apart;
      setup = now.setup ∙ was.setup;
    }

numbered_then : (front : Row) (first : ℕ) (xs ys : List ℕ) → numbered_rows front first (xs ++ ys) ≡ numbered_rows front first xs ++ numbered_rows front (first + length xs) ys
numbered_then front first [] ys = ap (λ n. numbered_rows front n ys) (omega arith)
numbered_then front first (x ∷ xs) ys = ap (λ l. (front ++ Int (pos first) ∷ Int (pos x) ∷ []) ∷ l) (numbered_then front (first + 1) xs ys ∙ ap (λ n. numbered_rows front (first + 1) xs ++ numbered_rows front n ys) (omega arith))

pub numbered_both : (t : KeyedTable) (front : Row) (first : ℕ) (ns xs ys : List ℕ) (old mid new : State) → ns ≡ xs ++ ys → HasRows t (numbered_rows front first xs ++ rows_in t old) old mid
    → HasRows t (numbered_rows front (first + length xs) ys ++ rows_in t mid) mid new → HasRows t (numbered_rows front first ns ++ rows_in t old) old new
numbered_both t front first ns xs ys old mid new is was now =
    subst (λ rows. HasRows t (rows ++ rows_in t old) old new) (sym (ap (numbered_rows front first) is ∙ numbered_then front first xs ys)) (rows_then t _ _ old mid new was now)
