-- Rows of whole tables that read as constituencies are their rows, and their rows read as them.
use Rattle.std.proofs.Common.{◌≡◌, ◌<◌, ◌≤◌, ◌+◌, ◌&&◌, ℕ, Bool, true, false, cond, Option, Some, None, List, [], ◌∷◌, ◌++◌, map, length, drop, take-append-drop, append_assoc, get_or, true≢false, Less, refl, sym, ap, ap₂, subst, ◌∙◌, arith}
use Rattle.std.specs.Prelude.{option_and_then, option_map, bytes_eq, ◌==◌}
use Rattle.std.specs.Option.{option_map_or}
use Rattle.std.specs.Ordering.{is_eq}
use Rattle.std.specs.List.{AllByRecursion, flat_map}
use Rattle.std.proofs.lemmas.Bool.{and_parts, eqb-true, false_from_ne_true}
use Rattle.std.proofs.lemmas.List.{take_at, drop_at, drop_more, drop_all}
use Rattle.std.proofs.lemmas.Slice.Eq.{bytes_eq-Decides}
use Rattle.sqlite_keyed.proofs.ListLemmas.{all-append, all_weaker}
use Rattle.sqlite_trees.specs.Tree.{IsAscending}
use Rattle.sqlite_value.specs.declared.value.Value.TheVariants.{Text}
use Rattle.sqlite_value.specs.Order.{Row, column}
use Rattle.tally_setup.specs.Code.{is_code}
use Rattle.tally_setup.specs.Constituency.{Constituency}
use Rattle.tally_setup.specs.Setup.{constituency_with}
use Rattle.tally_returns.specs.PastSeats.{PastSeats}
use Rattle.tally_returns.specs.View.{View}
use Rattle.tally_store_schema.specs.Values.{text_of}
use Rattle.tally_store_schema.specs.Rows.{text_cmp}
use Rattle.tally_store_schema.proofs.RowsLemmas.{text_same}
use Rattle.tally_store_rows.specs.Cells.{item_row, numbers_with_places, items_of, gone_row, past_row, record_rows}
use Rattle.tally_store_rows.specs.Reading.{has_text}
use Rattle.tally_store_rows.specs.Views.{Tables, in_each, is_empty, key_len, rows_of_key, rows_after, statuses_of, view_from_tables, con_at, view_with_code, next_view, views_from}
use Rattle.tally_store_rows.proofs.ItemLemmas.{and_then_some, map_some, same_text}
use Rattle.tally_store_rows.proofs.ConLemmas.{gone_entry, past_entry, sums_of_view, row_of_view, tables_of_view, view_is, view_again, IsReadableView}

-- ---- all constituencies

abbrev pub joined : Tables → Tables → Tables
joined a b = record { lots = a.lots ++ b.lots; seats = a.seats ++ b.seats; gone = a.gone ++ b.gone; totals = a.totals ++ b.totals; past = a.past ++ b.past }

abbrev pub all_rows : List (List ℕ × View) → List Row
all_rows vs = map (λ e. row_of_view e.0 e.1) vs

abbrev pub all_tables : List (List ℕ × View) → Tables
all_tables vs = record {
  lots = flat_map (λ e. (tables_of_view e.0 e.1).lots) vs;
  seats = flat_map (λ e. (tables_of_view e.0 e.1).seats) vs;
  gone = flat_map (λ e. (tables_of_view e.0 e.1).gone) vs;
  totals = flat_map (λ e. (tables_of_view e.0 e.1).totals) vs;
  past = flat_map (λ e. (tables_of_view e.0 e.1).past) vs;
}

-- ---- what was read

no_rows : (rows : List Row) → (length rows == 0) ≡ true → rows ≡ []
no_rows [] h = refl
no_rows (row ∷ rows) h = absurd (omega (arith, eqb-true (length (row ∷ rows)) 0 h))

empty_is : (t : Tables) → is_empty t ≡ true → t ≡ all_tables []
empty_is t h =
    let past = and_parts ((length t.lots == 0) && (length t.seats == 0) && (length t.gone == 0) && (length t.totals == 0)) (length t.past == 0) h in
    let totals = and_parts ((length t.lots == 0) && (length t.seats == 0) && (length t.gone == 0)) (length t.totals == 0) past.0 in
    let gone = and_parts ((length t.lots == 0) && (length t.seats == 0)) (length t.gone == 0) totals.0 in
    let seats = and_parts (length t.lots == 0) (length t.seats == 0) gone.0 in
    λ i. record { lots = no_rows t.lots seats.0 i; seats = no_rows t.seats seats.1 i; gone = no_rows t.gone gone.1 i; totals = no_rows t.totals totals.1 i; past = no_rows t.past past.1 i }

split_is : (key : List ℕ) (t : Tables) → t ≡ joined (in_each (rows_of_key key) t) (in_each (rows_after key) t)
split_is key t = λ i. record {
  lots = sym (take-append-drop (key_len key t.lots) t.lots) i;
  seats = sym (take-append-drop (key_len key t.seats) t.seats) i;
  gone = sym (take-append-drop (key_len key t.gone) t.gone) i;
  totals = sym (take-append-drop (key_len key t.totals) t.totals) i;
  past = sym (take-append-drop (key_len key t.past) t.past) i;
}

pub record AreRowsOfViews (rows : List Row) (tables : Tables) (vs : List (List ℕ × View)) : Type 0 where
  pub rows_are : rows ≡ all_rows vs
  pub tables_are : tables ≡ all_tables vs

pub views_are : (setup : List Constituency) (counted : Constituency → View) (rows : List Row) (tables : Tables) (vs : List (List ℕ × View)) → views_from setup counted rows tables ≡ Some vs → AreRowsOfViews rows tables vs
views_are setup counted [] tables vs h = none (is_empty tables) refl h
  where
    none : (b : Bool) → is_empty tables ≡ b → cond b (Some []) None ≡ Some vs → AreRowsOfViews [] tables vs
    none true is e = let same : ◌≡◌ {A = List (List ℕ × View)} [] vs = (let k = e in cc) in subst (AreRowsOfViews [] tables) same (record { rows_are = refl; tables_are = empty_is tables is })
    none false is e = absurd (let k = e in cc)
views_are setup counted (row ∷ rows) tables vs h =
    let con = and_then_some _ (con_at setup row) vs h in
    let code = con.0.code in
    let e = and_then_some _ (view_with_code (counted con.0) row (in_each (rows_of_key code) tables) con.0) vs con.2 in
    let rest = map_some _ (views_from setup counted rows (in_each (rows_after code) tables)) vs e.2 in
    let v = map_some _ (view_from_tables con.0 (statuses_of (counted con.0)) row (in_each (rows_of_key code) tables)) e.0 e.1 in
    let ensured = view_is con.0 (statuses_of (counted con.0)) row (in_each (rows_of_key code) tables) v.0 v.1 in
    let later = views_are setup counted rows (in_each (rows_after code) tables) rest.0 rest.1 in
    subst (AreRowsOfViews (row ∷ rows) tables) rest.2 (record {
      rows_are = ap₂ (λ r l. r ∷ l) (ensured.row_is ∙ ap (λ (x : List ℕ × View). row_of_view x.0 x.1) v.2) later.rows_are;
      tables_are = split_is code tables ∙ ap₂ joined (ensured.tables_are ∙ ap (λ (x : List ℕ × View). tables_of_view x.0 x.1) v.2) later.tables_are;
    })

-- ---- rows of a key in front of those of others

abbrev IsKeyed : List ℕ → Row → Type 0
IsKeyed key row = column row 0 ≡ Text key

abbrev IsOther : List ℕ → Row → Type 0
IsOther key row = has_text row 0 key ≡ false

keyed_map : {X : Type 0} (key : List ℕ) (f : X → Row) → ((x : X) → IsKeyed key (f x)) → (xs : List X) → AllByRecursion (IsKeyed key) (map f xs)
keyed_map key f each [] = tt
keyed_map key f each (x ∷ xs) = (each x, keyed_map key f each xs)

all_flat : {X : Type 0} (P : Row → Type 0) (f : X → List Row) (xs : List X) → AllByRecursion (λ x. AllByRecursion P (f x)) xs → AllByRecursion P (flat_map f xs)
all_flat P f [] h = tt
all_flat P f (x ∷ xs) h = all-append P (f x) (flat_map f xs) h.0 (all_flat P f xs h.1)

each_one : {X : Type 0} (P : X → Type 0) → ((x : X) → P x) → (xs : List X) → AllByRecursion P xs
each_one P all [] = tt
each_one P all (x ∷ xs) = (all x, each_one P all xs)

-- each row of a constituency has its code in front
pub record AreKeyed (P : Row → Type 0) (t : Tables) : Type 0 where
  pub lots : AllByRecursion P t.lots
  pub seats : AllByRecursion P t.seats
  pub gone : AllByRecursion P t.gone
  pub totals : AllByRecursion P t.totals
  pub past : AllByRecursion P t.past

tables_keyed : (key : List ℕ) (v : View) → AreKeyed (IsKeyed key) (tables_of_view key v)
tables_keyed key v = record {
  lots = keyed_map key (item_row key) (λ x. refl) (numbers_with_places 1 v.lot);
  seats = keyed_map key (item_row key) (λ x. refl) (numbers_with_places 1 v.seats);
  gone = keyed_map key (λ g. gone_row key (gone_entry g)) (λ x. refl) v.gone;
  totals = keyed_map key (item_row key) (λ x. refl) (items_of (sums_of_view v));
  past = all_flat (IsKeyed key) (λ p. record_rows key (past_entry p)) v.past (each_one _ (λ (p : PastSeats). keyed_map key (past_row key p.edition) (λ x. refl) (numbers_with_places 1 p.seats)) v.past);
}

pub never_below : (key : List ℕ) → text_cmp key key ≡ Less → ⊥
never_below key less = true≢false (sym (ap is_eq (sym less) ∙ text_same key))

is_other : (key other : List ℕ) → text_cmp key other ≡ Less → (row : Row) → IsKeyed other row → IsOther key row
is_other key other less row is =
    ap (λ v. option_map_or (λ found. bytes_eq found key) (text_of v) false) is
    ∙ false_from_ne_true (bytes_eq other key) (λ e. never_below key (subst (λ k. text_cmp key k ≡ Less) ((bytes_eq-Decides other key).0 e) less))

others_of : (key : List ℕ) (part : List ℕ × View → List Row) → ((e : List ℕ × View) → AllByRecursion (IsKeyed e.0) (part e)) → (vs : List (List ℕ × View)) → AllByRecursion (λ e. text_cmp key e.0 ≡ Less) vs → AllByRecursion (IsOther key) (flat_map part vs)
others_of key part keyed vs above =
    all_flat (IsOther key) part vs (all_weaker _ (λ e. AllByRecursion (IsOther key) (part e)) (λ e less. all_weaker _ (IsOther key) (is_other key e.0 less) (part e) (keyed e)) vs above)

tables_others : (key : List ℕ) (vs : List (List ℕ × View)) → AllByRecursion (λ e. text_cmp key e.0 ≡ Less) vs → AreKeyed (IsOther key) (all_tables vs)
tables_others key vs above = record {
  lots = others_of key (λ e. (tables_of_view e.0 e.1).lots) (λ e. (tables_keyed e.0 e.1).lots) vs above;
  seats = others_of key (λ e. (tables_of_view e.0 e.1).seats) (λ e. (tables_keyed e.0 e.1).seats) vs above;
  gone = others_of key (λ e. (tables_of_view e.0 e.1).gone) (λ e. (tables_keyed e.0 e.1).gone) vs above;
  totals = others_of key (λ e. (tables_of_view e.0 e.1).totals) (λ e. (tables_keyed e.0 e.1).totals) vs above;
  past = others_of key (λ e. (tables_of_view e.0 e.1).past) (λ e. (tables_keyed e.0 e.1).past) vs above;
}

key_len_is : (key : List ℕ) (xs ys : List Row) → AllByRecursion (IsKeyed key) xs → AllByRecursion (IsOther key) ys → key_len key (xs ++ ys) ≡ length xs
key_len_is key [] [] mine others = refl
key_len_is key [] (y ∷ ys) mine others = ap (λ b. cond b (1 + key_len key ys) 0) others.0
key_len_is key (x ∷ xs) ys mine others =
    let here : has_text x 0 key ≡ true = ap (λ v. option_map_or (λ found. bytes_eq found key) (text_of v) false) mine.0 ∙ same_text key in
    ap (λ b. cond b (1 + key_len key (xs ++ ys)) 0) here ∙ omega (arith, key_len_is key xs ys mine.1 others)

front_is : (key : List ℕ) (xs ys : List Row) → AllByRecursion (IsKeyed key) xs → AllByRecursion (IsOther key) ys → rows_of_key key (xs ++ ys) ≡ xs
front_is key xs ys mine others = take_at xs ys (key_len key (xs ++ ys)) (sym (key_len_is key xs ys mine others))

back_is : (key : List ℕ) (xs ys : List Row) → AllByRecursion (IsKeyed key) xs → AllByRecursion (IsOther key) ys → rows_after key (xs ++ ys) ≡ ys
back_is key xs ys mine others = drop_at xs ys (key_len key (xs ++ ys)) (sym (key_len_is key xs ys mine others))

fronts_are : (key : List ℕ) (a b : Tables) → AreKeyed (IsKeyed key) a → AreKeyed (IsOther key) b → in_each (rows_of_key key) (joined a b) ≡ a
fronts_are key a b mine others = λ i. record {
  lots = front_is key a.lots b.lots mine.lots others.lots i;
  seats = front_is key a.seats b.seats mine.seats others.seats i;
  gone = front_is key a.gone b.gone mine.gone others.gone i;
  totals = front_is key a.totals b.totals mine.totals others.totals i;
  past = front_is key a.past b.past mine.past others.past i;
}

backs_are : (key : List ℕ) (a b : Tables) → AreKeyed (IsKeyed key) a → AreKeyed (IsOther key) b → in_each (rows_after key) (joined a b) ≡ b
backs_are key a b mine others = λ i. record {
  lots = back_is key a.lots b.lots mine.lots others.lots i;
  seats = back_is key a.seats b.seats mine.seats others.seats i;
  gone = back_is key a.gone b.gone mine.gone others.gone i;
  totals = back_is key a.totals b.totals mine.totals others.totals i;
  past = back_is key a.past b.past mine.past others.past i;
}

-- ---- rows that are read again

-- a constituency of the setup that can be read again
pub record IsReadableFound (setup : List Constituency) (counted : Constituency → View) (e : List ℕ × View) : Type 0 where
  pub con : Constituency
  pub found : constituency_with e.0 setup ≡ Some con
  pub same : con.code ≡ e.0
  pub code : is_code e.0 ≡ true
  pub some_list : 1 ≤ length con.lists
  pub fine : IsReadableView (length con.lists) e.1
  pub statuses : statuses_of (counted con) ≡ statuses_of e.1

next_again : (others : Tables → Option (List (List ℕ × View))) (setup : List Constituency) (counted : Constituency → View) (e : List ℕ × View) (vs : List (List ℕ × View)) (h : IsReadableFound setup counted e)
    → AllByRecursion (λ x. text_cmp e.0 x.0 ≡ Less) vs → others (all_tables vs) ≡ Some vs
    → next_view others (counted h.con) (row_of_view e.0 e.1) (joined (tables_of_view e.0 e.1) (all_tables vs)) h.con ≡ Some (e ∷ vs)
next_again others setup counted e vs h above is =
    let tables = joined (tables_of_view e.0 e.1) (all_tables vs) in
    let row = row_of_view e.0 e.1 in
    let mine = tables_keyed e.0 e.1 in
    let apart = tables_others e.0 vs above in
    let front : in_each (rows_of_key h.con.code) tables ≡ tables_of_view h.con.code e.1 =
    ap (λ k. in_each (rows_of_key k) tables) h.same ∙ fronts_are e.0 (tables_of_view e.0 e.1) (all_tables vs) mine apart ∙ ap (λ k. tables_of_view k e.1) (sym h.same) in
    let back : in_each (rows_after h.con.code) tables ≡ all_tables vs =
    ap (λ k. in_each (rows_after k) tables) h.same ∙ backs_are e.0 (tables_of_view e.0 e.1) (all_tables vs) mine apart in
    let one : view_with_code (counted h.con) row (in_each (rows_of_key h.con.code) tables) h.con ≡ Some e =
    ap (option_map (λ view. (h.con.code, view)))
    (ap (λ t. view_from_tables h.con (statuses_of (counted h.con)) row t) front ∙ ap (λ s. view_from_tables h.con s row (tables_of_view h.con.code e.1)) h.statuses
    ∙ ap (λ k. view_from_tables h.con (statuses_of e.1) (row_of_view k e.1) (tables_of_view h.con.code e.1)) (sym h.same) ∙ view_again h.con e.1 h.some_list h.fine)
    ∙ ap (λ k. Some (k, e.1)) h.same in
    ap (option_and_then (λ x. option_map (λ l. x ∷ l) (others (in_each (rows_after h.con.code) tables)))) one
    ∙ ap (option_map (λ l. e ∷ l)) (ap others back ∙ is)

pub views_again : (setup : List Constituency) (counted : Constituency → View) (vs : List (List ℕ × View)) → AllByRecursion (IsReadableFound setup counted) vs → IsAscending (λ a b. text_cmp a.0 b.0 ≡ Less) vs
    → views_from setup counted (all_rows vs) (all_tables vs) ≡ Some vs
views_again setup counted [] fine up = refl
views_again setup counted (e ∷ vs) fine up =
    let tables = joined (tables_of_view e.0 e.1) (all_tables vs) in
    let others = views_from setup counted (all_rows vs) in
    let con : con_at setup (row_of_view e.0 e.1) ≡ Some fine.0.con = ap (λ b. option_and_then (λ code. constituency_with code setup) (cond b (Some e.0) None)) fine.0.code ∙ fine.0.found in
    ap (option_and_then (λ con. next_view others (counted con) (row_of_view e.0 e.1) tables con)) con
    ∙ next_again others setup counted e vs fine.0 up.0 (views_again setup counted vs fine.1 up.1)

-- ---- the loop

-- what the constituencies so far and the other rows come to
abbrev pub Reading : List Constituency → (Constituency → View) → List (List ℕ × View) → List Row → Tables → Option (List (List ℕ × View))
Reading setup counted so_far rows tables = option_map (λ es. so_far ++ es) (views_from setup counted rows tables)

-- the row at a place of the loop, by the constituency that it names
at_row : (setup : List Constituency) (counted : Constituency → View) (so_far : List (List ℕ × View)) (rows : List Row) (tables : Tables) (i : ℕ) (row : Row) (o : Option Constituency) → i < length rows → row ≡ get_or rows i row → o ≡ con_at setup row
    → Reading setup counted so_far (drop i rows) tables ≡ option_map (λ es. so_far ++ es) (option_and_then (λ con. next_view (views_from setup counted (drop (i + 1) rows)) (counted con) row tables con) o)
at_row setup counted so_far rows tables i row o low at is =
    ap (λ l. Reading setup counted so_far l tables) (drop_more rows i row low ∙ ap (λ r. r ∷ drop (i + 1) rows) (sym at))
    ∙ ap (λ p. option_map (λ es. so_far ++ es) (option_and_then (λ con. next_view (views_from setup counted (drop (i + 1) rows)) (counted con) row tables con) p)) (sym is)

pub no_con : (setup : List Constituency) (counted : Constituency → View) (so_far : List (List ℕ × View)) (rows : List Row) (tables : Tables) (i : ℕ) (row : Row) → i < length rows → row ≡ get_or rows i row → None ≡ con_at setup row
    → Reading setup counted so_far (drop i rows) tables ≡ None
no_con setup counted so_far rows tables i row low at is = at_row setup counted so_far rows tables i row None low at is

-- with a constituency
with_found : (setup : List Constituency) (counted : Constituency → View) (so_far : List (List ℕ × View)) (rows : List Row) (tables : Tables) (i : ℕ) (row : Row) (con : Constituency) (o : Option (List ℕ × View)) → i < length rows → row ≡ get_or rows i row
    → Some con ≡ con_at setup row → o ≡ view_with_code (counted con) row (in_each (rows_of_key con.code) tables) con
    → Reading setup counted so_far (drop i rows) tables ≡ option_map (λ es. so_far ++ es) (option_and_then (λ e. option_map (λ es. e ∷ es) (views_from setup counted (drop (i + 1) rows) (in_each (rows_after con.code) tables))) o)
with_found setup counted so_far rows tables i row con o low at is e =
    at_row setup counted so_far rows tables i row (Some con) low at is
    ∙ ap (λ p. option_map (λ es. so_far ++ es) (option_and_then (λ e. option_map (λ es. e ∷ es) (views_from setup counted (drop (i + 1) rows) (in_each (rows_after con.code) tables))) p)) (sym e)

pub not_found : (setup : List Constituency) (counted : Constituency → View) (so_far : List (List ℕ × View)) (rows : List Row) (tables : Tables) (i : ℕ) (row : Row) (con : Constituency) → i < length rows → row ≡ get_or rows i row
    → Some con ≡ con_at setup row → None ≡ view_with_code (counted con) row (in_each (rows_of_key con.code) tables) con → Reading setup counted so_far (drop i rows) tables ≡ None
not_found setup counted so_far rows tables i row con low at is e = with_found setup counted so_far rows tables i row con None low at is e

pub one_found : (setup : List Constituency) (counted : Constituency → View) (so_far : List (List ℕ × View)) (rows : List Row) (tables : Tables) (i : ℕ) (row : Row) (con : Constituency) (e : List ℕ × View) → i < length rows → row ≡ get_or rows i row
    → Some con ≡ con_at setup row → Some e ≡ view_with_code (counted con) row (in_each (rows_of_key con.code) tables) con
    → Reading setup counted so_far (drop i rows) tables ≡ Reading setup counted (so_far ++ e ∷ []) (drop (i + 1) rows) (in_each (rows_after con.code) tables)
one_found setup counted so_far rows tables i row con e low at is found =
    with_found setup counted so_far rows tables i row con (Some e) low at is found ∙ moved (views_from setup counted (drop (i + 1) rows) (in_each (rows_after con.code) tables))
  where
    moved : (o : Option (List (List ℕ × View))) → option_map (λ es. so_far ++ es) (option_map (λ es. e ∷ es) o) ≡ option_map (λ es. (so_far ++ e ∷ []) ++ es) o
    moved None = refl
    moved (Some es) = ap Some (sym (append_assoc so_far (e ∷ []) es))

pub rows_left : (setup : List Constituency) (counted : Constituency → View) (so_far : List (List ℕ × View)) (rows : List Row) (tables : Tables) (i : ℕ) → length rows ≤ i → is_empty tables ≡ false → Reading setup counted so_far (drop i rows) tables ≡ None
rows_left setup counted so_far rows tables i past some =
    ap (λ l. Reading setup counted so_far l tables) (drop_all i rows past) ∙ ap (λ b. option_map (λ es. so_far ++ es) (cond b (Some []) None)) some
