-- Rows that read as what is seen of a constituency are its rows, and its rows read as it.
use Rattle.std.proofs.Common.{◌≡◌, ◌<◌, ◌≤◌, ◌^◌, ◌+◌, ℕ, zero, suc, pos, Bool, true, false, cond, Option, Some, None, List, [], ◌∷◌, ◌++◌, map, length, take, drop, take-append-drop, length-append, refl, sym, ap, ap₂, subst, ◌∙◌, arith}
use Rattle.std.specs.Prelude.{option_and_then, option_map, slice_index_or, nat_le, ◌==◌}
use Rattle.std.specs.List.{AllByRecursion, flat_map}
use Rattle.std.specs.Str.{is_utf8}
use Rattle.std.proofs.lemmas.Bool.{eqb-true, eq-eqb, le-leb}
use Rattle.std.proofs.lemmas.List.{take_at, drop_at, length-map}
use Rattle.sqlite_value.specs.declared.value.Value.{Value}
use Rattle.sqlite_value.specs.declared.value.Value.TheVariants.{Int, Text}
use Rattle.sqlite_value.specs.Order.{Row, column}
use Rattle.tally_setup.specs.Constituency.{Constituency}
use Rattle.tally_returns.specs.Counts.{VoteCounts}
use Rattle.tally_returns.specs.GoneCandidate.{GoneCandidate}
use Rattle.tally_returns.specs.PastSeats.{PastSeats}
use Rattle.tally_returns.specs.View.{View}
use Rattle.tally_store_schema.specs.Values.{text_of, number_of, wide_number_of}
use Rattle.tally_store_schema.specs.Cells.{flag}
use Rattle.tally_store_rows.specs.Cells.{item_row, numbers_with_places, items_of, gone_row, past_row, record_rows}
use Rattle.tally_store_rows.specs.Reading.{utf8_of, numbers_from, sums_of, flag_of, note_in, standing_of, gone_in_row, all_gone_of, past_for, past_from, record_of, records_of, past_of, read_all}
use Rattle.tally_store_rows.specs.Views.{Tables, statuses_of, view_from_tables}
use Rattle.tally_store_rows.specs.declared.views.Statuses.{Statuses}
use Rattle.tally_store_rows.proofs.ItemLemmas.{and_then_some, map_some, if_some, text_is, number_is, wide_number_is, number_reads, with_text_is, with_text_there, IsRead, number_rows, items_are, items_again}
use Rattle.tally_store_rows.proofs.EntryLemmas.{utf8_is, counts_are, counts_again, AreRead, length_numbered}

-- ---- rows of four columns

four : (row : Row) → length row ≡ 4 → row ≡ column row 0 ∷ column row 1 ∷ column row 2 ∷ column row 3 ∷ []
four [] h = absurd (omega arith)
four (a ∷ []) h = absurd (omega arith)
four (a ∷ b ∷ []) h = absurd (omega arith)
four (a ∷ b ∷ c ∷ []) h = absurd (omega arith)
four (a ∷ b ∷ c ∷ d ∷ []) h = refl
four (a ∷ b ∷ c ∷ d ∷ e ∷ row) h = absurd (omega arith)

of_four : (row : Row) (a b c d : Value) → (length row == 4) ≡ true → column row 0 ≡ a → column row 1 ≡ b → column row 2 ≡ c → column row 3 ≡ d → row ≡ a ∷ b ∷ c ∷ d ∷ []
of_four row a b c d len p q r s = four row (eqb-true (length row) 4 len) ∙ (λ i. p i ∷ q i ∷ r i ∷ s i ∷ [])

note_is : (row : Row) (place : ℕ) (note : List ℕ) → note_in row place ≡ Some note → column row place ≡ Text note
note_is row place note h = let text = and_then_some utf8_of (text_of (column row place)) note h in text_is _ _ text.1 ∙ ap Text (utf8_is _ _ text.2)

note_again : (note : List ℕ) → is_utf8 note ≡ true → option_and_then utf8_of (text_of (Text note)) ≡ Some note
note_again note is = ap (λ b. cond b (Some note) None) is

-- ---- the row of `cons`

flag_is : (n : ℕ) (certified : Bool) → flag_of n ≡ Some certified → n ≡ flag certified
flag_is n certified h = go (n == 0) (n == 1) refl refl h
  where
    go : (a b : Bool) → (n == 0) ≡ a → (n == 1) ≡ b → cond a (Some false) (cond b (Some true) None) ≡ Some certified → n ≡ flag certified
    go true b none one e = eqb-true n 0 none ∙ ap flag (let s : false ≡ certified = (let k = e in cc) in s)
    go false true none one e = eqb-true n 1 one ∙ ap flag (let s : true ≡ certified = (let k = e in cc) in s)
    go false false none one e = absurd (let k = e in cc)

flag_again : (certified : Bool) → option_and_then flag_of (number_of (Int (pos (flag certified)))) ≡ Some certified
flag_again true = refl
flag_again false = refl

abbrev pub standing_row : List ℕ → ℕ × Bool × List ℕ → Row
standing_row con s = Text con ∷ Int (pos s.0) ∷ Int (pos (flag s.1)) ∷ Text s.2 ∷ []

pub standing_is : (con : List ℕ) (row : Row) (s : ℕ × Bool × List ℕ) → standing_of con row ≡ Some s → row ≡ standing_row con s
standing_is con row s h =
    let whole = if_some (length row == 4) _ s h in
    let key = with_text_is row 0 con _ s whole.1 in
    let edition = and_then_some _ (number_of (column row 1)) s key.1 in
    let certified = and_then_some _ (option_and_then flag_of (number_of (column row 2))) s edition.2 in
    let note = map_some _ (note_in row 3) s certified.2 in
    let number = and_then_some flag_of (number_of (column row 2)) certified.0 certified.1 in
    of_four row _ _ _ _ whole.0 key.0 (number_is _ _ edition.1) (number_is _ _ number.1 ∙ ap (λ n. Int (pos n)) (flag_is _ _ number.2)) (note_is row 3 note.0 note.1)
    ∙ ap (standing_row con) note.2

pub standing_again : (con : List ℕ) (s : ℕ × Bool × List ℕ) → s.0 < 2 ^ 32 → is_utf8 s.2 ≡ true → standing_of con (standing_row con s) ≡ Some s
standing_again con s small text =
    let row = standing_row con s in
    let rest : Option (ℕ × Bool × List ℕ) = option_and_then (λ edition. option_and_then (λ certified. option_map (λ note. (edition, certified, note)) (note_in row 3)) (option_and_then flag_of (number_of (column row 2)))) (number_of (column row 1)) in
    with_text_there row 0 con rest refl
    ∙ ap (option_and_then (λ edition. option_and_then (λ certified. option_map (λ note. (edition, certified, note)) (note_in row 3)) (option_and_then flag_of (number_of (column row 2))))) (number_reads s.0 small)
    ∙ ap (option_and_then (λ certified. option_map (λ note. (s.0, certified, note)) (note_in row 3))) (flag_again s.1)
    ∙ ap (option_map (λ note. (s.0, s.1, note))) (note_again s.2 text)

-- ---- candidates who are gone

abbrev pub gone_entry : GoneCandidate → List ℕ × List ℕ
gone_entry g = (g.list ∷ g.place ∷ [], g.note)

abbrev pub all_gone_rows : List ℕ → List GoneCandidate → List Row
all_gone_rows con gone = map (λ g. gone_row con (gone_entry g)) gone

gone_is : (con : List ℕ) (row : Row) (g : GoneCandidate) → gone_in_row con row ≡ Some g → row ≡ gone_row con (gone_entry g)
gone_is con row g h =
    let whole = if_some (length row == 4) _ g h in
    let key = with_text_is row 0 con _ g whole.1 in
    let list = and_then_some _ (number_of (column row 1)) g key.1 in
    let place = and_then_some _ (number_of (column row 2)) g list.2 in
    let note = map_some _ (note_in row 3) g place.2 in
    of_four row _ _ _ _ whole.0 key.0 (number_is _ _ list.1) (number_is _ _ place.1) (note_is row 3 note.0 note.1)
    ∙ ap (λ x. gone_row con (gone_entry x)) note.2

-- one who is gone can be read again
pub record IsReadableGone (g : GoneCandidate) : Type 0 where
  pub list : g.list < 2 ^ 32
  pub place : g.place < 2 ^ 32
  pub note : is_utf8 g.note ≡ true

gone_again : (con : List ℕ) (g : GoneCandidate) → IsReadableGone g → gone_in_row con (gone_row con (gone_entry g)) ≡ Some g
gone_again con g fine =
    let row = gone_row con (gone_entry g) in
    let made : ℕ → ℕ → List ℕ → GoneCandidate = λ list place note. record { list = list; place = place; note = note } in
    let rest : Option GoneCandidate = option_and_then (λ list. option_and_then (λ place. option_map (made list place) (note_in row 3)) (number_of (column row 2))) (number_of (column row 1)) in
    with_text_there row 0 con rest refl
    ∙ ap (option_and_then (λ list. option_and_then (λ place. option_map (made list place) (note_in row 3)) (number_of (column row 2)))) (number_reads g.list fine.list)
    ∙ ap (option_and_then (λ place. option_map (made g.list place) (note_in row 3))) (number_reads g.place fine.place)
    ∙ ap (option_map (made g.list g.place)) (note_again g.note fine.note)

-- ---- rows that are read one by one

-- the rows of these, by their places from this one on
abbrev pub rows_from : {X : Type 0} → (ℕ → X → Row) → ℕ → List X → List Row
rows_from row_of first [] = []
rows_from row_of first (x ∷ xs) = row_of first x ∷ rows_from row_of (first + 1) xs

module _ {X : Type 0} (read : ℕ → Row → Option X) (row_of : ℕ → X → Row) where
  all_are : ((i : ℕ) (row : Row) (x : X) → read i row ≡ Some x → row ≡ row_of i x) → (first : ℕ) (rows : List Row) (xs : List X) → read_all read first rows ≡ Some xs → rows ≡ rows_from row_of first xs
  all_are each first [] xs h = let e : ◌≡◌ {A = List X} [] xs = (let k = h in cc) in subst (λ l. [] ≡ rows_from row_of first l) e refl
  all_are each first (row ∷ rows) xs h =
      let one = and_then_some _ (read first row) xs h in
      let rest = map_some _ (read_all read (first + 1) rows) xs one.2 in
      subst (λ l. row ∷ rows ≡ rows_from row_of first l) rest.2 (ap₂ (λ r l. r ∷ l) (each first row one.0 one.1) (all_are each (first + 1) rows rest.0 rest.1))

  all_again : (Fine : X → Type 0) → ((i : ℕ) (x : X) → Fine x → read i (row_of i x) ≡ Some x) → (first : ℕ) (xs : List X) → AllByRecursion Fine xs → read_all read first (rows_from row_of first xs) ≡ Some xs
  all_again Fine each first [] fine = refl
  all_again Fine each first (x ∷ xs) fine =
      ap (option_and_then (λ y. option_map (λ l. y ∷ l) (read_all read (first + 1) (rows_from row_of (first + 1) xs)))) (each first x fine.0)
      ∙ ap (option_map (λ l. x ∷ l)) (all_again Fine each (first + 1) xs fine.1)

gone_rows_are : (con : List ℕ) (first : ℕ) (gone : List GoneCandidate) → rows_from (λ i g. gone_row con (gone_entry g)) first gone ≡ all_gone_rows con gone
gone_rows_are con first [] = refl
gone_rows_are con first (g ∷ gone) = ap (λ l. gone_row con (gone_entry g) ∷ l) (gone_rows_are con (first + 1) gone)

pub all_gone_are : (con : List ℕ) (rows : List Row) (gone : List GoneCandidate) → all_gone_of con rows ≡ Some gone → rows ≡ all_gone_rows con gone
all_gone_are con rows gone h = all_are (λ i row. gone_in_row con row) (λ i g. gone_row con (gone_entry g)) (λ i row g is. gone_is con row g is) 1 rows gone h ∙ gone_rows_are con 1 gone

pub all_gone_again : (con : List ℕ) (gone : List GoneCandidate) → AllByRecursion IsReadableGone gone → all_gone_of con (all_gone_rows con gone) ≡ Some gone
all_gone_again con gone fine =
    ap (all_gone_of con) (sym (gone_rows_are con 1 gone)) ∙ all_again (λ i row. gone_in_row con row) (λ i g. gone_row con (gone_entry g)) IsReadableGone (λ i g is. gone_again con g is) 1 gone fine

-- ---- certificates that were reopened

past_is : (con : List ℕ) (edition place n : ℕ) (row : Row) → past_for con edition place row ≡ Some n → row ≡ past_row con edition (place, n)
past_is con edition place n row h =
    let whole = if_some (length row == 4) _ n h in
    let key = with_text_is row 0 con _ n whole.1 in
    let first = and_then_some _ (number_of (column row 1)) n key.1 in
    let same = if_some (first.0 == edition) _ n first.2 in
    let second = and_then_some _ (wide_number_of (column row 2)) n same.1 in
    let at = if_some (second.0 == place) _ n second.2 in
    of_four row _ _ _ _ whole.0 key.0
    (number_is _ _ first.1 ∙ ap (λ x. Int (pos x)) (eqb-true first.0 edition same.0))
    (wide_number_is _ _ second.1 ∙ ap (λ x. Int (pos x)) (eqb-true second.0 place at.0))
    (number_is _ _ at.1)

past_again : (con : List ℕ) (edition place n : ℕ) → edition < 2 ^ 32 → IsRead number_of n → past_for con edition place (past_row con edition (place, n)) ≡ Some n
past_again con edition place n small is =
    let row = past_row con edition (place, n) in
    let rest : Option ℕ = option_and_then (λ e. cond (e == edition) (option_and_then (λ l. cond (l == place) (number_of (column row 3)) None) (wide_number_of (column row 2))) None) (number_of (column row 1)) in
    with_text_there row 0 con rest refl
    ∙ ap (option_and_then (λ e. cond (e == edition) (option_and_then (λ l. cond (l == place) (number_of (column row 3)) None) (wide_number_of (column row 2))) None)) (number_reads edition small)
    ∙ ap (λ b. cond b (option_and_then (λ l. cond (l == place) (number_of (column row 3)) None) (wide_number_of (column row 2))) None) (eq-eqb edition edition refl)
    ∙ ap (λ b. cond b (number_of (column row 3)) None) (eq-eqb place place refl) ∙ is

abbrev pub past_entry : PastSeats → ℕ × List ℕ
past_entry p = (p.edition, p.seats)

seats_rows_are : (con : List ℕ) (edition first : ℕ) (seats : List ℕ) → rows_from (λ place n. past_row con edition (place, n)) first seats ≡ map (past_row con edition) (numbers_with_places first seats)
seats_rows_are con edition first [] = refl
seats_rows_are con edition first (n ∷ seats) = ap (λ l. past_row con edition (first, n) ∷ l) (seats_rows_are con edition (first + 1) seats)

record_is : (con : List ℕ) (rows : List Row) (p : PastSeats) → record_of con rows ≡ Some p → rows ≡ record_rows con (past_entry p)
record_is con rows p h =
    let edition = and_then_some _ (number_of (column (slice_index_or rows 0 []) 1)) p h in
    let seats = map_some _ (past_from con edition.0 1 rows) p edition.2 in
    all_are (λ place row. past_for con edition.0 place row) (λ place n. past_row con edition.0 (place, n)) (λ place row n is. past_is con edition.0 place n row is) 1 rows seats.0 seats.1
    ∙ seats_rows_are con edition.0 1 seats.0 ∙ ap (λ x. record_rows con (past_entry x)) seats.2

-- a certificate can be read again
pub record IsReadablePast (lists : ℕ) (p : PastSeats) : Type 0 where
  pub edition : p.edition < 2 ^ 32
  pub seats : AllByRecursion (IsRead number_of) p.seats
  pub long : length p.seats ≡ lists

record_again : (con : List ℕ) (lists : ℕ) (p : PastSeats) → 1 ≤ lists → IsReadablePast lists p → record_of con (record_rows con (past_entry p)) ≡ Some p
record_again con lists p some fine =
    let rows = record_rows con (past_entry p) in
    let made : ℕ → List ℕ → PastSeats = λ edition seats. record { edition = edition; seats = seats } in
    let all : past_from con p.edition 1 rows ≡ Some p.seats =
    ap (past_from con p.edition 1) (sym (seats_rows_are con p.edition 1 p.seats))
    ∙ all_again (λ place row. past_for con p.edition place row) (λ place n. past_row con p.edition (place, n)) (IsRead number_of) (λ place n is. past_again con p.edition place n fine.edition is) 1 p.seats fine.seats in
    ap (option_and_then (λ edition. option_map (made edition) (past_from con edition 1 rows))) (first p.seats (omega (arith, some, fine.long)))
    ∙ ap (option_map (made p.edition)) all
  where
    first : (seats : List ℕ) → 1 ≤ length seats → number_of (column (slice_index_or (map (past_row con p.edition) (numbers_with_places 1 seats)) 0 []) 1) ≡ Some p.edition
    first [] none = absurd (omega (arith, none))
    first (n ∷ seats) some = number_reads p.edition fine.edition

abbrev pub all_past_rows : List ℕ → List PastSeats → List Row
all_past_rows con past = flat_map (λ p. record_rows con (past_entry p)) past

pub past_are : (con : List ℕ) (lists most : ℕ) (rows : List Row) (past : List PastSeats) → records_of con lists most rows ≡ Some past → rows ≡ all_past_rows con past
past_are con lists most [] past h = let e : ◌≡◌ {A = List PastSeats} [] past = (let k = h in cc) in subst (λ l. [] ≡ all_past_rows con l) e refl
past_are con lists zero (row ∷ rows) past h = absurd (let e = h in cc)
past_are con lists (suc most) (row ∷ rows) past h =
    let all : List Row = row ∷ rows in
    let whole = if_some (nat_le lists (length all)) _ past h in
    let one = and_then_some _ (record_of con (take lists all)) past whole.1 in
    let rest = map_some _ (records_of con lists most (drop lists all)) past one.2 in
    subst (λ l. all ≡ all_past_rows con l) rest.2
    (sym (take-append-drop lists all) ∙ ap₂ ◌++◌ (record_is con (take lists all) one.0 one.1) (past_are con lists most (drop lists all) rest.0 rest.1))

length_record : (con : List ℕ) (p : PastSeats) → length (record_rows con (past_entry p)) ≡ length p.seats
length_record con p = length-map (numbers_with_places 1 p.seats) (past_row con p.edition) ∙ length_numbered 1 p.seats

pub past_again_all : (con : List ℕ) (lists most : ℕ) (past : List PastSeats) → 1 ≤ lists → length past ≤ most → AllByRecursion (IsReadablePast lists) past → records_of con lists most (all_past_rows con past) ≡ Some past
past_again_all con lists most [] some enough fine = refl
past_again_all con lists zero (p ∷ past) some enough fine = absurd (omega (arith, enough))
past_again_all con lists (suc most) (p ∷ past) some enough fine =
    let mine = record_rows con (past_entry p) in
    let rest = all_past_rows con past in
    let mine_long : length mine ≡ lists = length_record con p ∙ fine.0.long in
    opened con lists most (mine ++ rest) (omega (arith, some, mine_long, length-append mine rest))
    ∙ ap (λ b. cond b (option_and_then (λ r. option_map (λ rs. r ∷ rs) (records_of con lists most (drop lists (mine ++ rest)))) (record_of con (take lists (mine ++ rest)))) None) (le-leb lists (length (mine ++ rest)) (omega (arith, mine_long, length-append mine rest)))
    ∙ ap (option_and_then (λ r. option_map (λ rs. r ∷ rs) (records_of con lists most (drop lists (mine ++ rest))))) (ap (record_of con) (take_at mine rest lists mine_long) ∙ record_again con lists p some fine.0)
    ∙ ap (option_map (λ rs. p ∷ rs)) (ap (records_of con lists most) (drop_at mine rest lists mine_long) ∙ past_again_all con lists most past some (omega (arith, enough)) fine.1)
  where
    opened : (con : List ℕ) (lists most : ℕ) (rows : List Row) → 1 ≤ length rows
        → records_of con lists (suc most) rows ≡ cond (nat_le lists (length rows)) (option_and_then (λ r. option_map (λ rs. r ∷ rs) (records_of con lists most (drop lists rows))) (record_of con (take lists rows))) None
    opened con lists most [] none = absurd (omega (arith, none))
    opened con lists most (row ∷ rows) some = refl

many_past : (con : List ℕ) (lists : ℕ) (past : List PastSeats) → 1 ≤ lists → AllByRecursion (IsReadablePast lists) past → length past ≤ length (all_past_rows con past)
many_past con lists [] some fine = omega arith
many_past con lists (p ∷ past) some fine =
    omega (arith, some, length_record con p, fine.0.long, many_past con lists past some fine.1, length-append (record_rows con (past_entry p)) (all_past_rows con past))

pub all_past_again : (con : List ℕ) (lists : ℕ) (past : List PastSeats) → 1 ≤ lists → AllByRecursion (IsReadablePast lists) past → past_of con lists (all_past_rows con past) ≡ Some past
all_past_again con lists past some fine = past_again_all con lists (length (all_past_rows con past)) past some (many_past con lists past some fine) fine

-- ---- a constituency

abbrev pub sums_of_view : View → VoteCounts
sums_of_view v = record { votes = v.votes; blank = v.blank; spoiled = v.spoiled }

abbrev pub row_of_view : List ℕ → View → Row
row_of_view con v = standing_row con (v.edition, v.certified, v.note)

abbrev pub tables_of_view : List ℕ → View → Tables
tables_of_view con v = record {
  lots = number_rows con 1 v.lot;
  seats = number_rows con 1 v.seats;
  gone = all_gone_rows con v.gone;
  totals = map (item_row con) (items_of (sums_of_view v));
  past = all_past_rows con v.past;
}

pub record AreRowsOfView (con : List ℕ) (statuses : Statuses) (row : Row) (tables : Tables) (v : View) : Type 0 where
  pub row_is : row ≡ row_of_view con v
  pub tables_are : tables ≡ tables_of_view con v
  pub statuses_are : statuses ≡ statuses_of v

pub view_is : (con : Constituency) (statuses : Statuses) (row : Row) (tables : Tables) (v : View) → view_from_tables con statuses row tables ≡ Some v → AreRowsOfView con.code statuses row tables v
view_is con statuses row tables v h =
    let standing = and_then_some _ (standing_of con.code row) v h in
    let lot = and_then_some _ (numbers_from con.code 1 tables.lots) v standing.2 in
    let seats = and_then_some _ (numbers_from con.code 1 tables.seats) v lot.2 in
    let gone = and_then_some _ (all_gone_of con.code tables.gone) v seats.2 in
    let sums = and_then_some _ (sums_of con.code tables.totals) v gone.2 in
    let past = map_some _ (past_of con.code (length con.lists) tables.past) v sums.2 in
    subst (AreRowsOfView con.code statuses row tables) past.2 (record {
      row_is = standing_is con.code row standing.0 standing.1;
      tables_are = λ i. record {
        lots = items_are number_of number_is con.code 1 tables.lots lot.0 lot.1 i;
        seats = items_are number_of number_is con.code 1 tables.seats seats.0 seats.1 i;
        gone = all_gone_are con.code tables.gone gone.0 gone.1 i;
        totals = counts_are wide_number_of wide_number_is con.code tables.totals sums.0 sums.1 i;
        past = past_are con.code (length con.lists) (length tables.past) tables.past past.0 past.1 i;
      };
      statuses_are = refl;
    })

-- what is seen can be read again
pub record IsReadableView (lists : ℕ) (v : View) : Type 0 where
  pub edition : v.edition < 2 ^ 32
  pub note : is_utf8 v.note ≡ true
  pub lot : AllByRecursion (IsRead number_of) v.lot
  pub seats : AllByRecursion (IsRead number_of) v.seats
  pub gone : AllByRecursion IsReadableGone v.gone
  pub past : AllByRecursion (IsReadablePast lists) v.past

wide_again : (c : VoteCounts) → AreRead wide_number_of c
wide_again c = record { votes = all c.votes; blank = refl; spoiled = refl }
  where
    all : (ns : List ℕ) → AllByRecursion (IsRead wide_number_of) ns
    all [] = tt
    all (n ∷ ns) = (refl, all ns)

pub view_again : (con : Constituency) (v : View) → 1 ≤ length con.lists → IsReadableView (length con.lists) v → view_from_tables con (statuses_of v) (row_of_view con.code v) (tables_of_view con.code v) ≡ Some v
view_again con v some fine =
    let t = tables_of_view con.code v in
    let made : ℕ × Bool × List ℕ → List ℕ → List ℕ → List GoneCandidate → VoteCounts → List PastSeats → View = λ s lot seats gone sums past. record {
      edition = s.0;
      certified = s.1;
      note = s.2;
      lot = lot;
      stations = v.stations;
      received = v.received;
      queried = v.queried;
      corrected = v.corrected;
      closed = v.closed;
      votes = sums.votes;
      blank = sums.blank;
      spoiled = sums.spoiled;
      seats = seats;
      gone = gone;
      past = past;
    } in
    let s : ℕ × Bool × List ℕ = (v.edition, v.certified, v.note) in
    let sums = sums_of_view v in
    ap (option_and_then (λ s. option_and_then (λ lot. option_and_then (λ seats. option_and_then (λ gone. option_and_then (λ sums. option_map (made s lot seats gone sums) (past_of con.code (length con.lists) t.past)) (sums_of con.code t.totals)) (all_gone_of con.code t.gone)) (numbers_from con.code 1 t.seats)) (numbers_from con.code 1 t.lots)))
    (standing_again con.code s fine.edition fine.note)
    ∙ ap (option_and_then (λ lot. option_and_then (λ seats. option_and_then (λ gone. option_and_then (λ sums. option_map (made s lot seats gone sums) (past_of con.code (length con.lists) t.past)) (sums_of con.code t.totals)) (all_gone_of con.code t.gone)) (numbers_from con.code 1 t.seats)))
    (items_again number_of con.code 1 v.lot fine.lot)
    ∙ ap (option_and_then (λ seats. option_and_then (λ gone. option_and_then (λ sums. option_map (made s v.lot seats gone sums) (past_of con.code (length con.lists) t.past)) (sums_of con.code t.totals)) (all_gone_of con.code t.gone)))
    (items_again number_of con.code 1 v.seats fine.seats)
    ∙ ap (option_and_then (λ gone. option_and_then (λ sums. option_map (made s v.lot v.seats gone sums) (past_of con.code (length con.lists) t.past)) (sums_of con.code t.totals)))
    (all_gone_again con.code v.gone fine.gone)
    ∙ ap (option_and_then (λ sums. option_map (made s v.lot v.seats v.gone sums) (past_of con.code (length con.lists) t.past)))
    (counts_again wide_number_of con.code sums (wide_again sums))
    ∙ ap (option_map (made s v.lot v.seats v.gone sums)) (all_past_again con.code (length con.lists) v.past some fine.past)
