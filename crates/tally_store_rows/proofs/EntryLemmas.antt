-- Rows that read as a return are its rows, and the rows of a return read as it.
use Rattle.std.proofs.Common.{◌≡◌, ◌<◌, ◌≤◌, ◌^◌, ◌+◌, ◌-◌, ℕ, suc, pos, Bool, true, false, cond, Option, Some, None, List, [], ◌∷◌, ◌++◌, map, length, take, drop, append_assoc, append-nil, take-append-drop, length-append, get_or, true≢false, refl, sym, ap, ap₂, subst, ◌∙◌, arith}
use Rattle.std.specs.Prelude.{option_and_then, option_map, slice_index_or, slice_range, nat_le, ◌==◌}
use Rattle.std.specs.List.{AllByRecursion, flat_map}
use Rattle.std.specs.Str.{is_utf8}
use Rattle.std.proofs.lemmas.Bool.{eqb-true, leb-true, le-leb, lt-leb}
use Rattle.std.proofs.lemmas.List.{take_more, take_all, take_at, drop_at, drop_more, drop_all, get_or_at, length-map, map-append}
use Rattle.sqlite_value.specs.declared.value.Value.{Value}
use Rattle.sqlite_value.specs.declared.value.Value.TheVariants.{Int, Text}
use Rattle.sqlite_value.specs.Order.{Row, column}
use Rattle.tally_setup.specs.Code.{is_code, code_of}
use Rattle.tally_setup.specs.Constituency.{Constituency}
use Rattle.tally_setup.specs.Setup.{station_with}
use Rattle.tally_setup.specs.declared.constituency.Station.{Station}
use Rattle.tally_returns.specs.Counts.{VoteCounts}
use Rattle.tally_returns.specs.Return.{StationReturn}
use Rattle.tally_returns.specs.declared.returns.Status.{Status}
use Rattle.tally_returns.specs.declared.returns.Status.TheVariants.{Received, Queried, Corrected, Closed}
use Rattle.tally_store_schema.specs.Values.{text_of, number_of}
use Rattle.tally_store_rows.specs.Cells.{status_number, item_row, numbers_with_places, items_of, spoiled_item, constituency_of, return_row, return_rows, count_rows}
use Rattle.tally_store_rows.specs.Reading.{with_text, utf8_of, status_of, item_for, items_from, counts_by, counts_of, return_of, station_of_row, entry_of, next_entry, entries_in}
use Rattle.tally_store_rows.proofs.ItemLemmas.{and_then_some, map_some, if_some, text_is, number_is, number_reads, with_text_is, with_text_there, IsExact, IsRead, item_for_is, item_again, number_rows, items_are, items_again}

-- ---- the first row, those between, and the last

last_of : (rows : List Row) → 1 ≤ length rows → rows ≡ take (length rows - 1) rows ++ slice_index_or rows (length rows - 1) [] ∷ []
last_of rows some = sym (take_all (length rows - 1 + 1) rows (omega (arith, some))) ∙ take_more rows (length rows - 1) [] (omega (arith, some))

ends_of : (rows : List Row) → 2 ≤ length rows → rows ≡ slice_index_or rows 0 [] ∷ slice_range rows 1 (length rows - 1) ++ slice_index_or rows (length rows - 1) [] ∷ []
ends_of [] some = absurd (omega (arith, some))
ends_of (row ∷ []) some = absurd (omega (arith, some))
ends_of (row ∷ r ∷ rows) some =
    let m = length (r ∷ rows) - 1 in
    let whole = length (row ∷ r ∷ rows) - 1 in
    let behind : m ≡ whole - 1 = omega arith in
    let last : suc m ≡ whole = omega arith in
    ap (λ l. row ∷ l) (last_of (r ∷ rows) (omega arith))
    ∙ ap (λ k. row ∷ take k (r ∷ rows) ++ slice_index_or (row ∷ r ∷ rows) (suc m) [] ∷ []) behind
    ∙ ap (λ k. row ∷ take (whole - 1) (r ∷ rows) ++ slice_index_or (row ∷ r ∷ rows) k [] ∷ []) last

between_is : (x y : Row) (middle : List Row) → slice_range (x ∷ middle ++ y ∷ []) 1 (length (x ∷ middle ++ y ∷ []) - 1) ≡ middle
between_is x y middle = ap (λ n. take n (middle ++ y ∷ [])) (omega (arith, length-append middle (y ∷ []))) ∙ take_at middle (y ∷ []) (length middle) refl

last_is : (x y : Row) (middle : List Row) → slice_index_or (x ∷ middle ++ y ∷ []) (length (x ∷ middle ++ y ∷ []) - 1) [] ≡ y
last_is x y middle = ap (λ n. slice_index_or (x ∷ middle ++ y ∷ []) n []) (omega (arith, length-append middle (y ∷ []))) ∙ get_or_at (x ∷ middle) y [] [] (length middle + 1) (omega arith)

-- ---- counts

-- the rows of counts, the first and the last apart
count_rows_are : (key : List ℕ) (c : VoteCounts) → map (item_row key) (items_of c) ≡ item_row key (0, c.blank) ∷ number_rows key 1 c.votes ++ item_row key (spoiled_item, c.spoiled) ∷ []
count_rows_are key c = ap (λ l. item_row key (0, c.blank) ∷ l) (map-append (item_row key) (numbers_with_places 1 c.votes) ((spoiled_item, c.spoiled) ∷ []))

pub counts_are : (read : Value → Option ℕ) → IsExact read → (key : List ℕ) (rows : List Row) (c : VoteCounts) → counts_by read key rows ≡ Some c → rows ≡ map (item_row key) (items_of c)
counts_are read exact key rows c h =
    let whole = if_some (nat_le 2 (length rows)) _ c h in
    let blank = and_then_some _ (item_for read (slice_index_or rows 0 []) key 0) c whole.1 in
    let spoiled = and_then_some _ (item_for read (slice_index_or rows (length rows - 1) []) key spoiled_item) c blank.2 in
    let votes = map_some _ (items_from read key 1 (slice_range rows 1 (length rows - 1))) c spoiled.2 in
    let ends = ends_of rows (omega (arith, leb-true 2 (length rows) whole.0)) in
    let same : rows ≡ item_row key (0, blank.0) ∷ number_rows key 1 votes.0 ++ item_row key (spoiled_item, spoiled.0) ∷ [] =
    ends ∙ ap (λ r. r ∷ slice_range rows 1 (length rows - 1) ++ slice_index_or rows (length rows - 1) [] ∷ []) (item_for_is read exact _ key 0 blank.0 blank.1)
    ∙ ap (λ l. item_row key (0, blank.0) ∷ l ++ slice_index_or rows (length rows - 1) [] ∷ []) (items_are read exact key 1 _ votes.0 votes.1)
    ∙ ap (λ r. item_row key (0, blank.0) ∷ number_rows key 1 votes.0 ++ r ∷ []) (item_for_is read exact _ key spoiled_item spoiled.0 spoiled.1) in
    same ∙ ap (λ (x : VoteCounts). item_row key (0, x.blank) ∷ number_rows key 1 x.votes ++ item_row key (spoiled_item, x.spoiled) ∷ []) votes.2 ∙ sym (count_rows_are key c)

-- the counts can be read again
pub record AreRead (read : Value → Option ℕ) (c : VoteCounts) : Type 0 where
  pub votes : AllByRecursion (IsRead read) c.votes
  pub blank : IsRead read c.blank
  pub spoiled : IsRead read c.spoiled

counts_read : (read : Value → Option ℕ) (key : List ℕ) (c : VoteCounts) (rows : List Row) → AreRead read c
    → (slice_index_or rows 0 [] ≡ item_row key (0, c.blank)) → (slice_range rows 1 (length rows - 1) ≡ number_rows key 1 c.votes) → (slice_index_or rows (length rows - 1) [] ≡ item_row key (spoiled_item, c.spoiled)) → nat_le 2 (length rows) ≡ true
    → counts_by read key rows ≡ Some c
counts_read read key c rows is first middle last long =
    let made : ℕ → ℕ → List ℕ → VoteCounts = λ blank spoiled votes. record { votes = votes; blank = blank; spoiled = spoiled } in
    ap (λ b. cond b (option_and_then (λ blank. option_and_then (λ spoiled. option_map (made blank spoiled) (items_from read key 1 (slice_range rows 1 (length rows - 1)))) (item_for read (slice_index_or rows (length rows - 1) []) key spoiled_item)) (item_for read (slice_index_or rows 0 []) key 0)) None) long
    ∙ ap (option_and_then (λ blank. option_and_then (λ spoiled. option_map (made blank spoiled) (items_from read key 1 (slice_range rows 1 (length rows - 1)))) (item_for read (slice_index_or rows (length rows - 1) []) key spoiled_item))) (ap (λ r. item_for read r key 0) first ∙ item_again read key 0 c.blank is.blank)
    ∙ ap (option_and_then (λ spoiled. option_map (made c.blank spoiled) (items_from read key 1 (slice_range rows 1 (length rows - 1))))) (ap (λ r. item_for read r key spoiled_item) last ∙ item_again read key spoiled_item c.spoiled is.spoiled)
    ∙ ap (option_map (made c.blank c.spoiled)) (ap (items_from read key 1) middle ∙ items_again read key 1 c.votes is.votes)

pub counts_again : (read : Value → Option ℕ) (key : List ℕ) (c : VoteCounts) → AreRead read c → counts_by read key (map (item_row key) (items_of c)) ≡ Some c
counts_again read key c is =
    let first = item_row key (0, c.blank) in
    let last = item_row key (spoiled_item, c.spoiled) in
    let middle = number_rows key 1 c.votes in
    let rows = first ∷ middle ++ last ∷ [] in
    ap (counts_by read key) (count_rows_are key c)
    ∙ counts_read read key c rows is refl (between_is first last middle) (last_is first last middle) (le-leb 2 (length rows) (omega (arith, length-append middle (last ∷ []))))

-- ---- the row of a return

status_is : (n : ℕ) (status : Status) → status_of n ≡ Some status → n ≡ status_number status
status_is n status h = go (n == 1) (n == 2) (n == 3) (n == 4) refl refl refl refl h
  where
    go : (a b c d : Bool) → (n == 1) ≡ a → (n == 2) ≡ b → (n == 3) ≡ c → (n == 4) ≡ d → cond a (Some Received) (cond b (Some Queried) (cond c (Some Corrected) (cond d (Some Closed) None))) ≡ Some status → n ≡ status_number status
    go true b c d one two three four e = eqb-true n 1 one ∙ ap status_number (let s : Received ≡ status = (let k = e in cc) in s)
    go false true c d one two three four e = eqb-true n 2 two ∙ ap status_number (let s : Queried ≡ status = (let k = e in cc) in s)
    go false false true d one two three four e = eqb-true n 3 three ∙ ap status_number (let s : Corrected ≡ status = (let k = e in cc) in s)
    go false false false true one two three four e = eqb-true n 4 four ∙ ap status_number (let s : Closed ≡ status = (let k = e in cc) in s)
    go false false false false one two three four e = absurd (let k = e in cc)

status_again : (status : Status) → status_of (status_number status) ≡ Some status
status_again Received = refl
status_again Queried = refl
status_again Corrected = refl
status_again Closed = refl

status_small : (status : Status) → status_number status < 2 ^ 32
status_small Received = omega arith
status_small Queried = omega arith
status_small Corrected = omega arith
status_small Closed = omega arith

six : (row : Row) → length row ≡ 6 → row ≡ column row 0 ∷ column row 1 ∷ column row 2 ∷ column row 3 ∷ column row 4 ∷ column row 5 ∷ []
six [] h = absurd (omega arith)
six (a ∷ []) h = absurd (omega arith)
six (a ∷ b ∷ []) h = absurd (omega arith)
six (a ∷ b ∷ c ∷ []) h = absurd (omega arith)
six (a ∷ b ∷ c ∷ d ∷ []) h = absurd (omega arith)
six (a ∷ b ∷ c ∷ d ∷ e ∷ []) h = absurd (omega arith)
six (a ∷ b ∷ c ∷ d ∷ e ∷ f ∷ []) h = refl
six (a ∷ b ∷ c ∷ d ∷ e ∷ f ∷ g ∷ row) h = absurd (omega arith)

of_six : (row : Row) (a b c d e f : Value) → length row ≡ 6 → column row 0 ≡ a → column row 1 ≡ b → column row 2 ≡ c → column row 3 ≡ d → column row 4 ≡ e → column row 5 ≡ f → row ≡ a ∷ b ∷ c ∷ d ∷ e ∷ f ∷ []
of_six row a b c d e f len p q r s t u = six row len ∙ (λ i. p i ∷ q i ∷ r i ∷ s i ∷ t i ∷ u i ∷ [])

code_is : (text code : List ℕ) → code_of text ≡ Some code → text ≡ code
code_is text code h = let it = if_some (is_code text) (Some text) code h in (let k = it.1 in cc)

pub utf8_is : (text note : List ℕ) → utf8_of text ≡ Some note → text ≡ note
utf8_is text note h = let it = if_some (is_utf8 text) (Some text) note h in (let k = it.1 in cc)

abbrev as_return : VoteCounts → ℕ → List ℕ → Status → List ℕ → StationReturn
as_return counts rev slip status note = record { rev = rev; slip = slip; status = status; note = note; counts = counts }

pub return_is : (station con : List ℕ) (counts : VoteCounts) (row : Row) (standing : StationReturn) → return_of station con counts row ≡ Some standing → (row ≡ return_row con (station, standing)) × (counts ≡ standing.counts)
return_is station con counts row standing h =
    let whole = if_some (length row == 6) _ standing h in
    let first = with_text_is row 0 station _ standing whole.1 in
    let second = with_text_is row 1 con _ standing first.1 in
    let rev = and_then_some _ (number_of (column row 2)) standing second.1 in
    let slip = and_then_some _ (option_and_then code_of (text_of (column row 3))) standing rev.2 in
    let status = and_then_some _ (option_and_then status_of (number_of (column row 4))) standing slip.2 in
    let note = map_some _ (option_and_then utf8_of (text_of (column row 5))) standing status.2 in
    let slip_text = and_then_some code_of (text_of (column row 3)) slip.0 slip.1 in
    let number = and_then_some status_of (number_of (column row 4)) status.0 status.1 in
    let note_text = and_then_some utf8_of (text_of (column row 5)) note.0 note.1 in
    let same : row ≡ return_row con (station, as_return counts rev.0 slip.0 status.0 note.0) =
    of_six row _ _ _ _ _ _ (eqb-true (length row) 6 whole.0) first.0 second.0 (number_is _ _ rev.1) (text_is _ _ slip_text.1 ∙ ap Text (code_is _ _ slip_text.2))
    (number_is _ _ number.1 ∙ ap (λ n. Int (pos n)) (status_is _ _ number.2)) (text_is _ _ note_text.1 ∙ ap Text (utf8_is _ _ note_text.2)) in
    (same ∙ ap (λ (r : StationReturn). return_row con (station, r)) note.2, ap (λ (r : StationReturn). r.counts) note.2)

-- what a return has to be so that it can be read again
pub record IsReadable (standing : StationReturn) : Type 0 where
  pub rev : standing.rev < 2 ^ 32
  pub slip : is_code standing.slip ≡ true
  pub note : is_utf8 standing.note ≡ true
  pub counts : AreRead number_of standing.counts

pub return_again : (station con : List ℕ) (standing : StationReturn) → IsReadable standing → return_of station con standing.counts (return_row con (station, standing)) ≡ Some standing
return_again station con standing fine =
    let counts = standing.counts in
    let row = return_row con (station, standing) in
    let rest : Option StationReturn = option_and_then (λ rev. option_and_then (λ slip. option_and_then (λ status. option_map (λ note. as_return counts rev slip status note) (option_and_then utf8_of (text_of (column row 5)))) (option_and_then status_of (number_of (column row 4)))) (option_and_then code_of (text_of (column row 3)))) (number_of (column row 2)) in
    with_text_there row 0 station (with_text row 1 con rest) refl ∙ with_text_there row 1 con rest refl
    ∙ ap (option_and_then (λ rev. option_and_then (λ slip. option_and_then (λ status. option_map (λ note. as_return counts rev slip status note) (utf8_of standing.note)) (option_and_then status_of (number_of (column row 4)))) (code_of standing.slip))) (number_reads standing.rev fine.rev)
    ∙ ap (option_and_then (λ slip. option_and_then (λ status. option_map (λ note. as_return counts standing.rev slip status note) (utf8_of standing.note)) (option_and_then status_of (number_of (column row 4))))) (ap (λ b. cond b (Some standing.slip) None) fine.slip)
    ∙ ap (option_and_then (λ status. option_map (λ note. as_return counts standing.rev standing.slip status note) (utf8_of standing.note))) (ap (option_and_then status_of) (number_reads (status_number standing.status) (status_small standing.status)) ∙ status_again standing.status)
    ∙ ap (option_map (λ note. as_return counts standing.rev standing.slip standing.status note)) (ap (λ b. cond b (Some standing.note) None) fine.note)

-- ---- a return with its counts

pub entry_is : (con station : List ℕ) (row : Row) (counts : List Row) (e : List ℕ × StationReturn) → entry_of con station row counts ≡ Some e → (e.0 ≡ station) × (row ≡ return_row con e) × (counts ≡ count_rows e)
entry_is con station row counts e h =
    let c = and_then_some _ (counts_of station counts) e h in
    let standing = map_some _ (return_of station con c.0 row) e c.2 in
    let first = return_is station con c.0 row standing.0 standing.1 in
    subst (λ (x : List ℕ × StationReturn). (x.0 ≡ station) × (row ≡ return_row con x) × (counts ≡ count_rows x)) standing.2
    (refl, first.0, counts_are number_of number_is station counts c.0 c.1 ∙ ap (λ (v : VoteCounts). map (item_row station) (items_of v)) first.1)

pub entry_again : (con : List ℕ) (e : List ℕ × StationReturn) → IsReadable e.1 → entry_of con e.0 (return_row con e) (count_rows e) ≡ Some e
entry_again con e fine =
    ap (option_and_then (λ counts. option_map (λ standing. (e.0, standing)) (return_of e.0 con counts (return_row con e)))) (counts_again number_of e.0 e.1.counts fine.counts)
    ∙ ap (option_map (λ standing. (e.0, standing))) (return_again e.0 con e.1 fine)

-- ---- all returns

constituency_is : (setup : List Constituency) (station : List ℕ) (place : Constituency × Station) → station_with station setup ≡ Some place → constituency_of setup station ≡ place.0.code
constituency_is setup station place found = ap (λ o. Rattle.std.specs.Option.option_map_or (λ (p : Constituency × Station). p.0.code) o []) found

placed : (setup : List Constituency) (row : Row) (station : List ℕ) (place : Constituency × Station) → column row 0 ≡ Text station → station_of_row setup row ≡ Some place → station_with station setup ≡ Some place
placed setup row station place is h =
    let here : option_and_then (λ code. station_with code setup) (code_of station) ≡ Some place = ap (λ v. option_and_then (λ code. station_with code setup) (option_and_then code_of (text_of v))) (sym is) ∙ h in
    let code = and_then_some (λ code. station_with code setup) (code_of station) place here in
    ap (λ c. station_with c setup) (code_is station code.0 code.1) ∙ code.2

-- the rows are those of these returns
pub record AreRows (setup : List Constituency) (rows counts : List Row) (es : List (List ℕ × StationReturn)) : Type 0 where
  pub rows_are : rows ≡ flat_map (return_rows setup) es
  pub counts_are : counts ≡ flat_map count_rows es

pub entries_are : (setup : List Constituency) (rows counts : List Row) (es : List (List ℕ × StationReturn)) → entries_in setup rows counts ≡ Some es → AreRows setup rows counts es
entries_are setup [] [] es h = let e : ◌≡◌ {A = List (List ℕ × StationReturn)} [] es = (let k = h in cc) in subst (AreRows setup [] []) e (record { rows_are = refl; counts_are = refl })
entries_are setup [] (c ∷ counts) es h = absurd (let e = h in cc)
entries_are setup (row ∷ rows) counts es h =
    let place = and_then_some _ (station_of_row setup row) es h in
    let con = place.0.0 in
    let items = length con.lists + 2 in
    let long = if_some (nat_le items (length counts)) _ es place.2 in
    let first = and_then_some _ (entry_of con.code place.0.1.code row (take items counts)) es long.1 in
    let e = first.0 in
    let later = map_some _ (entries_in setup rows (drop items counts)) es first.2 in
    let read = entry_is con.code place.0.1.code row (take items counts) e first.1 in
    let ensured = entries_are setup rows (drop items counts) later.0 later.1 in
    let here = placed setup row e.0 place.0 (ap (λ r. column r 0) read.1) place.1 in
    subst (AreRows setup (row ∷ rows) counts) later.2 (record {
      rows_are = ap₂ (λ r l. r ∷ l) (read.1 ∙ ap (λ c. return_row c e) (sym (constituency_is setup e.0 place.0 here))) ensured.rows_are;
      counts_are = sym (take-append-drop items counts) ∙ ap₂ ◌++◌ read.2 ensured.counts_are;
    })

-- a return of a station of the setup that can be read again
pub record IsPlaced (setup : List Constituency) (e : List ℕ × StationReturn) : Type 0 where
  pub place : Constituency × Station
  pub found : station_with e.0 setup ≡ Some place
  pub same : place.1.code ≡ e.0
  pub code : is_code e.0 ≡ true
  pub lists : length e.1.counts.votes ≡ length place.0.lists
  pub fine : IsReadable e.1

pub length_numbered : (first : ℕ) (ns : List ℕ) → length (numbers_with_places first ns) ≡ length ns
length_numbered first [] = refl
length_numbered first (n ∷ ns) = omega (arith, length_numbered (first + 1) ns)

length_count_rows : (e : List ℕ × StationReturn) → length (count_rows e) ≡ length e.1.counts.votes + 2
length_count_rows e =
    length-map (items_of e.1.counts) (item_row e.0) ∙ omega (arith, length-append (numbers_with_places 1 e.1.counts.votes) ((spoiled_item, e.1.counts.spoiled) ∷ []), length_numbered 1 e.1.counts.votes)

place_again : (setup : List Constituency) (con : List ℕ) (e : List ℕ × StationReturn) (h : IsPlaced setup e) → station_of_row setup (return_row con e) ≡ Some h.place
place_again setup con e h = ap (λ b. option_and_then (λ code. station_with code setup) (cond b (Some e.0) None)) h.code ∙ h.found

next_again : (others : List Row → Option (List (List ℕ × StationReturn))) (setup : List Constituency) (e : List ℕ × StationReturn) (h : IsPlaced setup e) (counts : List Row) (es : List (List ℕ × StationReturn)) → others counts ≡ Some es
    → next_entry others (length h.place.0.lists + 2) h.place (return_row (constituency_of setup e.0) e) (count_rows e ++ counts) ≡ Some (e ∷ es)
next_again others setup e h counts es is =
    let items = length h.place.0.lists + 2 in
    let mine : length (count_rows e) ≡ items = length_count_rows e ∙ ap (λ n. n + 2) h.lists in
    let long : nat_le items (length (count_rows e ++ counts)) ≡ true = le-leb items _ (omega (arith, mine, length-append (count_rows e) counts)) in
    let row = return_row (constituency_of setup e.0) e in
    let con = constituency_is setup e.0 h.place h.found in
    let one : entry_of h.place.0.code h.place.1.code row (take items (count_rows e ++ counts)) ≡ Some e =
    ap (entry_of h.place.0.code h.place.1.code row) (take_at (count_rows e) counts items mine) ∙ ap (λ s. entry_of h.place.0.code s row (count_rows e)) h.same
    ∙ ap (λ c. entry_of h.place.0.code e.0 (return_row c e) (count_rows e)) con ∙ entry_again h.place.0.code e h.fine in
    ap (λ b. cond b (option_and_then (λ x. option_map (λ l. x ∷ l) (others (drop items (count_rows e ++ counts)))) (entry_of h.place.0.code h.place.1.code row (take items (count_rows e ++ counts)))) None) long
    ∙ ap (option_and_then (λ x. option_map (λ l. x ∷ l) (others (drop items (count_rows e ++ counts))))) one
    ∙ ap (option_map (λ l. e ∷ l)) (ap others (drop_at (count_rows e) counts items mine) ∙ is)

pub entries_again : (setup : List Constituency) (es : List (List ℕ × StationReturn)) → AllByRecursion (IsPlaced setup) es → entries_in setup (flat_map (return_rows setup) es) (flat_map count_rows es) ≡ Some es
entries_again setup [] h = refl
entries_again setup (e ∷ es) h =
    let row = return_row (constituency_of setup e.0) e in
    let others = entries_in setup (flat_map (return_rows setup) es) in
    let counts = count_rows e ++ flat_map count_rows es in
    ap (option_and_then (λ (place : Constituency × Station). next_entry others (length place.0.lists + 2) place row counts)) (place_again setup (constituency_of setup e.0) e h.0)
    ∙ next_again others setup e h.0 (flat_map count_rows es) es (entries_again setup es h.1)

-- ---- the loop

-- what the returns so far and the other rows come to
abbrev pub Reading : List Constituency → List (List ℕ × StationReturn) → List Row → List Row → Option (List (List ℕ × StationReturn))
Reading setup so_far rows counts = option_map (λ es. so_far ++ es) (entries_in setup rows counts)

-- the row at a place of the loop, by the station that it names
at_row : (setup : List Constituency) (so_far : List (List ℕ × StationReturn)) (rows counts : List Row) (i : ℕ) (row : Row) (o : Option (Constituency × Station)) → i < length rows → row ≡ get_or rows i row → o ≡ station_of_row setup row
    → Reading setup so_far (drop i rows) counts ≡ option_map (λ es. so_far ++ es) (option_and_then (λ place. next_entry (entries_in setup (drop (i + 1) rows)) (length place.0.lists + 2) place row counts) o)
at_row setup so_far rows counts i row o low at is =
    ap (λ l. Reading setup so_far l counts) (drop_more rows i row low ∙ ap (λ r. r ∷ drop (i + 1) rows) (sym at))
    ∙ ap (λ p. option_map (λ es. so_far ++ es) (option_and_then (λ (place : Constituency × Station). next_entry (entries_in setup (drop (i + 1) rows)) (length place.0.lists + 2) place row counts) p)) (sym is)

pub too_few : (setup : List Constituency) (so_far : List (List ℕ × StationReturn)) (rows counts : List Row) (i : ℕ) (row : Row) (place : Constituency × Station) → i < length rows → row ≡ get_or rows i row → Some place ≡ station_of_row setup row
    → length counts < length place.0.lists + 2 → Reading setup so_far (drop i rows) counts ≡ None
too_few setup so_far rows counts i row place low at is few =
    at_row setup so_far rows counts i row (Some place) low at is
    ∙ ap (λ b. option_map (λ es. so_far ++ es) (cond b (option_and_then (λ x. option_map (λ l. x ∷ l) (entries_in setup (drop (i + 1) rows) (drop (length place.0.lists + 2) counts))) (entry_of place.0.code place.1.code row (take (length place.0.lists + 2) counts))) None)) (lt-leb (length place.0.lists + 2) (length counts) few)

-- with rows enough of `counts`
with_entry : (setup : List Constituency) (so_far : List (List ℕ × StationReturn)) (rows counts : List Row) (i : ℕ) (row : Row) (place : Constituency × Station) (o : Option (List ℕ × StationReturn)) → i < length rows → row ≡ get_or rows i row
    → Some place ≡ station_of_row setup row → length place.0.lists + 2 ≤ length counts → o ≡ entry_of place.0.code place.1.code row (take (length place.0.lists + 2) counts)
    → Reading setup so_far (drop i rows) counts ≡ option_map (λ es. so_far ++ es) (option_and_then (λ x. option_map (λ l. x ∷ l) (entries_in setup (drop (i + 1) rows) (drop (length place.0.lists + 2) counts))) o)
with_entry setup so_far rows counts i row place o low at is enough e =
    at_row setup so_far rows counts i row (Some place) low at is
    ∙ ap (λ b. option_map (λ es. so_far ++ es) (cond b (option_and_then (λ x. option_map (λ l. x ∷ l) (entries_in setup (drop (i + 1) rows) (drop (length place.0.lists + 2) counts))) (entry_of place.0.code place.1.code row (take (length place.0.lists + 2) counts))) None)) (le-leb (length place.0.lists + 2) (length counts) enough)
    ∙ ap (λ p. option_map (λ es. so_far ++ es) (option_and_then (λ x. option_map (λ l. x ∷ l) (entries_in setup (drop (i + 1) rows) (drop (length place.0.lists + 2) counts))) p)) (sym e)

pub one_entry : (setup : List Constituency) (so_far : List (List ℕ × StationReturn)) (rows counts : List Row) (i : ℕ) (row : Row) (place : Constituency × Station) (e : List ℕ × StationReturn) → i < length rows → row ≡ get_or rows i row → Some place ≡ station_of_row setup row
    → length place.0.lists + 2 ≤ length counts → Some e ≡ entry_of place.0.code place.1.code row (take (length place.0.lists + 2) counts)
    → Reading setup so_far (drop i rows) counts ≡ Reading setup (so_far ++ e ∷ []) (drop (i + 1) rows) (drop (length place.0.lists + 2) counts)
one_entry setup so_far rows counts i row place e low at is enough found =
    with_entry setup so_far rows counts i row place (Some e) low at is enough found ∙ moved (entries_in setup (drop (i + 1) rows) (drop (length place.0.lists + 2) counts))
  where
    moved : (o : Option (List (List ℕ × StationReturn))) → option_map (λ es. so_far ++ es) (option_map (λ l. e ∷ l) o) ≡ option_map (λ es. (so_far ++ e ∷ []) ++ es) o
    moved None = refl
    moved (Some es) = ap Some (sym (append_assoc so_far (e ∷ []) es))

-- where the rows of `counts` do not read as those of the return
pub no_entry : (setup : List Constituency) (so_far : List (List ℕ × StationReturn)) (rows counts : List Row) (i : ℕ) (row : Row) (place : Constituency × Station) → i < length rows → row ≡ get_or rows i row → Some place ≡ station_of_row setup row
    → length place.0.lists + 2 ≤ length counts → None ≡ entry_of place.0.code place.1.code row (take (length place.0.lists + 2) counts) → Reading setup so_far (drop i rows) counts ≡ None
no_entry setup so_far rows counts i row place low at is enough none = with_entry setup so_far rows counts i row place None low at is enough none

pub no_station : (setup : List Constituency) (so_far : List (List ℕ × StationReturn)) (rows counts : List Row) (i : ℕ) (row : Row) → i < length rows → row ≡ get_or rows i row → None ≡ station_of_row setup row → Reading setup so_far (drop i rows) counts ≡ None
no_station setup so_far rows counts i row low at none = at_row setup so_far rows counts i row None low at none

pub too_many : (setup : List Constituency) (so_far : List (List ℕ × StationReturn)) (rows counts : List Row) (i : ℕ) → length rows ≤ i → (length counts == 0) ≡ false → Reading setup so_far (drop i rows) counts ≡ None
too_many setup so_far rows [] i past some = absurd (true≢false some)
too_many setup so_far rows (c ∷ counts) i past some = ap (λ l. Reading setup so_far l (c ∷ counts)) (drop_all i rows past)

pub none_left : (setup : List Constituency) (so_far : List (List ℕ × StationReturn)) (rows counts : List Row) (i : ℕ) → length rows ≤ i → (length counts == 0) ≡ true → Reading setup so_far (drop i rows) counts ≡ Some so_far
none_left setup so_far rows [] i past none = ap (λ l. Reading setup so_far l []) (drop_all i rows past) ∙ ap Some (append-nil so_far)
none_left setup so_far rows (c ∷ counts) i past none = absurd (omega (arith, eqb-true (length (c ∷ counts)) 0 none))
