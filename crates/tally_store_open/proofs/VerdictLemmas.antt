-- The judgement of whole tables, from what was read of them.
use Rattle.std.proofs.Common.{◌≡◌, ◌≤◌, ◌&&◌, ◌||◌, cond, T, Less, true≢false, ℕ, Bool, true, false, Some, None, List, [], ◌∷◌, map, length, refl, sym, ap, ap₂, subst, ◌∙◌, arith}
use Rattle.std.specs.Prelude.{All, bytes_eq, is_some}
use Rattle.std.specs.List.{AllByRecursion}
use Rattle.std.specs.Ordering.{is_lt, eq_by_cmp}
use Rattle.std.proofs.lemmas.Bool.{false_from_ne_true}
use Rattle.tally_store_schema.proofs.StatementLemmas.{equal_is}
use Rattle.sqlite_trees.specs.Tree.{IsAscending}
use Rattle.sqlite_value.specs.Order.{Row}
use Rattle.std.specs.FinMap.{find, get, entries, entries_sorted, from_entries, from_sorted, get-entries, get-from_entries, entries-from_sorted, same_map}
use Rattle.std.specs.FinMap.Entries.{is_sorted}
use Rattle.std.proofs.lemmas.List.{length-map}
use Rattle.std.proofs.lemmas.List.Elements.{recursion_from_All, All-from_recursion}
use Rattle.std.proofs.lemmas.Slice.Eq.{bytes_eq-Decides}
use Rattle.sqlite_keyed.proofs.ListLemmas.{all_weaker, all-append}
use Rattle.tally_setup.specs.Code.{is_code}
use Rattle.tally_setup.specs.Codes.{is_among_codes}
use Rattle.tally_setup.specs.Constituency.{Constituency}
use Rattle.tally_setup.specs.Limits.{IsConstituency, IsSetup, IsStation}
use Rattle.tally_setup.specs.Setup.{all_stations, constituency_with, constituency_codes, station_with}
use Rattle.tally_setup.specs.declared.constituency.Station.{Station}
use Rattle.tally_keeper.specs.Kept.{Kept, opening_kept, view_in}
use Rattle.tally_machine_law.specs.LawfulState.{IsLawfulState}
use Rattle.tally_machine_law.specs.LawStatements.{ViewsAreLawful}
use Rattle.tally_machine_law.proofs.ViewLemmas.{found-has, found-passes}
use Rattle.tally_returns.specs.Decide.{limits_of}
use Rattle.tally_returns.specs.Return.{StationReturn, Returns}
use Rattle.tally_returns.specs.State.{State, ConState}
use Rattle.tally_returns.specs.View.{View}
use Rattle.tally_store_schema.specs.Rows.{text_cmp}
use Rattle.tally_store_schema.proofs.RowsLemmas.{text_total, text_exact, keys_rise}
use Rattle.tally_store_open.specs.internal.Found.{AreAllLawful, AreLawfulCons, IsLawfulFound}
use Rattle.tally_store_open.specs.internal.Entries.{AreReturnsOf, IsLawfulEntry, IsLedgerOf, key_of, rises}
use Rattle.tally_store_open.specs.OfficeRows.{RowsInOrder, AreOfficeRows, AreLawfulRows}
use Rattle.tally_store_rows.specs.Reading.{entries_in}
use Rattle.tally_store_rows.specs.Views.{Tables, views_from}
use Rattle.tally_store_open.proofs.CountLemmas.{AreApart, AreWithin, no_more, all_covered, apart_from_distinct}
use Rattle.tally_store_rows.proofs.FoundLemmas.{never_below, IsReadableFound, views_are, views_again}
use Rattle.tally_store_rows.proofs.ItemLemmas.{map_some}
use Rattle.tally_store_open.proofs.LedgerLemmas.{kept_of}
use Rattle.tally_store_open.proofs.EntriesLemmas.{StationsHaveCodes, returns_passed, returns_must_pass}
use Rattle.tally_store_open.proofs.OfficeLemmas.{known_among, office_passed}
use Rattle.tally_store_open.proofs.RiseLemmas.{sorted_from_rises, rises_from_sorted}
use Rattle.tally_store_open.proofs.StateLemmas.{IsHeld, IsKnown, all_held, views_of, view_entry, rows_of_state, lawful_found, readable_found}

-- ---- codes

con_stations : (con : Constituency) (stations : List Station) → AllByRecursion IsStation stations → AllByRecursion (λ (p : Constituency × Station). is_code p.1.code ≡ true) (map (λ (s : Station). (con, s)) stations)
con_stations con [] h = tt
con_stations con (s ∷ stations) h = (h.0.code, con_stations con stations h.1)

station_codes : (setup : List Constituency) → AllByRecursion IsConstituency setup → AllByRecursion (λ (p : Constituency × Station). is_code p.1.code ≡ true) (all_stations setup)
station_codes [] h = tt
station_codes (con ∷ setup) h =
    all-append (λ (p : Constituency × Station). is_code p.1.code ≡ true) (map (λ (s : Station). (con, s)) con.stations) (all_stations setup)
    (con_stations con con.stations (recursion_from_All IsStation con.stations h.0.each_station)) (station_codes setup h.1)

-- that the codes of stations are codes is one of the limits of a setup
pub stations_have_codes : (setup : List Constituency) → IsSetup setup → StationsHaveCodes setup
stations_have_codes setup setup_limits station limits is =
    let place = map_some (λ (p : Constituency × Station). limits_of p.0 p.1) (station_with station setup) limits is in
    let all = All-from_recursion (λ (p : Constituency × Station). is_code p.1.code ≡ true) (all_stations setup) (station_codes setup (recursion_from_All IsConstituency setup setup_limits.each_constituency)) in
    let one = found-has (λ (p : Constituency × Station). is_code p.1.code ≡ true) _ (all_stations setup) place.0 all place.1 in
    let same = (bytes_eq-Decides station place.0.1.code).0 (found-passes (λ (p : Constituency × Station). bytes_eq station p.1.code) (all_stations setup) place.0 place.1) in
    subst (λ c. is_code c ≡ true) (sym same) one

-- ---- as many as the setup has

keys_apart : {X : Type 0} (es : List (List ℕ × X)) → T (is_sorted text_cmp es) → AreApart (map (λ e. e.0) es)
keys_apart es sorted = go es (keys_rise es sorted)
  where
    one : (a b : List ℕ) → text_cmp a b ≡ Less → bytes_eq b a ≡ false
    one a b less = false_from_ne_true (bytes_eq b a) (λ e. never_below a (subst (λ k. text_cmp a k ≡ Less) ((bytes_eq-Decides b a).0 e) less))

    first : {X : Type 0} (a : List ℕ) (es : List (List ℕ × X)) → AllByRecursion (λ e. text_cmp a e.0 ≡ Less) es → AllByRecursion (λ z. bytes_eq z a ≡ false) (map (λ e. e.0) es)
    first a [] h = tt
    first a (e ∷ es) h = (one a e.0 h.0, first a es h.1)

    go : {X : Type 0} (es : List (List ℕ × X)) → IsAscending (λ a b. text_cmp a.0 b.0 ≡ Less) es → AreApart (map (λ e. e.0) es)
    go [] h = tt
    go (e ∷ es) h = (first e.0 es h.0, go es h.1)

keys_within : {X : Type 0} (setup : List Constituency) (es : List (List ℕ × X)) → AllByRecursion (λ e. (con : Constituency) × (constituency_with e.0 setup ≡ Some con)) es → AreWithin (map (λ e. e.0) es) (constituency_codes setup)
keys_within setup [] h = tt
keys_within setup (e ∷ es) h = (known_among e.0 setup h.0.0 h.0.1, keys_within setup es h.1)

-- ---- rows that pass

same_returns : (es : List (List ℕ × StationReturn)) → T (is_sorted text_cmp es) → from_entries {R = text_cmp} es ≡ from_sorted es
same_returns es sorted = same_map text_total text_exact _ _ (λ q. get-from_entries text_total es q ∙ sym (get-entries (from_sorted es) q ∙ ap (find text_cmp q) (entries-from_sorted text_cmp es sorted)))

pub verdict_passed : (setup : List Constituency) (rows : RowsInOrder) (es : List (List ℕ × StationReturn)) (kept : Kept) (vs : List (List ℕ × View)) → kept ≡ record (opening_kept setup) { returns = from_entries es }
    → entries_in setup rows.returns rows.counts ≡ Some es → rises es ≡ true → All (IsLawfulEntry setup) es → views_from kept.setup (view_in kept) rows.cons rows.tables ≡ Some vs
    → AreAllLawful kept vs → AreLawfulRows setup rows
verdict_passed setup rows es kept vs is read up lawful views all_lawful =
    let setup_is : kept.setup ≡ setup = ap (λ (k : Kept). k.setup) is in
    let returns_are : kept.returns ≡ from_sorted es = ap (λ (k : Kept). k.returns) is ∙ same_returns es (sorted_from_rises es up) in
    let returns = returns_passed setup rows.returns rows.counts es read up lawful in
    let here : AreReturnsOf kept.setup rows.returns rows.counts kept.returns = subst (λ c. AreReturnsOf c rows.returns rows.counts kept.returns) (sym setup_is) (subst (AreReturnsOf setup rows.returns rows.counts) (sym returns_are) returns) in
    let keys = map key_of vs in
    let within = keys_within kept.setup vs (all_weaker _ (λ e. (con : Constituency) × (constituency_with e.0 kept.setup ≡ Some con)) (λ e h. (h.con, h.known)) vs (recursion_from_All (IsLawfulFound kept) vs all_lawful.each)) in
    let enough : length (constituency_codes kept.setup) ≤ length keys = omega (arith, length-map kept.setup (λ (con : Constituency). con.code), length-map vs key_of, all_lawful.many) in
    let all = office_passed kept rows vs here (views_are kept.setup (view_in kept) rows.cons rows.tables vs views) all_lawful.rise all_lawful.each (all_covered keys (constituency_codes kept.setup) (keys_apart vs (sorted_from_rises vs all_lawful.rise)) within enough) in
    subst (λ c. AreLawfulRows c rows) setup_is all

-- ---- rows that must pass

-- the returns of a lawful state with these rows
pub returns_of_state : (setup : List Constituency) (rows : RowsInOrder) (s : State) → IsLawfulState setup s → AreOfficeRows setup s rows → AreReturnsOf setup rows.returns rows.counts s.returns
returns_of_state setup rows s lawful h = record { lawful = lawful.stations; rows_are = h.returns; counts_are = h.counts }

pub must_read : (setup : List Constituency) (rows : RowsInOrder) (s : State) → IsSetup setup → IsLawfulState setup s → AreOfficeRows setup s rows
    → (entries_in setup rows.returns rows.counts ≡ Some (entries s.returns)) × (rises (entries s.returns) ≡ true) × All (IsLawfulEntry setup) (entries s.returns)
must_read setup rows s limits lawful h = returns_must_pass setup rows.returns rows.counts s.returns (stations_have_codes setup limits) (returns_of_state setup rows s lawful h)

entries_back : (m : Returns) → from_entries {R = text_cmp} (entries m) ≡ m
entries_back m = same_map text_total text_exact _ _ (λ q. get-from_entries text_total (entries m) q ∙ sym (get-entries m q))

pub known_state : (setup : List Constituency) (rows : RowsInOrder) (s : State) (kept : Kept) → kept ≡ record (opening_kept setup) { returns = from_entries (entries s.returns) } → IsSetup setup → ViewsAreLawful → IsLawfulState setup s
    → (h : AreOfficeRows setup s rows) → IsKnown setup s kept h.given
known_state setup rows s kept is limits views lawful h = record {
  setup_is = ap (λ (k : Kept). k.setup) is;
  returns_are = ap (λ (k : Kept). k.returns) is ∙ entries_back s.returns;
  limits = limits;
  lawful = lawful;
  views = views;
  allotted = h.allotted;
}

-- the constituency of each code has an entry
find_again : (code : List ℕ) (setup : List Constituency) → is_among_codes code (constituency_codes setup) ≡ true → is_some (constituency_with code setup) ≡ true
find_again code [] h = absurd (true≢false (sym h))
find_again code (c ∷ setup) h = go (bytes_eq code c.code) h (find_again code setup)
  where
    go : (b : Bool) → (b || is_among_codes code (constituency_codes setup)) ≡ true → (is_among_codes code (constituency_codes setup) ≡ true → is_some (constituency_with code setup) ≡ true) → is_some (cond b (Some c) (constituency_with code setup)) ≡ true
    go true h later = refl
    go false h later = later h

some_among : {X : Type 0} (code : List ℕ) (es : List (List ℕ × X)) → is_some (find text_cmp code es) ≡ true → is_among_codes code (map (λ e. e.0) es) ≡ true
some_among code [] h = absurd (true≢false (sym h))
some_among code (e ∷ es) h = go (bytes_eq code e.0) refl (some_among code es)
  where
    tied : bytes_eq code e.0 ≡ false → eq_by_cmp text_cmp code e.0 ≡ false
    tied differs = false_from_ne_true _ (λ t. true≢false (sym ((bytes_eq-Decides code e.0).1 (text_exact code e.0 (equal_is _ t))) ∙ differs))

    go : (b : Bool) → bytes_eq code e.0 ≡ b → (is_some (find text_cmp code es) ≡ true → is_among_codes code (map (λ x. x.0) es) ≡ true) → (b || is_among_codes code (map (λ x. x.0) es)) ≡ true
    go true is later = refl
    go false is later = later (ap is_some (sym (ap (λ t. cond t (Some e.1) (find text_cmp code es)) (tied is))) ∙ h)

codes_within : (setup : List Constituency) (s : State) → ((code : List ℕ) → is_some (get s.cons code) ≡ is_some (constituency_with code setup)) → (cons : List Constituency) → ((code : List ℕ) → is_among_codes code (constituency_codes cons) ≡ true → is_among_codes code (constituency_codes setup) ≡ true)
    → AreWithin (constituency_codes cons) (map (λ (e : List ℕ × ConState). e.0) (entries s.cons))
codes_within setup s known [] from = tt
codes_within setup s known (con ∷ cons) from =
    let here = from con.code (ap (λ b. b || is_among_codes con.code (constituency_codes cons)) ((bytes_eq-Decides con.code con.code).1 refl)) in (
      some_among con.code (entries s.cons) (ap is_some (sym (get-entries s.cons con.code)) ∙ known con.code ∙ find_again con.code setup here),
      codes_within setup s known cons (λ code is. from code (later code is)),
    )
  where
    later : (code : List ℕ) → is_among_codes code (constituency_codes cons) ≡ true → is_among_codes code (constituency_codes (con ∷ cons)) ≡ true
    later code is = go (bytes_eq code con.code)
      where
        go : (b : Bool) → (b || is_among_codes code (constituency_codes cons)) ≡ true
        go true = refl
        go false = is

rises_again : (setup : List Constituency) (s : State) (given : List ℕ → List ℕ) (es : List (List ℕ × ConState)) → rises (map (view_entry setup s given) es) ≡ rises es
rises_again setup s given [] = refl
rises_again setup s given (a ∷ []) = refl
rises_again setup s given (a ∷ b ∷ es) = ap (λ t. is_lt (text_cmp a.0 b.0) && t) (rises_again setup s given (b ∷ es))

all_mapped : {X Y : Type 0} (P : Y → Type 0) (f : X → Y) (xs : List X) → AllByRecursion (λ x. P (f x)) xs → AllByRecursion P (map f xs)
all_mapped P f [] h = tt
all_mapped P f (x ∷ xs) h = (h.0, all_mapped P f xs h.1)

-- what the rows of a lawful state read as, and that it passes
pub must_view : (setup : List Constituency) (rows : RowsInOrder) (s : State) (kept : Kept) (h : AreOfficeRows setup s rows) → IsKnown setup s kept h.given
    → (views_from kept.setup (view_in kept) rows.cons rows.tables ≡ Some (views_of setup s h.given)) × AreAllLawful kept (views_of setup s h.given)
must_view setup rows s kept h k =
    let es = entries s.cons in
    let vs = views_of setup s h.given in
    let entry = view_entry setup s h.given in
    let held = all_held setup s k.lawful.known in
    let sorted = entries_sorted s.cons in
    let rise : rises vs ≡ true = rises_again setup s h.given es ∙ rises_from_sorted es sorted in
    let readable = all_mapped (IsReadableFound kept.setup (view_in kept)) entry es (all_weaker _ _ (λ e is. readable_found setup s kept h.given k e is) es held) in
    let found = all_mapped (IsLawfulFound kept) entry es (all_weaker _ _ (λ e is. lawful_found setup s kept h.given k e is) es held) in
    let rows_are = rows_of_state setup s rows k.lawful.known h in
    let keys = map (λ (e : List ℕ × ConState). e.0) es in
    let codes = constituency_codes setup in
    let within : AreWithin keys codes = keys_within setup es (all_weaker _ _ (λ e (is : IsHeld setup s e). (is.con, is.known)) es held) in
    let covered : AreWithin codes keys = codes_within setup s k.lawful.known setup (λ con is. is) in
    let long : length vs ≡ length setup =
    omega (arith, length-map es entry, length-map es (λ (e : List ℕ × ConState). e.0), length-map setup (λ (con : Constituency). con.code), no_more keys codes (keys_apart es sorted) within, no_more codes keys (apart_from_distinct codes k.limits.codes) covered) in (
      ap₂ (views_from kept.setup (view_in kept)) rows_are.rows_are rows_are.tables_are ∙ views_again kept.setup (view_in kept) vs readable (keys_rise vs (sorted_from_rises vs rise)),
      record { many = long ∙ ap length (sym k.setup_is); rise = rise; each = All-from_recursion (IsLawfulFound kept) vs found },
    )

-- ---- by what the functions answered

pub must_read_some : (setup : List Constituency) (rows counts : List Row) (returns : Returns) → IsSetup setup → None ≡ entries_in setup rows counts → AreReturnsOf setup rows counts returns → ⊥
must_read_some setup rows counts returns limits is h =
    let read = returns_must_pass setup rows counts returns (stations_have_codes setup limits) h in
    let k = is ∙ read.0 in cc

same_read : (setup : List Constituency) (rows counts : List Row) (returns : Returns) (es : List (List ℕ × StationReturn)) → IsSetup setup → Some es ≡ entries_in setup rows counts → AreReturnsOf setup rows counts returns → entries returns ≡ es
same_read setup rows counts returns es limits is h =
    let read = returns_must_pass setup rows counts returns (stations_have_codes setup limits) h in
    let k = sym read.0 ∙ sym is in cc

pub must_rise : (setup : List Constituency) (rows counts : List Row) (returns : Returns) (es : List (List ℕ × StationReturn)) → IsSetup setup → Some es ≡ entries_in setup rows counts → AreReturnsOf setup rows counts returns
    → (rises es ≡ true) × All (IsLawfulEntry setup) es
must_rise setup rows counts returns es limits is h =
    let read = returns_must_pass setup rows counts returns (stations_have_codes setup limits) h in
    subst (λ (x : List (List ℕ × StationReturn)). (rises x ≡ true) × All (IsLawfulEntry setup) x) (same_read setup rows counts returns es limits is h) (read.1, read.2)

-- the returns that are kept are those of each lawful state with these rows
pub returns_back : (setup : List Constituency) (rows : RowsInOrder) (es : List (List ℕ × StationReturn)) (kept : Kept) (s : State) → IsSetup setup → kept ≡ record (opening_kept setup) { returns = from_entries es }
    → Some es ≡ entries_in setup rows.returns rows.counts → IsLawfulState setup s → AreOfficeRows setup s rows → kept.returns ≡ s.returns
returns_back setup rows es kept s limits is read lawful of_rows =
    ap (λ (k : Kept). k.returns) is ∙ ap (from_entries {R = text_cmp}) (sym (same_read setup rows.returns rows.counts s.returns es limits read (returns_of_state setup rows s lawful of_rows))) ∙ entries_back s.returns

pub must_be_lawful : (setup : List Constituency) (rows : RowsInOrder) (kept : Kept) → IsSetup setup → ViewsAreLawful → IsLedgerOf setup rows.returns rows.counts kept → AreLawfulRows setup rows → AreLawfulCons kept rows.cons rows.tables
must_be_lawful setup rows kept limits views ledger h =
    let same = same_read setup rows.returns rows.counts h.0.returns ledger.es limits ledger.entries.read (returns_of_state setup rows h.0 h.1 h.2) in
    let known = known_state setup rows h.0 kept (ledger.kept_is ∙ ap (kept_of setup) (sym same)) limits views h.1 h.2 in
    let found = must_view setup rows h.0 kept h.2 known in
    (views_of setup h.0 h.2.given, found.0, found.1)

-- what was read is lawful, where it is what was read of rows of lawful constituencies
pub found_lawful : (kept : Kept) (cons : List Row) (tables : Tables) (vs : List (List ℕ × View)) → Some vs ≡ views_from kept.setup (view_in kept) cons tables → AreLawfulCons kept cons tables → AreAllLawful kept vs
found_lawful kept cons tables vs is h =
    let same : h.0 ≡ vs = (let k = sym h.1 ∙ sym is in cc) in
    subst (AreAllLawful kept) same h.2

pub not_found_lawful : (kept : Kept) (cons : List Row) (tables : Tables) → None ≡ views_from kept.setup (view_in kept) cons tables → AreLawfulCons kept cons tables → ⊥
not_found_lawful kept cons tables is h = let k = is ∙ h.1 in cc

pub rows_passed : (setup : List Constituency) (rows : RowsInOrder) (kept : Kept) → IsLedgerOf setup rows.returns rows.counts kept → AreLawfulCons kept rows.cons rows.tables → AreLawfulRows setup rows
rows_passed setup rows kept ledger h = verdict_passed setup rows ledger.es kept h.0 ledger.kept_is (sym ledger.entries.read) ledger.entries.rise ledger.entries.lawful h.1 h.2
