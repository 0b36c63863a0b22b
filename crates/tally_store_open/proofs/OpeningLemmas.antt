-- The tables of the opening state.
use Rattle.std.proofs.Common.{◌≡◌, Result, Ok, Err, OnOk, ◌≢◌, ℕ, Bool, true, false, cond, Some, None, List, [], ◌∷◌, ◌++◌, length, map, inl, inr, refl, sym, ap, subst, ◌∙◌, arith, append-nil}
use Rattle.std.specs.FinMap.{FinMap, empty, entries, find, get, get-empty, get-from_entries, insert, len-empty, len-entries}
use Rattle.std.specs.List.{flat_map}
use Rattle.std.specs.List.Sorted.{IsPermutation}
use Rattle.std.specs.Option.{option_map_or}
use Rattle.std.specs.Ordering.{eq_by_cmp, nat_cmp}
use Rattle.std.specs.Prelude.{option_to_list, unwrap_or}
use Rattle.std.proofs.lemmas.List.Sorted.{IsPermutation-refl, IsPermutation-sym, IsPermutation-cons, IsPermutation-trans}
use Rattle.std.proofs.lemmas.Map.Text.{is_eq-slice_cmp}
use Rattle.sqlite_keyed.proofs.ListLemmas.{IsPermutation-flat_map}
use Rattle.sqlite_value.specs.Order.{Row}
use Rattle.sqlite.specs.declared.error.Error.{Error}
use Rattle.sqlite.specs.State.{State as Seen}
use Rattle.tally_store_schema.specs.Rows.{text_cmp, cells, AreRowsOf}
use Rattle.tally_store_schema.proofs.EntryLemmas.{other_entries, inserted}
use Rattle.tally_store_schema.proofs.RowsLemmas.{text_total, text_exact, none_then_all, with_key_is}
use Rattle.tally_setup.specs.Constituency.{Constituency}
use Rattle.tally_setup.specs.Limits.{IsSetup}
use Rattle.tally_rules.specs.Reading.{setup_of_text}
use Rattle.tally_setup.specs.Setup.{constituency_with}
use Rattle.tally_setup.specs.declared.constituency.Station.{Station}
use Rattle.tally_returns.specs.Counts.{VoteCounts}
use Rattle.tally_returns.specs.State.{ConState, con_state, opening, opening_con, opening_cons}
use Rattle.tally_returns.specs.Return.{StationReturn}
use Rattle.tally_returns.specs.View.{blank_of, closed_counts, counts_if_closed, spoiled_of, view_of, votes_of_lists}
use Rattle.tally_machine_law.specs.Outcome.{HasSeats}
use Rattle.tally_setup.proofs.NamedLemmas.{Apart, Differ, Has, cons-differ, con-only}
use Rattle.tally_store_schema.specs.Made.{HasEmptyTables}
use Rattle.tally_store_schema.specs.declared.table.KeyedTable.{KeyedTable}
use Rattle.tally_store_schema.specs.declared.table.KeyedTable.TheVariants.{Returns, Counts, Cons, Lots, Seats, Gone, Totals, Past}
use Rattle.tally_store_schema.specs.Office.{PutsSetup, rows_in, tree_of}
use Rattle.tally_store_rows.specs.Cells.{con_rows, gone_rows, item_row, items_of, lot_rows, past_rows, record_rows, seat_rows, total_rows}
use Rattle.tally_store_open.specs.internal.Making.{AddsCons, IsMade, opening_row, opening_totals}
use Rattle.tally_store_open.proofs.EmptyLemmas.{tree_empty}
use Rattle.tally_store_open.proofs.WholeLemmas.{whole_inside}

abbrev pair : Constituency → List ℕ × ConState
pair con = (con.code, opening_con)

abbrev code_of_con : Constituency → List ℕ
code_of_con con = con.code

-- ---- the entries of the opening state

no_rows : {X : Type 0} (xs : List X) → length xs ≡ 0 → xs ≡ []
no_rows [] h = refl
no_rows (x ∷ xs) h = absurd (omega arith)

no_entries : {X : Type 0} → entries (empty {X = X} {R = text_cmp}) ≡ []
no_entries {X} = no_rows _ (sym (len-entries empty) ∙ len-empty text_cmp X)

none_of : (con : Constituency) (cons : List Constituency) → Apart code_of_con con.code cons → find text_cmp con.code (map pair cons) ≡ None
none_of con [] apart = refl
none_of con (c ∷ cons) apart = ap (λ b. cond b (Some opening_con) (find text_cmp con.code (map pair cons))) (is_eq-slice_cmp con.code c.code ∙ apart.0) ∙ none_of con cons apart.1

no_others : (m : FinMap text_cmp ConState) (k : List ℕ) → get m k ≡ None → other_entries text_total text_exact k (entries m) ≡ entries m
no_others m k none = none_then_all (λ e. eq_by_cmp text_cmp k e.0) (entries m) (with_key_is m k ∙ ap (λ o. map (λ v. (k, v)) (option_to_list o)) none)

opening_entries : (cons : List Constituency) → Differ code_of_con cons → IsPermutation (map pair cons) (entries (opening_cons cons))
opening_entries [] differ = subst (IsPermutation []) (sym no_entries) (IsPermutation-refl [])
opening_entries (con ∷ cons) differ =
    let before = opening_cons cons in
    let none : get before con.code ≡ None = get-from_entries text_total (map pair cons) con.code ∙ none_of con cons differ.0 in
    let put : IsPermutation ((con.code, opening_con) ∷ entries before) (entries (insert before con.code opening_con)) =
    subst (λ l. IsPermutation ((con.code, opening_con) ∷ l) (entries (insert before con.code opening_con))) (no_others before con.code none) (inserted text_total text_exact before con.code opening_con) in
    IsPermutation-trans _ _ _ (IsPermutation-cons (pair con) _ _ (opening_entries cons differ.1)) put

-- ---- tables by constituencies

-- a table that has these rows for each constituency
by_cons : (rows_of : List ℕ × ConState → List Row) (setup : List Constituency) (tree : List Row) → Differ code_of_con setup
    → IsPermutation (flat_map rows_of (map pair setup)) (cells tree) → AreRowsOf rows_of (opening_cons setup) tree
by_cons rows_of setup tree differ rows =
    record { each = IsPermutation-trans _ _ _ (IsPermutation-sym _ _ (IsPermutation-flat_map rows_of _ _ (opening_entries setup differ))) rows }

none_by_cons : (rows_of : List ℕ × ConState → List Row) (setup : List Constituency) (tree : List Row) → Differ code_of_con setup
    → ((con : Constituency) → rows_of (pair con) ≡ []) → tree ≡ [] → AreRowsOf rows_of (opening_cons setup) tree
none_by_cons rows_of setup tree differ none empty =
    by_cons rows_of setup tree differ (subst (IsPermutation (flat_map rows_of (map pair setup))) (sym (ap cells empty)) (subst (λ l. IsPermutation l []) (sym (all_none setup)) (IsPermutation-refl [])))
  where
    all_none : (cons : List Constituency) → flat_map rows_of (map pair cons) ≡ []
    all_none [] = refl
    all_none (con ∷ cons) = ap (λ l. l ++ flat_map rows_of (map pair cons)) (none con) ∙ all_none cons

none_by_returns : (rows_of : List ℕ × StationReturn → List Row) (tree : List Row) → tree ≡ [] → AreRowsOf rows_of empty tree
none_by_returns rows_of tree none = record { each = rw (no_entries {X = StationReturn}, none) (IsPermutation-refl []) }

-- ---- the rows of `cons` and `totals`

con_rows_are : (setup : List Constituency) → flat_map con_rows (map pair setup) ≡ map opening_row setup
con_rows_are [] = refl
con_rows_are (con ∷ setup) = ap (λ l. opening_row con ∷ l) (con_rows_are setup)

none_closed : (stations : List Station) → closed_counts empty stations ≡ []
none_closed [] = refl
none_closed (x ∷ stations) = ap (λ found. counts_if_closed found ++ closed_counts empty stations) (get-empty text_cmp x.code) ∙ none_closed stations

abbrev sums_of : Constituency → List VoteCounts → VoteCounts
sums_of con counts = record { votes = votes_of_lists (length con.lists) counts; blank = blank_of counts; spoiled = spoiled_of counts }

opening_totals_are : (setup : List Constituency) (con : Constituency) → constituency_with con.code setup ≡ Some con → total_rows setup empty (pair con) ≡ opening_totals con
opening_totals_are setup con found =
    ap (λ o. map (item_row con.code) (items_of (option_map_or (λ (c : Constituency). sums_of c (closed_counts empty c.stations)) o (record { votes = []; blank = 0; spoiled = 0 })))) found
    ∙ ap (λ counts. map (item_row con.code) (items_of (sums_of con counts))) (none_closed con.stations)

all_totals_are : (setup cons : List Constituency) → IsSetup setup → ((con : Constituency) → Has con cons → Has con setup) → flat_map (total_rows setup empty) (map pair cons) ≡ flat_map opening_totals cons
all_totals_are setup [] limits within = refl
all_totals_are setup (con ∷ cons) limits within =
    let first = opening_totals_are setup con (con-only setup con limits (within con (inl refl))) in
    let rest = all_totals_are setup cons limits (λ c has. within c (inr has)) in
    ap (λ l. l ++ flat_map (total_rows setup empty) (map pair cons)) first ∙ ap (λ l. opening_totals con ++ l) rest

-- ---- all tables

-- no constituency is certified
found_each : (setup : List Constituency) (code : List ℕ) → unwrap_or (find text_cmp code (map pair setup)) opening_con ≡ opening_con
found_each [] code = refl
found_each (con ∷ setup) code = go (eq_by_cmp text_cmp code con.code) (found_each setup code)
  where
    go : (b : Bool) → unwrap_or (find text_cmp code (map pair setup)) opening_con ≡ opening_con → unwrap_or (cond b (Some opening_con) (find text_cmp code (map pair setup))) opening_con ≡ opening_con
    go true later = refl
    go false later = later

opens_so : (setup : List Constituency) (code : List ℕ) → con_state (opening setup) code ≡ opening_con
opens_so setup code = ap (λ found. unwrap_or found opening_con) (get-from_entries text_total (map pair setup) code) ∙ found_each setup code

no_past : (con : Constituency) → past_rows (pair con) ≡ []
no_past con = ap (flat_map (record_rows con.code)) (no_rows _ (sym (len-entries empty) ∙ len-empty nat_cmp (List ℕ)))

abbrev seats_none : List ℕ → List ℕ
seats_none code = []

office_made : (setup : List Constituency) (text : List ℕ) (empty_tables set made : Seen) → setup_of_text text ≡ Ok setup → IsSetup setup → HasEmptyTables 9 empty_tables → PutsSetup 2 text empty_tables set → AddsCons setup set made → IsMade setup text made
office_made setup text old set made reads limits none row added = record {
  inside = added.inside;
  whole = whole_inside setup text (opening setup) made reads added.inside (record {
    given = seats_none;
    allotted = λ code con found. subst (HasSeats con (view_of con (opening setup) [])) (sym (ap (λ (c : ConState). c.certified) (opens_so setup con.code))) refl;
    setup_is = added.setup ∙ row.setup;
    returns = none_by_returns _ _ (left Returns (λ e. omega arith) (λ e. omega arith));
    counts = none_by_returns _ _ (left Counts (λ e. omega arith) (λ e. omega arith));
    cons = by_cons con_rows setup _ differ (subst (λ l. IsPermutation l (rows_in Cons made)) (sym (con_rows_are setup))
        (subst (λ l. IsPermutation l (rows_in Cons made)) (first_rows Cons (map opening_row setup)) added.rows));
    lots = none_by_cons lot_rows setup _ differ (λ con. refl) (left Lots (λ e. omega arith) (λ e. omega arith));
    seats = none_by_cons (seat_rows seats_none) setup _ differ (λ con. refl) (left Seats (λ e. omega arith) (λ e. omega arith));
    gone = none_by_cons gone_rows setup _ differ (λ con. ap (map _) no_entries) (left Gone (λ e. omega arith) (λ e. omega arith));
    totals = by_cons (total_rows setup empty) setup _ differ (subst (λ l. IsPermutation l (rows_in Totals made)) (sym (all_totals_are setup setup limits (λ con has. has)))
        (subst (λ l. IsPermutation l (rows_in Totals made)) (first_rows Totals (flat_map opening_totals setup)) added.totals));
    past = none_by_cons past_rows setup _ differ (λ con. no_past con) (left Past (λ e. omega arith) (λ e. omega arith));
  });
}
  where
    differ : Differ code_of_con setup
    differ = cons-differ setup limits

    left : (t : KeyedTable) → tree_of t ≢ tree_of Cons → tree_of t ≢ tree_of Totals → made.now.trees (tree_of t) ≡ []
    left t con total = added.others t con total ∙ row.others t ∙ tree_empty old none t

    first_rows : (t : KeyedTable) (rows : List Row) → rows ++ rows_in t set ≡ rows
    first_rows t rows = ap (λ l. rows ++ cells l) (row.others t ∙ tree_empty old none t) ∙ append-nil rows

pub office_last : (setup : List Constituency) (text : List ℕ) (old set made : Seen) (r : Result Unit Error) → setup_of_text text ≡ Ok setup → IsSetup setup → HasEmptyTables 9 old → PutsSetup 2 text old set → OnOk r (AddsCons setup set made) → OnOk r (IsMade setup text made)
office_last setup text old set made (Ok done) reads limits none row added = office_made setup text old set made reads limits none row added
office_last setup text old set made (Err e) reads limits none row added = tt
