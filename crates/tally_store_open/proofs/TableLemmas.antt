-- What queries answer of the whole tables of a lawful state, and which tables answer such rows.
use Rattle.std.proofs.Common.{◌≡◌, ◌≤◌, ◌+◌, ℕ, zero, suc, true, Option, Some, None, List, [], ◌∷◌, length, map, refl, sym, ap, subst, ◌∙◌, true≢false, arith}
use Rattle.std.specs.Prelude.{All, is_some, option_map, unwrap_or}
use Rattle.std.specs.FinMap.{FinMap, entries, entries_sorted, get, get-entries}
use Rattle.std.specs.List.{AllByRecursion, flat_map, range_with_len}
use Rattle.std.specs.List.Sorted.{IsPermutation}
use Rattle.std.specs.Option.{option_map_or}
use Rattle.std.specs.Ordering.{nat_cmp}
use Rattle.std.proofs.lemmas.Bool.{and_parts, eqb-true}
use Rattle.std.proofs.lemmas.List.Elements.{recursion_from_All}
use Rattle.std.proofs.lemmas.List.Sorted.{IsPermutation-sym}
use Rattle.sqlite_keyed.proofs.ListLemmas.{all_weaker}
use Rattle.sqlite_value.specs.Order.{Row}
use Rattle.sqlite.specs.State.{State as Seen}
use Rattle.tally_store_schema.specs.Rows.{AreRowsOf, text_cmp}
use Rattle.tally_store_schema.proofs.RowsLemmas.{keys_rise}
use Rattle.tally_setup.specs.Constituency.{Constituency}
use Rattle.tally_setup.specs.Limits.{IsSetup}
use Rattle.tally_setup.specs.Setup.{constituency_with, station_with}
use Rattle.tally_setup.specs.declared.constituency.Station.{Station}
use Rattle.tally_returns.specs.Counts.{VoteCounts}
use Rattle.tally_returns.specs.Decide.{limits_of}
use Rattle.tally_returns.specs.Lawful.{IsLawfulAt}
use Rattle.tally_returns.specs.Lodge.{StationLimits}
use Rattle.tally_returns.specs.Return.{StationReturn, Returns}
use Rattle.tally_returns.specs.State.{ConState, State, con_state, opening_con}
use Rattle.tally_returns.specs.View.{blank_of, closed_counts, spoiled_of, votes_at, votes_of_lists}
use Rattle.tally_setup.proofs.NamedLemmas.{con-found, con-limits, station-found}
use Rattle.tally_machine_law.specs.LawfulState.{IsLawfulState, IsUnderPlaces}
use Rattle.tally_store_schema.specs.Cells.{setup_row}
use Rattle.tally_store_schema.specs.Tables.{setup_tree}
use Rattle.tally_store_schema.specs.declared.table.KeyedTable.{KeyedTable}
use Rattle.tally_store_schema.specs.declared.table.KeyedTable.TheVariants.{Returns as Heads, Counts, Cons, Lots, Seats, Gone, Totals, Past}
use Rattle.tally_store_schema.specs.Office.{AreInOrder, ShowsTable, rows_in, tree_of}
use Rattle.tally_store_rows.specs.Cells.{con_rows, count_rows, gone_rows, items_of, lot_rows, numbers_with_places, past_rows, return_rows, seat_rows, total_rows, totals_of}
use Rattle.tally_store_rows.specs.TablesOfState.{AreTables, version}
use Rattle.tally_store_open.specs.OfficeRows.{AreOfficeRows, RowsInOrder}
use Rattle.tally_store_open.proofs.EntriesLemmas.{each_found}
use Rattle.tally_store_open.specs.internal.Opening.{ShowsOffice}
use Rattle.tally_store_open.proofs.OrderLemmas.{counted_rise, counts_items, in_order, items_in_order, lots_items, numbered_rise, seats_items, totals_items}
use Rattle.tally_store_open.proofs.ShownLemmas.{gone_in_order, gone_keyed, items_keyed, past_in_order, past_keyed, sorted_rise}

-- the sums of the closed returns of a constituency
abbrev sums_with : Returns → Constituency → VoteCounts
sums_with returns con = record { votes = votes_of_lists (length con.lists) (closed_counts returns con.stations); blank = blank_of (closed_counts returns con.stations); spoiled = spoiled_of (closed_counts returns con.stations) }

-- ---- each table of a lawful state

for_each : {X : Type 0} (P : X → Type 0) → ((x : X) → P x) → (xs : List X) → AllByRecursion P xs
for_each P each [] = tt
for_each P each (x ∷ xs) = (each x, for_each P each xs)

-- the entries of a map, each found under its key
all_found : {X : Type 0} (m : FinMap text_cmp X) → AllByRecursion (λ e. get m e.0 ≡ Some e.1) (entries m)
all_found m = all_weaker _ (λ e. get m e.0 ≡ Some e.1) (λ e is. get-entries m e.0 ∙ is) (entries m) (each_found (entries m) (keys_rise (entries m) (entries_sorted m)))

few_lists : (setup : List Constituency) (code : List ℕ) (con : Constituency) → IsSetup setup → constituency_with code setup ≡ Some con → length con.lists ≤ 60
few_lists setup code con limits found = (con-limits setup con limits (con-found setup code con found).1).lists

few_votes : (setup : List Constituency) (station : List ℕ) (standing : StationReturn) → IsSetup setup → IsLawfulAt setup station standing → length standing.counts.votes ≤ 60
few_votes setup station standing limits lawful = go (station_with station setup) refl lawful.1
  where
    lists : length standing.counts.votes ≡ lawful.0.lists
    lists = eqb-true (length standing.counts.votes) lawful.0.lists (and_parts _ _ (and_parts _ _ (and_parts _ _ lawful.2.counts).0).0).0

    go : (found : Option (Constituency × Station)) → station_with station setup ≡ found → option_map (λ (place : Constituency × Station). limits_of place.0 place.1) found ≡ Some lawful.0 → length standing.counts.votes ≤ 60
    go None at some = let e = some in cc
    go (Some place) at some =
        let same : limits_of place.0 place.1 ≡ lawful.0 = cc in
        let many : length place.0.lists ≡ lawful.0.lists = ap (λ (l : StationLimits). l.lists) same in
        let few = (con-limits setup place.0 limits (station-found setup station place.0 place.1 at).0).lists in
        omega (arith, lists, many, few)

few_sums : (setup : List Constituency) (returns : Returns) (code : List ℕ) → IsSetup setup → length (totals_of setup returns code).votes ≤ 60
few_sums setup returns code limits = go (constituency_with code setup) refl
  where
    long : (n a : ℕ) (f : ℕ → ℕ) → length (map f (range_with_len a n)) ≡ n
    long zero a f = refl
    long (suc n) a f = ap suc (long n (a + 1) f)

    go : (found : Option Constituency) → constituency_with code setup ≡ found → length (totals_of setup returns code).votes ≤ 60
    go None at = subst (λ o. length (option_map_or (sums_with returns) o (record { votes = []; blank = 0; spoiled = 0 })).votes ≤ 60) (sym at) (omega arith)
    go (Some con) at =
        let few = few_lists setup code con limits at in
        let many : length (sums_with returns con).votes ≡ length con.lists = long (length con.lists) 0 (votes_at (closed_counts returns con.stations)) in
        subst (λ o. length (option_map_or (sums_with returns) o (record { votes = []; blank = 0; spoiled = 0 })).votes ≤ 60) (sym at) (omega (arith, few, many))

module _ (setup : List Constituency) (s : State) (limits : IsSetup setup) (lawful : IsLawfulState setup s) where
  heads_in_order : AreInOrder Heads (flat_map (return_rows setup) (entries s.returns))
  heads_in_order = in_order Heads (return_rows setup) (λ e. (refl, tt)) s.returns (for_each _ (λ e. record { whole = (refl, tt); rising = (tt, tt) }) (entries s.returns))

  counts_in_order : AreInOrder Counts (flat_map count_rows (entries s.returns))
  counts_in_order =
      in_order Counts count_rows (λ e. items_keyed e.0 (items_of e.1.counts)) s.returns
      (all_weaker _ (λ e. AreInOrder Counts (count_rows e))
      (λ e found. items_in_order Counts counts_items e.0 (items_of e.1.counts) (counted_rise e.1.counts.blank e.1.counts.spoiled e.1.counts.votes (few_votes setup e.0 e.1 limits (lawful.stations e.0 e.1 found))))
      (entries s.returns) (all_found s.returns))

  cons_in_order : AreInOrder Cons (flat_map con_rows (entries s.cons))
  cons_in_order = in_order Cons con_rows (λ e. (refl, tt)) s.cons (for_each _ (λ e. record { whole = (refl, tt); rising = (tt, tt) }) (entries s.cons))

  lots_in_order : AreInOrder Lots (flat_map lot_rows (entries s.cons))
  lots_in_order = in_order Lots lot_rows (λ e. items_keyed e.0 (numbers_with_places 1 e.1.lot)) s.cons (for_each _ (λ e. items_in_order Lots lots_items e.0 (numbers_with_places 1 e.1.lot) (numbered_rise 1 e.1.lot)) (entries s.cons))

  seats_in_order : (given : List ℕ → List ℕ) → AreInOrder Seats (flat_map (seat_rows given) (entries s.cons))
  seats_in_order given =
      in_order Seats (seat_rows given) (λ e. items_keyed e.0 (numbers_with_places 1 (given e.0))) s.cons
      (for_each _ (λ e. items_in_order Seats seats_items e.0 (numbers_with_places 1 (given e.0)) (numbered_rise 1 (given e.0))) (entries s.cons))

  under_places : (e : List ℕ × ConState) → get s.cons e.0 ≡ Some e.1 → All IsUnderPlaces (entries e.1.gone)
  under_places e found = go (constituency_with e.0 setup) refl (sym (lawful.known e.0) ∙ ap is_some found)
    where
      go : (o : Option Constituency) → constituency_with e.0 setup ≡ o → is_some o ≡ true → All IsUnderPlaces (entries e.1.gone)
      go None at some = absurd (true≢false (sym some))
      go (Some con) at some =
          let own = (con-found setup e.0 con at).0 in
          let is : con_state s con.code ≡ e.1 = ap (λ o. unwrap_or o opening_con) (ap (get s.cons) (sym own) ∙ found) in
          subst (λ (c : ConState). All IsUnderPlaces (entries c.gone)) is (lawful.cons e.0 con at).gone

  gone_rows_in_order : AreInOrder Gone (flat_map gone_rows (entries s.cons))
  gone_rows_in_order =
      in_order Gone gone_rows (λ e. gone_keyed e.0 (entries e.1.gone)) s.cons
      (all_weaker _ (λ e. AreInOrder Gone (gone_rows e))
      (λ e found. gone_in_order e.0 (entries e.1.gone) (sorted_rise text_cmp (entries e.1.gone) (entries_sorted e.1.gone)) (recursion_from_All IsUnderPlaces (entries e.1.gone) (under_places e found))) (entries s.cons) (all_found s.cons))

  totals_in_order : AreInOrder Totals (flat_map (total_rows setup s.returns) (entries s.cons))
  totals_in_order =
      in_order Totals (total_rows setup s.returns) (λ e. items_keyed e.0 (items_of (totals_of setup s.returns e.0))) s.cons
      (for_each _ (λ e. let sums = totals_of setup s.returns e.0 in items_in_order Totals totals_items e.0 (items_of sums) (counted_rise sums.blank sums.spoiled sums.votes (few_sums setup s.returns e.0 limits))) (entries s.cons))

  past_rows_in_order : AreInOrder Past (flat_map past_rows (entries s.cons))
  past_rows_in_order =
      in_order Past past_rows (λ e. past_keyed e.0 (entries e.1.past)) s.cons
      (for_each _ (λ e. past_in_order e.0 (entries e.1.past) (sorted_rise nat_cmp (entries e.1.past) (entries_sorted e.1.past))) (entries s.cons))

  -- what whole tables answer of a lawful state are its rows, in the order of the keys
  pub rows_of_tables : (text : List ℕ) (seen : Seen) (rows : RowsInOrder) → ShowsOffice seen rows → AreTables setup text s seen.now.trees → AreOfficeRows setup s rows
  rows_of_tables text seen rows shown tables = record {
    given = tables.given;
    allotted = tables.allotted;
    returns = shown.returns.in_order _ heads_in_order tables.returns.each;
    counts = shown.counts.in_order _ counts_in_order tables.counts.each;
    cons = shown.cons.in_order _ cons_in_order tables.cons.each;
    lots = shown.lots.in_order _ lots_in_order tables.lots.each;
    seats = shown.seats.in_order _ (seats_in_order tables.given) tables.seats.each;
    gone = shown.gone.in_order _ gone_rows_in_order tables.gone.each;
    totals = shown.totals.in_order _ totals_in_order tables.totals.each;
    past = shown.past.in_order _ past_rows_in_order tables.past.each;
  }

shown_rows : {X : Type 0} (rows_of : List ℕ × X → List Row) (m : FinMap text_cmp X) (t : KeyedTable) (seen : Seen) (answer : List Row) → ShowsTable t seen answer → answer ≡ flat_map rows_of (entries m) → AreRowsOf rows_of m (seen.now.trees (tree_of t))
shown_rows rows_of m t seen answer shown is = record { each = IsPermutation-sym _ _ (subst (IsPermutation (rows_in t seen)) is shown.same) }

-- the tables that answered the rows of a state are those of the state
pub tables_of_rows : (setup : List Constituency) (text : List ℕ) (s : State) (seen : Seen) (rows : RowsInOrder) → ShowsOffice seen rows → seen.now.trees setup_tree ≡ setup_row version text ∷ [] → AreOfficeRows setup s rows → AreTables setup text s seen.now.trees
tables_of_rows setup text s seen rows shown own h = record {
  given = h.given;
  allotted = h.allotted;
  setup_is = own;
  returns = shown_rows (return_rows setup) s.returns Heads seen rows.returns shown.returns h.returns;
  counts = shown_rows count_rows s.returns Counts seen rows.counts shown.counts h.counts;
  cons = shown_rows con_rows s.cons Cons seen rows.cons shown.cons h.cons;
  lots = shown_rows lot_rows s.cons Lots seen rows.tables.lots shown.lots h.lots;
  seats = shown_rows (seat_rows h.given) s.cons Seats seen rows.tables.seats shown.seats h.seats;
  gone = shown_rows gone_rows s.cons Gone seen rows.tables.gone shown.gone h.gone;
  totals = shown_rows (total_rows setup s.returns) s.cons Totals seen rows.tables.totals shown.totals h.totals;
  past = shown_rows past_rows s.cons Past seen rows.tables.past shown.past h.past;
}
