-- The view of a constituency is what its rows read as.
use Rattle.std.proofs.Common.{◌≡◌, ◌<◌, ◌≤◌, ◌+◌, ◌^◌, ℕ, Bool, true, false, true≢false, List, [], ◌∷◌, ◌++◌, map, length, Option, None, Some, Ok, Err, Result, IfOk, refl, sym, ap, ap₂, subst, ◌∙◌, arith}
use Rattle.std.specs.Prelude.{All, sum, is_some, slice_index, unwrap_or}
use Rattle.std.specs.FinMap.{entries, entries_sorted, get}
use Rattle.std.specs.List.{AllByRecursion, flat_map}
use Rattle.std.specs.Option.{option_map_or}
use Rattle.std.specs.Ordering.{nat_cmp}
use Rattle.std.proofs.lemmas.List.Elements.{recursion_from_All}
use Rattle.std.proofs.lemmas.List.FromFn.{length-map-range_with_len}
use Rattle.std.proofs.lemmas.List.Sums.{sum_by-cons}
use Rattle.sqlite_keyed.proofs.ListLemmas.{all_weaker}
use Rattle.sqlite_value.specs.Order.{Row}
use Rattle.sqlite.specs.declared.error.Error.{Error}
use Rattle.sqlite.specs.State.{State as Seen}
use Rattle.tally_store_schema.specs.Values.{number_of}
use Rattle.tally_store_schema.specs.Rows.{text_cmp}
use Rattle.tally_setup.specs.Constituency.{Constituency}
use Rattle.tally_setup.specs.Limits.{IsConstituency}
use Rattle.tally_setup.specs.Setup.{constituency_with}
use Rattle.tally_machine_law.specs.LawfulState.{IsLawfulIn, IsLawfulState, IsUnderPlaces}
use Rattle.tally_machine_law.specs.Outcome.{IsLawfulPast}
use Rattle.tally_machine_law.specs.Step.{IsView}
use Rattle.tally_returns.specs.Counts.{VoteCounts}
use Rattle.tally_returns.specs.GoneCandidate.{GoneCandidate}
use Rattle.tally_returns.specs.PastSeats.{PastSeats}
use Rattle.tally_returns.specs.Return.{Returns}
use Rattle.tally_returns.specs.State.{State, ConState, con_state, opening_con}
use Rattle.tally_returns.specs.View.{View, view_of, view_with, gone_candidate, gone_candidates, past_record, past_records, votes_at, votes_of_lists, closed_counts, blank_of, spoiled_of}
use Rattle.tally_store_schema.specs.declared.table.KeyedTable.TheVariants.{Cons, Lots, Seats, Gone, Totals, Past}
use Rattle.tally_store_schema.specs.Office.{IsFound}
use Rattle.tally_store_rows.specs.Cells.{con_rows, gone_row, gone_rows, items_of, lot_rows, numbers_with_places, past_rows, record_rows, seat_rows, total_rows, totals_of}
use Rattle.tally_store_rows.specs.Reading.{all_gone_of, numbers_from, past_of, standing_of, sums_of}
use Rattle.tally_store_rows.specs.TablesOfState.{AreTables}
use Rattle.tally_store_rows.specs.Views.{Tables, statuses_of, view_from_tables}
use Rattle.tally_store_rows.specs.declared.views.Statuses.{Statuses}
use Rattle.tally_store_rows.proofs.ConLemmas.{IsReadablePast, all_gone_are, all_gone_rows, all_past_again, all_past_rows, standing_row, sums_of_view}
use Rattle.tally_store_rows.proofs.ItemLemmas.{IsRead, and_then_some, items_are, map_some, number_is, number_reads, number_rows}
use Rattle.tally_store_entries.specs.internal.Constituencies.{FindsView, IsViewWith, with_past_of}
use Rattle.tally_store_entries.specs.internal.Found.{AreRowsFound, FindsKnownStatuses, IsFoundIf, Rows, view_of_rows}
use Rattle.tally_store_entries.specs.internal.Statuses.{statuses_in}
use Rattle.tally_store_entries.proofs.OrderLemmas.{gone_in_order, gone_keyed, lots_items, numbers_in_order, past_in_order, past_keyed, seats_items, sorted_rise, totals_in_order}
use Rattle.tally_store_entries.proofs.ReturnLemmas.{items_keyed}
use Rattle.tally_store_entries.proofs.ViewLemmas.{con_row_is, cons_keyed, found_rows, one_sums}

-- ---- what was read, part by part

record ReadsAs (con : Constituency) (statuses : Statuses) (row : Row) (tables : Tables) (v : View) : Type 0 where
  standing : standing_of con.code row ≡ Some (v.edition, v.certified, v.note)
  lots : numbers_from con.code 1 tables.lots ≡ Some v.lot
  seats : numbers_from con.code 1 tables.seats ≡ Some v.seats
  gone : all_gone_of con.code tables.gone ≡ Some v.gone
  totals : sums_of con.code tables.totals ≡ Some (sums_of_view v)
  past : past_of con.code (length con.lists) tables.past ≡ Some v.past
  statuses_are : statuses ≡ statuses_of v

reads_as : (con : Constituency) (statuses : Statuses) (row : Row) (tables : Tables) (v : View) → view_from_tables con statuses row tables ≡ Some v → ReadsAs con statuses row tables v
reads_as con statuses row tables v h =
    let standing = and_then_some _ (standing_of con.code row) v h in
    let lot = and_then_some _ (numbers_from con.code 1 tables.lots) v standing.2 in
    let seats = and_then_some _ (numbers_from con.code 1 tables.seats) v lot.2 in
    let gone = and_then_some _ (all_gone_of con.code tables.gone) v seats.2 in
    let sums = and_then_some _ (sums_of con.code tables.totals) v gone.2 in
    let past = map_some _ (past_of con.code (length con.lists) tables.past) v sums.2 in
    subst (ReadsAs con statuses row tables) past.2 (record { standing = standing.1; lots = lot.1; seats = seats.1; gone = gone.1; totals = sums.1; past = past.1; statuses_are = refl })

-- ---- rows that are those of one thing alone

same_numbers : (key : List ℕ) (first : ℕ) (ms ns : List ℕ) → number_rows key first ms ≡ number_rows key first ns → ms ≡ ns
same_numbers key first [] [] h = refl
same_numbers key first [] (n ∷ ns) h = absurd (let e = h in cc)
same_numbers key first (m ∷ ms) [] h = absurd (let e = h in cc)
same_numbers key first (m ∷ ms) (n ∷ ns) h =
    let one : m ≡ n = (let e = h in cc) in
    let rest : number_rows key (first + 1) ms ≡ number_rows key (first + 1) ns = (let e = h in cc) in
    ap₂ (λ x l. x ∷ l) one (same_numbers key (first + 1) ms ns rest)

one_numbers : (key : List ℕ) (rows : List Row) (ms ns : List ℕ) → rows ≡ number_rows key 1 ns → numbers_from key 1 rows ≡ Some ms → ms ≡ ns
one_numbers key rows ms ns is read = same_numbers key 1 ms ns (sym (items_are number_of number_is key 1 rows ms read) ∙ is)

same_gone : (key : List ℕ) (gone : List GoneCandidate) (es : List (List ℕ × List ℕ)) → all_gone_rows key gone ≡ map (gone_row key) es → gone ≡ map gone_candidate es
same_gone key [] [] h = refl
same_gone key [] (e ∷ es) h = absurd (let k = h in cc)
same_gone key (g ∷ gone) [] h = absurd (let k = h in cc)
same_gone key (g ∷ gone) (e ∷ es) h =
    let list : g.list ≡ slice_index e.0 0 = (let k = h in cc) in
    let place : g.place ≡ slice_index e.0 1 = (let k = h in cc) in
    let note : g.note ≡ e.1 = (let k = h in cc) in
    let rest : all_gone_rows key gone ≡ map (gone_row key) es = (let k = h in cc) in
    ap₂ (λ x l. x ∷ l) (λ i. record { list = list i; place = place i; note = note i }) (same_gone key gone es rest)

one_gone : (key : List ℕ) (rows : List Row) (gone : List GoneCandidate) (es : List (List ℕ × List ℕ)) → rows ≡ map (gone_row key) es → all_gone_of key rows ≡ Some gone → gone ≡ map gone_candidate es
one_gone key rows gone es is read = same_gone key gone es (sym (all_gone_are key rows gone read) ∙ is)

-- ---- certificates that were reopened

each_small : (ns : List ℕ) → sum ns < 2 ^ 32 → AllByRecursion (IsRead number_of) ns
each_small [] h = tt
each_small (n ∷ ns) h = (number_reads n (omega (arith, h, sum_by-cons (λ (x : ℕ). x) n ns)), each_small ns (omega (arith, h, sum_by-cons (λ (x : ℕ). x) n ns)))

past_small : (con : Constituency) (edition : ℕ) (p : PastSeats) → IsConstituency con → edition ≤ 9999 → IsLawfulPast con edition p → IsReadablePast (length con.lists) p
past_small con edition p limits last h = record { edition = omega (arith, h.before, last); seats = each_small p.seats (omega (arith, h.exactly, limits.seats)); long = h.lists }

past_rows_are : (key : List ℕ) (es : List (ℕ × List ℕ)) → flat_map (record_rows key) es ≡ all_past_rows key (map past_record es)
past_rows_are key [] = refl
past_rows_are key (e ∷ es) = ap (λ l. record_rows key e ++ l) (past_rows_are key es)

one_past : (con : Constituency) (edition : ℕ) (rows : List Row) (past : List PastSeats) (es : List (ℕ × List ℕ)) → IsConstituency con → edition ≤ 9999 → All (IsLawfulPast con edition) (map past_record es) → rows ≡ flat_map (record_rows con.code) es
    → past_of con.code (length con.lists) rows ≡ Some past → past ≡ map past_record es
one_past con edition rows past es limits last lawful is read =
    let fine = all_weaker _ (IsReadablePast (length con.lists)) (λ p own. past_small con edition p limits last own) (map past_record es) (recursion_from_All (IsLawfulPast con edition) (map past_record es) lawful) in
    let both : Some past ≡ Some (map past_record es) = sym read ∙ ap (past_of con.code (length con.lists)) (is ∙ past_rows_are con.code es) ∙ all_past_again con.code (length con.lists) (map past_record es) limits.some_list fine in
    (let e = both in cc)

-- ---- the sums

abbrev sums_with : Constituency → Returns → VoteCounts
sums_with con returns = record { votes = votes_of_lists (length con.lists) (closed_counts returns con.stations); blank = blank_of (closed_counts returns con.stations); spoiled = spoiled_of (closed_counts returns con.stations) }

totals_are : (setup : List Constituency) (con : Constituency) (returns : Returns) → constituency_with con.code setup ≡ Some con → totals_of setup returns con.code ≡ sums_with con returns
totals_are setup con returns known = ap (λ o. option_map_or (λ (c : Constituency). sums_with c returns) o (record { votes = []; blank = 0; spoiled = 0 })) known

few_votes : (con : Constituency) (returns : Returns) → IsConstituency con → length (sums_with con returns).votes ≤ 60
few_votes con returns limits = omega (arith, limits.lists, length-map-range_with_len (votes_at (closed_counts returns con.stations)) 0 (length con.lists))

-- ---- the view

abbrev row_of : List ℕ → ConState → Row
row_of key c = standing_row key (c.edition, c.certified, c.note)

one_row : (con : Constituency) (statuses : Statuses) (rows : Rows) (v : View) (row : Row) → rows.cons ≡ row ∷ [] → view_of_rows con statuses rows ≡ Some v → view_from_tables con statuses row rows.tables ≡ Some v
one_row con statuses rows v row is read = subst (λ l. view_of_rows con statuses (record { cons = l; tables = rows.tables }) ≡ Some v) is read

module _ (setup : List Constituency) (con : Constituency) (s : Seen) (text : List ℕ) (of : State) (limits : IsConstituency con) (known : constituency_with con.code setup ≡ Some con) (lawful : IsLawfulState setup of) (tables : AreTables setup text of s.now.trees) where
  view_but_past : (c : ConState) (with_past : Bool) (statuses : Statuses) (rows : Rows) (v : View) → get of.cons con.code ≡ Some c → AreRowsFound with_past con.code s rows → statuses ≡ statuses_in of.returns con.stations → ReadsAs con statuses (row_of con.code c) rows.tables v
      → record v { past = past_records c.past } ≡ view_with con c of.returns (tables.given con.code)
  view_but_past c with_past statuses found_here v there found counted read =
      let rows = found_here.tables in
      let key = con.code in
      let stands : con_state of key ≡ c = ap (λ o. unwrap_or o opening_con) there in
      let own : IsLawfulIn con of = lawful.cons key con known in
      let under : All IsUnderPlaces (entries c.gone) = subst (λ (x : ConState). All IsUnderPlaces (entries x.gone)) stands own.gone in
      let head = con_row_is key c (v.edition, v.certified, v.note) (row_of key c) refl read.standing in
      let lot : v.lot ≡ c.lot = one_numbers key rows.lots v.lot c.lot (found_rows Lots lot_rows (λ e. items_keyed e.0 (numbers_with_places 1 e.1.lot)) of.cons key s rows.lots c there tables.lots (numbers_in_order Lots lots_items key c.lot) found.lots) read.lots in
      let seats : v.seats ≡ tables.given key =
      one_numbers key rows.seats v.seats (tables.given key) (found_rows Seats (seat_rows tables.given) (λ e. items_keyed e.0 (numbers_with_places 1 (tables.given e.0))) of.cons key s rows.seats c there tables.seats (numbers_in_order Seats seats_items key (tables.given key)) found.seats) read.seats in
      let gone : v.gone ≡ gone_candidates c.gone =
      one_gone key rows.gone v.gone (entries c.gone)
      (found_rows Gone gone_rows (λ e. gone_keyed e.0 (entries e.1.gone)) of.cons key s rows.gone c there tables.gone (gone_in_order key (entries c.gone) (sorted_rise text_cmp (entries c.gone) (entries_sorted c.gone)) (recursion_from_All IsUnderPlaces (entries c.gone) under)) found.gone) read.gone in
      let known_sums : totals_of setup of.returns key ≡ sums_with con of.returns = totals_are setup con of.returns known in
      let few : length (totals_of setup of.returns key).votes ≤ 60 = subst (λ (x : VoteCounts). length x.votes ≤ 60) (sym known_sums) (few_votes con of.returns limits) in
      let sums : sums_of_view v ≡ sums_with con of.returns =
      one_sums key (sums_of_view v) (totals_of setup of.returns key) rows.totals
      (found_rows Totals (total_rows setup of.returns) (λ e. items_keyed e.0 (items_of (totals_of setup of.returns e.0))) of.cons key s rows.totals c there tables.totals (totals_in_order key (totals_of setup of.returns key) few) found.totals) read.totals
      ∙ known_sums in
      let numbers : statuses_of v ≡ statuses_in of.returns con.stations = sym read.statuses_are ∙ counted in
      λ i. record {
        edition = head.0 i;
        certified = head.1 i;
        note = head.2 i;
        lot = lot i;
        stations = (numbers i).stations;
        received = (numbers i).received;
        queried = (numbers i).queried;
        corrected = (numbers i).corrected;
        closed = (numbers i).closed;
        votes = (sums i).votes;
        blank = (sums i).blank;
        spoiled = (sums i).spoiled;
        seats = seats i;
        gone = gone i;
        past = past_records c.past;
      }

  past_is : (c : ConState) (statuses : Statuses) (rows : Rows) (v : View) → get of.cons con.code ≡ Some c → IsFound Past con.code s rows.tables.past → ReadsAs con statuses (row_of con.code c) rows.tables v → v.past ≡ past_records c.past
  past_is c statuses found_here v there found read =
      let rows = found_here.tables in
      let key = con.code in
      let stands : con_state of key ≡ c = ap (λ o. unwrap_or o opening_con) there in
      let own : IsLawfulIn con of = lawful.cons key con known in
      let last : c.edition ≤ 9999 = subst (λ (x : ConState). x.edition ≤ 9999) stands own.seen.last in
      let old_past : All (IsLawfulPast con c.edition) (map past_record (entries c.past)) = subst (λ (x : ConState). All (IsLawfulPast con x.edition) (past_records x.past)) stands own.seen.past in
      one_past con c.edition rows.past v.past (entries c.past) limits last old_past
      (found_rows Past past_rows (λ e. past_keyed e.0 (entries e.1.past)) of.cons key s rows.past c there tables.past (past_in_order key (entries c.past) (sorted_rise nat_cmp (entries c.past) (entries_sorted c.past))) found) read.past

  none_is : (c : ConState) (statuses : Statuses) (rows : Rows) (v : View) → rows.tables.past ≡ [] → ReadsAs con statuses (row_of con.code c) rows.tables v → v.past ≡ []
  none_is c statuses rows v none read =
      let both : Some [] ≡ Some v.past = sym (ap (past_of con.code (length con.lists)) none) ∙ read.past in (let e = both in cc)

  -- with the certificates on record, or without them
  view_with_past : (c : ConState) (with_past : Bool) (statuses : Statuses) (rows : Rows) (v : View) → get of.cons con.code ≡ Some c → AreRowsFound with_past con.code s rows → statuses ≡ statuses_in of.returns con.stations → ReadsAs con statuses (row_of con.code c) rows.tables v
      → IsViewWith with_past con of v
  view_with_past c with_past statuses rows v there found counted read =
      let stands : con_state of con.code ≡ c = ap (λ o. unwrap_or o opening_con) there in
      let given = tables.given con.code in
      let but : record v { past = past_records c.past } ≡ view_of con of given = view_but_past c with_past statuses rows v there found counted read ∙ ap (λ x. view_with con x of.returns given) (sym stands) in
      go with_past (subst (λ (x : ConState). record v { past = past_records x.past } ≡ view_of con of given) (sym stands) but) found.past
    where
      go : (b : Bool) → with_past_of con of v ≡ view_of con of (tables.given con.code) → IsFoundIf b Past con.code s rows.tables.past → IsViewWith b con of v
      go true but past =
          let stands : con_state of con.code ≡ c = ap (λ o. unwrap_or o opening_con) there in
          let own : v.past ≡ past_records (con_state of con.code).past = past_is c statuses rows v there past read ∙ ap (λ (x : ConState). past_records x.past) (sym stands) in
          let same : v ≡ view_of con of (tables.given con.code) = ap (λ (p : List PastSeats). record v { past = p }) own ∙ but in
          subst (IsView con of) (sym same) (refl, tables.allotted con.code con known)
      go false but past = (none_is c statuses rows v past read, subst (IsView con of) (sym but) (refl, tables.allotted con.code con known))

  held : (o : Option ConState) → get of.cons con.code ≡ o → is_some o ≡ true → (c : ConState) × (get of.cons con.code ≡ Some c)
  held None at some = absurd (true≢false (sym some))
  held (Some c) at some = (c, at)

  is_view : (with_past : Bool) (statuses : Statuses) (rows : Rows) (v : View) → AreRowsFound with_past con.code s rows → statuses ≡ statuses_in of.returns con.stations → view_of_rows con statuses rows ≡ Some v → IsViewWith with_past con of v
  is_view with_past statuses rows v found counted read =
      let there = held (get of.cons con.code) refl (lawful.known con.code ∙ ap is_some known) in
      let is : rows.cons ≡ con_rows (con.code, there.0) = found_rows Cons con_rows cons_keyed of.cons con.code s rows.cons there.0 there.1 tables.cons (record { whole = (refl, tt); rising = (tt, tt) }) found.cons in
      let parts = reads_as con statuses (row_of con.code there.0) rows.tables v (one_row con statuses rows v (row_of con.code there.0) is read) in
      view_with_past there.0 with_past statuses rows v there.1 found counted parts

pub finds_view : (setup : List Constituency) (con : Constituency) (known : Option Statuses) (with_past : Bool) (s : Seen) (statuses : Statuses) (rows : Rows) (result : Result View Error) → IsConstituency con → AreRowsFound with_past con.code s rows
    → FindsKnownStatuses con known s statuses → IfOk result (λ view. view_of_rows con statuses rows ≡ Some view) → IfOk result (FindsView setup con known with_past s)
finds_view setup con known with_past s statuses rows (Err e) limits found counted read = tt
finds_view setup con known with_past s statuses rows (Ok v) limits found counted read = λ text of there lawful true_is tables.
    is_view setup con s text of limits there lawful tables with_past statuses rows v found (counted setup of.returns true_is tables.returns) read
