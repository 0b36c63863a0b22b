-- What the rows of a state read as.
use Rattle.std.proofs.Common.{◌≡◌, ◌&&◌, ℕ, true, false, T, Option, Some, None, List, [], ◌∷◌, ◌++◌, map, true≢false, refl, sym, ap, ap₂, subst, ◌∙◌}
use Rattle.std.specs.Prelude.{All, is_some, unwrap_or, nat_eq, ◌==◌}
use Rattle.std.specs.Option.{option_map_or}
use Rattle.std.specs.List.{AllByRecursion, flat_map}
use Rattle.std.specs.Cmp.Lexicographic.{pointwise}
use Rattle.std.specs.Ordering.{nat_cmp}
use Rattle.std.specs.FinMap.{get, entries, entries_sorted, get-entries}
use Rattle.std.specs.FinMap.Entries.{is_sorted}
use Rattle.std.proofs.lemmas.Bool.{and_from, eq-eqb}
use Rattle.std.proofs.lemmas.List.Elements.{recursion_from_All}
use Rattle.std.proofs.lemmas.Slice.Eq.{bytes_eq-Decides}
use Rattle.sqlite_keyed.proofs.ListLemmas.{all_weaker}
use Rattle.sqlite_value.specs.Order.{Row}
use Rattle.tally_setup.specs.Code.{is_code}
use Rattle.tally_setup.specs.Constituency.{Constituency}
use Rattle.tally_setup.specs.Limits.{IsSetup}
use Rattle.tally_setup.specs.Setup.{constituency_with}
use Rattle.tally_returns.specs.State.{State, ConState, con_state, opening_con}
use Rattle.tally_returns.specs.View.{View, view_with, view_of, gone_candidate, gone_candidates, past_record, past_records}
use Rattle.tally_keeper.specs.Kept.{Kept, view_in}
use Rattle.tally_machine_law.specs.LawfulState.{IsUnderPlaces, IsLawfulState}
use Rattle.tally_machine_law.specs.LawStatements.{ViewsAreLawful}
use Rattle.tally_machine_law.specs.Outcome.{IsLawfulView}
use Rattle.tally_machine_law.proofs.ViewLemmas.{constituency-code, constituency-limits}
use Rattle.tally_store_schema.specs.Rows.{text_cmp}
use Rattle.tally_store_schema.proofs.RowsLemmas.{keys_rise}
use Rattle.tally_store_rows.specs.Cells.{item_row, items_of, con_rows, lot_rows, seat_rows, gone_row, gone_rows, record_rows, total_rows, past_rows}
use Rattle.tally_store_open.specs.internal.Found.{IsLawfulFound, gone_places, past_edition, same_numbers}
use Rattle.tally_store_open.specs.internal.Entries.{rises_on}
use Rattle.tally_store_open.specs.OfficeRows.{RowsInOrder, AreOfficeRows}
use Rattle.tally_store_rows.specs.TablesOfState.{AreSeats}
use Rattle.tally_store_rows.specs.Views.{statuses_of}
use Rattle.tally_store_rows.proofs.ConLemmas.{gone_entry, past_entry, sums_of_view, row_of_view, tables_of_view}
use Rattle.tally_store_rows.proofs.FoundLemmas.{AreRowsOfViews, IsReadableFound, all_rows}
use Rattle.tally_store_open.proofs.EntriesLemmas.{each_found}
use Rattle.tally_store_open.proofs.MustPassLemmas.{lawful_readable}
use Rattle.tally_store_open.proofs.RiseLemmas.{rises_sorted}

-- ---- the constituencies of a state

-- an entry of a state, and the constituency of the setup that it is of
pub record IsHeld (setup : List Constituency) (s : State) (e : List ℕ × ConState) : Type 0 where
  pub con : Constituency
  pub known : constituency_with e.0 setup ≡ Some con
  pub own : con.code ≡ e.0
  pub state : con_state s con.code ≡ e.1

held_one : (setup : List Constituency) (s : State) (e : List ℕ × ConState) → ((code : List ℕ) → is_some (get s.cons code) ≡ is_some (constituency_with code setup)) → get s.cons e.0 ≡ Some e.1 → IsHeld setup s e
held_one setup s e known is = go (constituency_with e.0 setup) refl (sym (known e.0) ∙ ap is_some is)
  where
    go : (o : Option Constituency) → constituency_with e.0 setup ≡ o → is_some o ≡ true → IsHeld setup s e
    go None at some = absurd (true≢false (sym some))
    go (Some con) at some =
        let own : con.code ≡ e.0 = sym (constituency-code setup e.0 con at) in
        record { con = con; known = at; own = own; state = ap (λ o. unwrap_or o opening_con) (ap (get s.cons) own ∙ is) }

pub all_held : (setup : List Constituency) (s : State) → ((code : List ℕ) → is_some (get s.cons code) ≡ is_some (constituency_with code setup)) → AllByRecursion (IsHeld setup s) (entries s.cons)
all_held setup s known =
    let es = entries s.cons in
    all_weaker _ (IsHeld setup s) (λ e is. held_one setup s e known (get-entries s.cons e.0 ∙ is)) es (each_found es (keys_rise es (entries_sorted s.cons)))

-- what is seen of it
abbrev pub seen_of : State → (List ℕ → List ℕ) → Constituency → View
seen_of s given con = view_of con s (given con.code)

abbrev nothing : View
nothing = record { edition = 0; certified = false; note = []; lot = []; stations = 0; received = 0; queried = 0; corrected = 0; closed = 0; votes = []; blank = 0; spoiled = 0; seats = []; gone = []; past = [] }

abbrev pub view_at : List Constituency → State → (List ℕ → List ℕ) → List ℕ → View
view_at setup s given code = option_map_or (seen_of s given) (constituency_with code setup) nothing

abbrev pub view_entry : List Constituency → State → (List ℕ → List ℕ) → List ℕ × ConState → List ℕ × View
view_entry setup s given e = (e.0, view_at setup s given e.0)

abbrev pub views_of : List Constituency → State → (List ℕ → List ℕ) → List (List ℕ × View)
views_of setup s given = map (view_entry setup s given) (entries s.cons)

seen_is : (setup : List Constituency) (s : State) (given : List ℕ → List ℕ) (e : List ℕ × ConState) (h : IsHeld setup s e) → view_at setup s given e.0 ≡ seen_of s given h.con
seen_is setup s given e h = ap (λ o. option_map_or (seen_of s given) o nothing) h.known

pub view_is : (setup : List Constituency) (s : State) (given : List ℕ → List ℕ) (e : List ℕ × ConState) (h : IsHeld setup s e) → view_at setup s given e.0 ≡ view_with h.con e.1 s.returns (given e.0)
view_is setup s given e h = seen_is setup s given e h ∙ ap₂ (λ c k. view_with h.con c s.returns (given k)) h.state h.own

-- ---- their rows

flat_held : (setup : List Constituency) (s : State) (given : List ℕ → List ℕ) (g : List ℕ × ConState → List Row) (f : List ℕ × View → List Row) (es : List (List ℕ × ConState)) → AllByRecursion (λ e. g e ≡ f (view_entry setup s given e)) es
    → flat_map g es ≡ flat_map f (map (view_entry setup s given) es)
flat_held setup s given g f [] h = refl
flat_held setup s given g f (e ∷ es) h = ap₂ ◌++◌ h.0 (flat_held setup s given g f es h.1)

rows_held : (setup : List Constituency) (s : State) (given : List ℕ → List ℕ) (es : List (List ℕ × ConState)) → AllByRecursion (IsHeld setup s) es → flat_map con_rows es ≡ all_rows (map (view_entry setup s given) es)
rows_held setup s given [] h = refl
rows_held setup s given (e ∷ es) h = ap₂ (λ r l. r ∷ l) (ap (row_of_view e.0) (sym (view_is setup s given e h.0))) (rows_held setup s given es h.1)

gone_back : (key : List ℕ) (gone : List (List ℕ × List ℕ)) → map (gone_row key) gone ≡ map (λ g. gone_row key (gone_entry g)) (map gone_candidate gone)
gone_back key [] = refl
gone_back key (g ∷ gone) = ap (λ l. gone_row key g ∷ l) (gone_back key gone)

past_back : (key : List ℕ) (past : List (ℕ × List ℕ)) → flat_map (record_rows key) past ≡ flat_map (λ p. record_rows key (past_entry p)) (map past_record past)
past_back key [] = refl
past_back key (p ∷ past) = ap (λ l. record_rows key p ++ l) (past_back key past)

totals_held : (setup : List Constituency) (s : State) (given : List ℕ → List ℕ) (e : List ℕ × ConState) (h : IsHeld setup s e) → total_rows setup s.returns e ≡ (tables_of_view e.0 (view_at setup s given e.0)).totals
totals_held setup s given e h =
    ap (λ o. map (item_row e.0) (items_of (option_map_or (λ (con : Constituency). sums_of_view (view_with con e.1 s.returns [])) o (record { votes = []; blank = 0; spoiled = 0 })))) h.known
    ∙ ap (λ v. (tables_of_view e.0 v).totals) (sym (view_is setup s given e h))

pub rows_of_state : (setup : List Constituency) (s : State) (rows : RowsInOrder) → ((code : List ℕ) → is_some (get s.cons code) ≡ is_some (constituency_with code setup)) → (h : AreOfficeRows setup s rows) → AreRowsOfViews rows.cons rows.tables (views_of setup s h.given)
rows_of_state setup s rows known h =
    let es = entries s.cons in
    let all = all_held setup s known in
    let given = h.given in
    let of : (g : List ℕ × ConState → List Row) (f : List ℕ × View → List Row) → ((e : List ℕ × ConState) → IsHeld setup s e → g e ≡ f (view_entry setup s given e)) → flat_map g es ≡ flat_map f (views_of setup s given) =
    λ g f each. flat_held setup s given g f es (all_weaker _ (λ e. g e ≡ f (view_entry setup s given e)) each es all) in
    record {
      rows_are = h.cons ∙ rows_held setup s given es all;
      tables_are = λ i. record {
        lots = (h.lots ∙ of lot_rows (λ e. (tables_of_view e.0 e.1).lots) (λ e is. ap (λ v. (tables_of_view e.0 v).lots) (sym (view_is setup s given e is)))) i;
        seats = (h.seats ∙ of (seat_rows given) (λ e. (tables_of_view e.0 e.1).seats) (λ e is. ap (λ v. (tables_of_view e.0 v).seats) (sym (view_is setup s given e is)))) i;
        gone = (h.gone ∙ of gone_rows (λ e. (tables_of_view e.0 e.1).gone) (λ e is. gone_back e.0 (entries e.1.gone) ∙ ap (λ v. (tables_of_view e.0 v).gone) (sym (view_is setup s given e is)))) i;
        totals = (h.totals ∙ of (total_rows setup s.returns) (λ e. (tables_of_view e.0 e.1).totals) (λ e is. totals_held setup s given e is)) i;
        past = (h.past ∙ of past_rows (λ e. (tables_of_view e.0 e.1).past) (λ e is. past_back e.0 (entries e.1.past) ∙ ap (λ v. (tables_of_view e.0 v).past) (sym (view_is setup s given e is)))) i;
      };
    }

-- ---- they are lawful, and can be read again

same_again : (view : View) → same_numbers view view ≡ true
same_again v =
    let eq : (n : ℕ) → (n == n) ≡ true = λ n. eq-eqb n n refl in
    let a1 = v.stations == v.stations in
    let a2 = v.received == v.received in
    let a3 = v.queried == v.queried in
    let a4 = v.corrected == v.corrected in
    let a5 = v.closed == v.closed in
    let a6 = pointwise nat_eq v.votes v.votes in
    let a7 = v.blank == v.blank in
    let a8 = v.spoiled == v.spoiled in
    and_from (a1 && a2 && a3 && a4 && a5 && a6 && a7) a8
    (and_from (a1 && a2 && a3 && a4 && a5 && a6) a7
    (and_from (a1 && a2 && a3 && a4 && a5) a6
    (and_from (a1 && a2 && a3 && a4) a5
    (and_from (a1 && a2 && a3) a4
    (and_from (a1 && a2) a3 (and_from a1 a2 (eq v.stations) (eq v.received)) (eq v.queried)) (eq v.corrected)) (eq v.closed)) ((bytes_eq-Decides v.votes v.votes).1 refl)) (eq v.blank)) (eq v.spoiled)

gone_pairs : (gone : List (List ℕ × List ℕ)) → AllByRecursion IsUnderPlaces gone → map (λ g. (gone_places g, g.note)) (map gone_candidate gone) ≡ gone
gone_pairs [] h = refl
gone_pairs (g ∷ gone) h = ap₂ (λ x l. x ∷ l) (ap (λ k. (k, g.1)) (sym h.0)) (gone_pairs gone h.1)

past_pairs : (past : List (ℕ × List ℕ)) → map (λ p. (past_edition p, p.seats)) (map past_record past) ≡ past
past_pairs [] = refl
past_pairs (p ∷ past) = ap (λ l. p ∷ l) (past_pairs past)

gone_up : (c : ConState) → All IsUnderPlaces (entries c.gone) → rises_on gone_places text_cmp (gone_candidates c.gone) ≡ true
gone_up c under = rises_sorted text_cmp gone_places (λ g. g.note) (gone_candidates c.gone) (subst (λ l. T (is_sorted text_cmp l)) (sym (gone_pairs (entries c.gone) (recursion_from_All IsUnderPlaces (entries c.gone) under))) (entries_sorted c.gone))

past_up : (c : ConState) → rises_on past_edition nat_cmp (past_records c.past) ≡ true
past_up c = rises_sorted nat_cmp past_edition (λ p. p.seats) (past_records c.past) (subst (λ l. T (is_sorted nat_cmp l)) (sym (past_pairs (entries c.past))) (entries_sorted c.past))

-- what is known of the state and its setup
pub record IsKnown (setup : List Constituency) (s : State) (kept : Kept) (given : List ℕ → List ℕ) : Type 0 where
  pub setup_is : kept.setup ≡ setup
  pub returns_are : kept.returns ≡ s.returns
  pub limits : IsSetup setup
  pub lawful : IsLawfulState setup s
  pub views : ViewsAreLawful
  pub allotted : AreSeats setup s given

lawful_seen : (setup : List Constituency) (s : State) (kept : Kept) (given : List ℕ → List ℕ) → IsKnown setup s kept given → (e : List ℕ × ConState) (h : IsHeld setup s e) → IsLawfulView h.con (seen_of s given h.con)
lawful_seen setup s kept given k e h = k.views setup s e.0 h.con (seen_of s given h.con) k.limits k.lawful h.known (refl, k.allotted e.0 h.con h.known)

pub under_held : (setup : List Constituency) (s : State) → IsLawfulState setup s → (e : List ℕ × ConState) (h : IsHeld setup s e) → All IsUnderPlaces (entries (con_state s h.con.code).gone)
under_held setup s lawful e h = (lawful.cons e.0 h.con h.known).gone

counted_is : (s : State) (kept : Kept) (given : List ℕ → List ℕ) (con : Constituency) → kept.returns ≡ s.returns → same_numbers (view_in kept con) (seen_of s given con) ≡ true
counted_is s kept given con is = ap (λ r. same_numbers (view_with con (con_state s con.code) r []) (seen_of s given con)) is ∙ same_again (seen_of s given con)

pub lawful_found : (setup : List Constituency) (s : State) (kept : Kept) (given : List ℕ → List ℕ) → IsKnown setup s kept given → (e : List ℕ × ConState) → IsHeld setup s e → IsLawfulFound kept (view_entry setup s given e)
lawful_found setup s kept given k e h =
    let v = seen_of s given h.con in
    subst (λ (x : View). IsLawfulFound kept (e.0, x)) (sym (seen_is setup s given e h)) (record {
      con = h.con;
      known = ap (constituency_with e.0) k.setup_is ∙ h.known;
      numbers = counted_is s kept given h.con k.returns_are;
      gone = gone_up (con_state s h.con.code) (under_held setup s k.lawful e h);
      past = past_up (con_state s h.con.code);
      lawful = lawful_seen setup s kept given k e h;
    })

pub readable_found : (setup : List Constituency) (s : State) (kept : Kept) (given : List ℕ → List ℕ) → IsKnown setup s kept given → (e : List ℕ × ConState) → IsHeld setup s e → IsReadableFound kept.setup (view_in kept) (view_entry setup s given e)
readable_found setup s kept given k e h =
    let v = seen_of s given h.con in
    let limits = constituency-limits setup e.0 h.con k.limits h.known in
    subst (λ (x : View). IsReadableFound kept.setup (view_in kept) (e.0, x)) (sym (seen_is setup s given e h)) (record {
      con = h.con;
      found = ap (constituency_with e.0) k.setup_is ∙ h.known;
      same = h.own;
      code = subst (λ c. is_code c ≡ true) h.own limits.code;
      some_list = limits.some_list;
      fine = lawful_readable h.con v limits (lawful_seen setup s kept given k e h);
      statuses = ap (λ r. statuses_of (view_with h.con (con_state s h.con.code) r [])) k.returns_are;
    })
