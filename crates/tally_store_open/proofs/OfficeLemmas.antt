-- Rows that are judged to be those of a lawful state are so.
use Rattle.std.proofs.Common.{◌≡◌, ◌&&◌, ◌||◌, ℕ, Bool, true, false, cond, T, Option, Some, None, List, [], ◌∷◌, ◌++◌, map, true≢false, refl, sym, ap, ap₂, subst, ◌∙◌}
use Rattle.std.specs.Prelude.{All, bytes_eq, is_some, unwrap_or, nat_eq, ◌==◌}
use Rattle.std.specs.Option.{option_map_or}
use Rattle.std.specs.List.{AllByRecursion, flat_map}
use Rattle.std.specs.Cmp.Lexicographic.{pointwise}
use Rattle.std.specs.Ordering.{nat_cmp}
use Rattle.std.specs.Cmp.{nat_cmp_total}
use Rattle.std.specs.FinMap.{find, get, entries, from_sorted, get-entries, entries-from_sorted}
use Rattle.std.specs.FinMap.Entries.{is_sorted}
use Rattle.std.proofs.lemmas.Bool.{and_parts, eqb-true}
use Rattle.std.proofs.lemmas.List.Elements.{recursion_from_All, All-from_recursion}
use Rattle.std.proofs.lemmas.Slice.Eq.{bytes_eq-Decides}
use Rattle.sqlite_keyed.proofs.ListLemmas.{all_weaker}
use Rattle.sqlite_value.specs.Order.{Row}
use Rattle.tally_setup.specs.Constituency.{Constituency}
use Rattle.tally_setup.specs.Codes.{is_among_codes}
use Rattle.tally_setup.specs.Setup.{constituency_with, constituency_codes}
use Rattle.tally_returns.specs.Counts.{VoteCounts}
use Rattle.tally_returns.specs.GoneCandidate.{GoneCandidate}
use Rattle.tally_returns.specs.PastSeats.{PastSeats}
use Rattle.tally_returns.specs.Return.{Returns}
use Rattle.tally_returns.specs.State.{State, ConState, GoneCandidates, PastRecords, con_state, opening_con}
use Rattle.tally_returns.specs.View.{View, view_with, view_of, gone_candidate, past_record}
use Rattle.tally_keeper.specs.Kept.{Kept, view_in}
use Rattle.tally_machine_law.specs.LawfulState.{IsUnderPlaces, IsLawfulIn, IsLawfulState}
use Rattle.tally_machine_law.specs.Outcome.{IsLawfulCon, IsLawfulView, HasSeats}
use Rattle.tally_machine_law.proofs.ViewLemmas.{constituency-code}
use Rattle.tally_store_schema.specs.Rows.{text_cmp}
use Rattle.tally_store_schema.proofs.RowsLemmas.{text_total, keys_rise}
use Rattle.tally_store_rows.specs.Cells.{item_row, items_of, con_rows, lot_rows, seat_rows, gone_row, gone_rows, record_rows, total_rows, past_rows}
use Rattle.tally_store_open.specs.internal.Found.{IsLawfulFound, gone_places, past_edition, same_numbers}
use Rattle.tally_store_open.specs.internal.Entries.{rises, rises_on, key_of, AreReturnsOf}
use Rattle.tally_store_open.specs.OfficeRows.{RowsInOrder, AreOfficeRows}
use Rattle.tally_store_rows.specs.Views.{Tables}
use Rattle.tally_store_rows.proofs.ConLemmas.{gone_entry, past_entry, sums_of_view, row_of_view, tables_of_view}
use Rattle.tally_store_rows.proofs.FoundLemmas.{AreRowsOfViews, all_rows, all_tables}
use Rattle.tally_store_open.proofs.EntriesLemmas.{each_found, found_has}
use Rattle.tally_store_open.proofs.RiseLemmas.{sorted_on, sorted_from_rises}

-- ---- what a constituency has come to, of what is seen of it

abbrev pub gone_of : View → GoneCandidates
gone_of v = from_sorted (map gone_entry v.gone)

abbrev pub past_of : View → PastRecords
past_of v = from_sorted (map past_entry v.past)

abbrev pub con_of : View → ConState
con_of v = record { edition = v.edition; certified = v.certified; note = v.note; lot = v.lot; gone = gone_of v; past = past_of v }

abbrev pub state_entry : List ℕ × View → List ℕ × ConState
state_entry e = (e.0, con_of e.1)

gone_back : (gone : List GoneCandidate) → map gone_candidate (map gone_entry gone) ≡ gone
gone_back [] = refl
gone_back (g ∷ gone) = ap (λ l. g ∷ l) (gone_back gone)

past_back : (past : List PastSeats) → map past_record (map past_entry past) ≡ past
past_back [] = refl
past_back (p ∷ past) = ap (λ l. p ∷ l) (past_back past)

gone_entries : (v : View) → rises_on gone_places text_cmp v.gone ≡ true → entries (gone_of v) ≡ map gone_entry v.gone
gone_entries v up = entries-from_sorted text_cmp (map gone_entry v.gone) (sorted_on text_cmp gone_places (λ g. g.note) text_total v.gone up)

past_entries : (v : View) → rises_on past_edition nat_cmp v.past ≡ true → entries (past_of v) ≡ map past_entry v.past
past_entries v up = entries-from_sorted nat_cmp (map past_entry v.past) (sorted_on nat_cmp past_edition (λ p. p.seats) nat_cmp_total v.past up)

-- ---- the numbers of a view

pub record HasNumbers (counted view : View) : Type 0 where
  pub stations : view.stations ≡ counted.stations
  pub received : view.received ≡ counted.received
  pub queried : view.queried ≡ counted.queried
  pub corrected : view.corrected ≡ counted.corrected
  pub closed : view.closed ≡ counted.closed
  pub votes : view.votes ≡ counted.votes
  pub blank : view.blank ≡ counted.blank
  pub spoiled : view.spoiled ≡ counted.spoiled

same_list : (a b : List ℕ) → pointwise nat_eq a b ≡ true → a ≡ b
same_list a b h = (bytes_eq-Decides a b).0 h

pub has_numbers : (counted view : View) → same_numbers counted view ≡ true → HasNumbers counted view
has_numbers c v h =
    let a1 = v.stations == c.stations in
    let a2 = v.received == c.received in
    let a3 = v.queried == c.queried in
    let a4 = v.corrected == c.corrected in
    let a5 = v.closed == c.closed in
    let a6 = pointwise nat_eq v.votes c.votes in
    let a7 = v.blank == c.blank in
    let a8 = v.spoiled == c.spoiled in
    let p8 = and_parts (a1 && a2 && a3 && a4 && a5 && a6 && a7) a8 h in
    let p7 = and_parts (a1 && a2 && a3 && a4 && a5 && a6) a7 p8.0 in
    let p6 = and_parts (a1 && a2 && a3 && a4 && a5) a6 p7.0 in
    let p5 = and_parts (a1 && a2 && a3 && a4) a5 p6.0 in
    let p4 = and_parts (a1 && a2 && a3) a4 p5.0 in
    let p3 = and_parts (a1 && a2) a3 p4.0 in
    let p2 = and_parts a1 a2 p3.0 in record {
      stations = eqb-true v.stations c.stations p2.0;
      received = eqb-true v.received c.received p2.1;
      queried = eqb-true v.queried c.queried p3.1;
      corrected = eqb-true v.corrected c.corrected p4.1;
      closed = eqb-true v.closed c.closed p5.1;
      votes = same_list v.votes c.votes p6.1;
      blank = eqb-true v.blank c.blank p7.1;
      spoiled = eqb-true v.spoiled c.spoiled p8.1;
    }

-- ---- what the state shows of it

-- a constituency that was read shows in the state as it was read, whatever its seats
shown : (con : Constituency) (c : ConState) (v : View) (returns : Returns) (given seats : List ℕ) → HasNumbers (view_with con c returns given) v → rises_on gone_places text_cmp v.gone ≡ true → rises_on past_edition nat_cmp v.past ≡ true
    → view_with con (con_of v) returns seats ≡ record v { seats = seats }
shown con c v returns given seats n gone past = λ i. record {
  edition = v.edition;
  certified = v.certified;
  note = v.note;
  lot = v.lot;
  stations = sym n.stations i;
  received = sym n.received i;
  queried = sym n.queried i;
  corrected = sym n.corrected i;
  closed = sym n.closed i;
  votes = sym n.votes i;
  blank = sym n.blank i;
  spoiled = sym n.spoiled i;
  seats = seats;
  gone = (ap (map gone_candidate) (gone_entries v gone) ∙ gone_back v.gone) i;
  past = (ap (map past_record) (past_entries v past) ∙ past_back v.past) i;
}

-- ---- rows of a state

flat_same : (f : List ℕ × View → List Row) (g : List ℕ × ConState → List Row) (vs : List (List ℕ × View)) → AllByRecursion (λ e. f e ≡ g (state_entry e)) vs → flat_map f vs ≡ flat_map g (map state_entry vs)
flat_same f g [] h = refl
flat_same f g (e ∷ vs) h = ap₂ ◌++◌ h.0 (flat_same f g vs h.1)

rows_flat : (vs : List (List ℕ × View)) → all_rows vs ≡ flat_map con_rows (map state_entry vs)
rows_flat [] = refl
rows_flat (e ∷ vs) = ap (λ l. row_of_view e.0 e.1 ∷ l) (rows_flat vs)

lots_flat : (vs : List (List ℕ × View)) → (all_tables vs).lots ≡ flat_map lot_rows (map state_entry vs)
lots_flat [] = refl
lots_flat (e ∷ vs) = ap (λ l. (tables_of_view e.0 e.1).lots ++ l) (lots_flat vs)

gone_map : (key : List ℕ) (gone : List GoneCandidate) → map (λ g. gone_row key (gone_entry g)) gone ≡ map (gone_row key) (map gone_entry gone)
gone_map key [] = refl
gone_map key (g ∷ gone) = ap (λ l. gone_row key (gone_entry g) ∷ l) (gone_map key gone)

past_map : (key : List ℕ) (past : List PastSeats) → flat_map (λ p. record_rows key (past_entry p)) past ≡ flat_map (record_rows key) (map past_entry past)
past_map key [] = refl
past_map key (p ∷ past) = ap (λ l. record_rows key (past_entry p) ++ l) (past_map key past)

-- ---- the constituencies that were read are those of the setup

-- one of them by its code
among_has : (P : List ℕ × View → Type 0) (code : List ℕ) (vs : List (List ℕ × View)) → AllByRecursion P vs → is_among_codes code (map key_of vs) ≡ true → (e : List ℕ × View) × (code ≡ e.0) × P e
among_has P code [] all h = absurd (true≢false (sym h))
among_has P code (e ∷ vs) all h = go (bytes_eq code e.0) refl h (among_has P code vs all.1)
  where
    go : (b : Bool) → bytes_eq code e.0 ≡ b → (b || is_among_codes code (map key_of vs)) ≡ true → (is_among_codes code (map key_of vs) ≡ true → (x : List ℕ × View) × (code ≡ x.0) × P x) → (x : List ℕ × View) × (code ≡ x.0) × P x
    go true is more later = (e, (bytes_eq-Decides code e.0).0 is, all.0)
    go false is more later = later more

-- what is known of each
record IsSeen (kept : Kept) (cons : List (List ℕ × ConState)) (vs : List (List ℕ × View)) (e : List ℕ × View) : Type 0 where
  pub found : IsLawfulFound kept e
  pub state : find text_cmp e.0 cons ≡ Some (con_of e.1)
  pub view : find text_cmp e.0 vs ≡ Some e.1

all_of_map : {X Y : Type 0} (P : Y → Type 0) (f : X → Y) (xs : List X) → AllByRecursion P (map f xs) → AllByRecursion (λ x. P (f x)) xs
all_of_map P f [] h = tt
all_of_map P f (x ∷ xs) h = (h.0, all_of_map P f xs h.1)

all_to_map : {X Y : Type 0} (P : Y → Type 0) (f : X → Y) (xs : List X) → AllByRecursion (λ x. P (f x)) xs → AllByRecursion P (map f xs)
all_to_map P f [] h = tt
all_to_map P f (x ∷ xs) h = (h.0, all_to_map P f xs h.1)

seen_from : (kept : Kept) (cons : List (List ℕ × ConState)) (all vs : List (List ℕ × View)) → AllByRecursion (IsLawfulFound kept) vs → AllByRecursion (λ e. find text_cmp e.0 cons ≡ Some (con_of e.1)) vs → AllByRecursion (λ e. find text_cmp e.0 all ≡ Some e.1) vs
    → AllByRecursion (IsSeen kept cons all) vs
seen_from kept cons all [] p q r = tt
seen_from kept cons all (e ∷ vs) p q r = (record { found = p.0; state = q.0; view = r.0 }, seen_from kept cons all vs p.1 q.1 r.1)

pub known_among : (code : List ℕ) (setup : List Constituency) (con : Constituency) → constituency_with code setup ≡ Some con → is_among_codes code (constituency_codes setup) ≡ true
known_among code [] con h = absurd (let e = h in cc)
known_among code (c ∷ setup) con h = go (bytes_eq code c.code) refl h (known_among code setup con)
  where
    go : (b : Bool) → bytes_eq code c.code ≡ b → cond b (Some c) (constituency_with code setup) ≡ Some con → (constituency_with code setup ≡ Some con → is_among_codes code (constituency_codes setup) ≡ true) → (bytes_eq code c.code || is_among_codes code (constituency_codes setup)) ≡ true
    go true is e later = ap (λ b. b || is_among_codes code (constituency_codes setup)) is
    go false is e later = ap (λ b. b || is_among_codes code (constituency_codes setup)) is ∙ later e

without_seats : (con : Constituency) (v : View) → IsLawfulCon con v → IsLawfulCon con (record v { seats = [] })
without_seats con v h = record { first = h.first; last = h.last; note = h.note; lot = h.lot; certified = h.certified; gone = h.gone; past = h.past }

under_places : (gone : List GoneCandidate) → AllByRecursion IsUnderPlaces (map gone_entry gone)
under_places [] = tt
under_places (g ∷ gone) = (refl, under_places gone)

-- a constituency of the setup, as it was read and as the state shows it
record IsShown (kept : Kept) (vs : List (List ℕ × View)) (s : State) (con : Constituency) : Type 0 where
  pub e : List ℕ × View
  pub code : con.code ≡ e.0
  pub lawful : IsLawfulView con e.1
  pub gone : rises_on gone_places text_cmp e.1.gone ≡ true
  pub inside : get s.cons con.code ≡ Some (con_of e.1)
  pub view : (seats : List ℕ) → view_of con s seats ≡ record e.1 { seats = seats }
  pub at : find text_cmp e.0 vs ≡ Some e.1

shown_at : (kept : Kept) (vs : List (List ℕ × View)) (sorted : T (is_sorted text_cmp (map state_entry vs))) → AllByRecursion (IsSeen kept (map state_entry vs) vs) vs
    → ((code : List ℕ) → is_among_codes code (constituency_codes kept.setup) ≡ true → is_among_codes code (map key_of vs) ≡ true)
    → (code : List ℕ) (con : Constituency) → constituency_with code kept.setup ≡ Some con → IsShown kept vs (record { returns = kept.returns; cons = from_sorted (map state_entry vs) }) con
shown_at kept vs sorted seen covered code con is =
    let cs = map state_entry vs in
    let s : State = record { returns = kept.returns; cons = from_sorted cs } in
    let it = among_has (IsSeen kept cs vs) code vs seen (covered code (known_among code kept.setup con is)) in
    let e = it.0 in
    let h = it.2.found in
    let same : h.con ≡ con = (let k = sym h.known ∙ ap (λ c. constituency_with c kept.setup) (sym it.1) ∙ is in cc) in
    let own : con.code ≡ e.0 = sym (constituency-code kept.setup code con is) ∙ it.1 in
    let inside : get s.cons con.code ≡ Some (con_of e.1) = get-entries s.cons con.code ∙ ap₂ (λ k l. find text_cmp k l) own (entries-from_sorted text_cmp cs sorted) ∙ it.2.state in
    let state : con_state s con.code ≡ con_of e.1 = ap (λ o. unwrap_or o opening_con) inside in
    let numbers : HasNumbers (view_in kept con) e.1 = has_numbers (view_in kept con) e.1 (ap (λ c. same_numbers (view_in kept c) e.1) (sym same) ∙ h.numbers) in
    record {
      e = e;
      code = own;
      lawful = subst (λ c. IsLawfulView c e.1) same h.lawful;
      gone = h.gone;
      inside = inside;
      view = λ seats. ap (λ c. view_with con c kept.returns seats) state ∙ shown con _ e.1 kept.returns _ seats numbers h.gone h.past;
      at = it.2.view;
    }

con_lawful : (kept : Kept) (vs : List (List ℕ × View)) (s : State) (con : Constituency) → IsShown kept vs s con → IsLawfulIn con s
con_lawful kept vs s con sh =
    let state : con_state s con.code ≡ con_of sh.e.1 = ap (λ o. unwrap_or o opening_con) sh.inside in
    record {
      seen = subst (IsLawfulCon con) (sym (sh.view [])) (without_seats con sh.e.1 sh.lawful.lawful);
      gone = subst (λ (c : ConState). All IsUnderPlaces (entries c.gone)) (sym state) (subst (All IsUnderPlaces) (sym (gone_entries sh.e.1 sh.gone)) (All-from_recursion IsUnderPlaces (map gone_entry sh.e.1.gone) (under_places sh.e.1.gone)));
    }

-- the seats that were read
abbrev pub seats_read : List (List ℕ × View) → List ℕ → List ℕ
seats_read vs code = option_map_or (λ (v : View). v.seats) (find text_cmp code vs) []

con_seats : (kept : Kept) (vs : List (List ℕ × View)) (s : State) (con : Constituency) → IsShown kept vs s con → HasSeats con (view_of con s (seats_read vs con.code)) (con_state s con.code).certified
con_seats kept vs s con sh =
    let given : seats_read vs con.code ≡ sh.e.1.seats = ap (seats_read vs) sh.code ∙ ap (λ o. option_map_or (λ (v : View). v.seats) o []) sh.at in
    let same : view_of con s (seats_read vs con.code) ≡ sh.e.1 = ap (view_of con s) given ∙ sh.view sh.e.1.seats in
    subst (λ (v : View). HasSeats con v v.certified) (sym same) sh.lawful.seats

con_known : (kept : Kept) (vs : List (List ℕ × View)) (sorted : T (is_sorted text_cmp (map state_entry vs))) → AllByRecursion (IsLawfulFound kept) vs
    → ((code : List ℕ) (con : Constituency) → constituency_with code kept.setup ≡ Some con → IsShown kept vs (record { returns = kept.returns; cons = from_sorted (map state_entry vs) }) con)
    → (code : List ℕ) → is_some (get (from_sorted {R = text_cmp} (map state_entry vs)) code) ≡ is_some (constituency_with code kept.setup)
con_known kept vs sorted each at code = go (constituency_with code kept.setup) refl
  where
    none : (o : Option ConState) → get (from_sorted {R = text_cmp} (map state_entry vs)) code ≡ o → constituency_with code kept.setup ≡ None → is_some o ≡ false
    none None is unknown = refl
    none (Some c) is unknown =
        let within : AllByRecursion (λ x. is_some (constituency_with x.0 kept.setup) ≡ true) (map state_entry vs) =
        all_to_map (λ x. is_some (constituency_with x.0 kept.setup) ≡ true) state_entry vs (all_weaker _ (λ e. is_some (constituency_with e.0 kept.setup) ≡ true) (λ e h. ap is_some h.known) vs each) in
        let place = sym (get-entries (from_sorted {R = text_cmp} (map state_entry vs)) code ∙ ap (find text_cmp code) (entries-from_sorted text_cmp (map state_entry vs) sorted)) ∙ is in
        let some = found_has (λ x. is_some (constituency_with x.0 kept.setup) ≡ true) (map state_entry vs) within code c place in
        absurd (true≢false (sym some ∙ ap is_some unknown))

    go : (o : Option Constituency) → constituency_with code kept.setup ≡ o → is_some (get (from_sorted {R = text_cmp} (map state_entry vs)) code) ≡ is_some o
    go (Some con) is = let sh = at code con is in ap (λ k. is_some (get (from_sorted {R = text_cmp} (map state_entry vs)) k)) (constituency-code kept.setup code con is) ∙ ap is_some sh.inside
    go None is = none (get (from_sorted {R = text_cmp} (map state_entry vs)) code) refl is

seats_row : (vs : List (List ℕ × View)) (e : List ℕ × View) → find text_cmp e.0 vs ≡ Some e.1 → (tables_of_view e.0 e.1).seats ≡ seat_rows (seats_read vs) (state_entry e)
seats_row vs e is = ap (λ ns. (tables_of_view e.0 (record e.1 { seats = ns })).seats) (sym (ap (λ o. option_map_or (λ (v : View). v.seats) o []) is))

gone_row_is : (e : List ℕ × View) → rises_on gone_places text_cmp e.1.gone ≡ true → (tables_of_view e.0 e.1).gone ≡ gone_rows (state_entry e)
gone_row_is e up = gone_map e.0 e.1.gone ∙ ap (map (gone_row e.0)) (sym (gone_entries e.1 up))

past_row_is : (e : List ℕ × View) → rises_on past_edition nat_cmp e.1.past ≡ true → (tables_of_view e.0 e.1).past ≡ past_rows (state_entry e)
past_row_is e up = past_map e.0 e.1.past ∙ ap (flat_map (record_rows e.0)) (sym (past_entries e.1 up))

-- the sums of a constituency that was looked up
abbrev totals_at : Returns → Option Constituency → VoteCounts
totals_at returns o = option_map_or (λ (con : Constituency). sums_of_view (view_with con opening_con returns [])) o (record { votes = []; blank = 0; spoiled = 0 })

totals_row : (kept : Kept) (e : List ℕ × View) (h : IsLawfulFound kept e) → (tables_of_view e.0 e.1).totals ≡ total_rows kept.setup kept.returns (state_entry e)
totals_row kept e h =
    let n = has_numbers (view_in kept h.con) e.1 h.numbers in
    let sums : sums_of_view e.1 ≡ sums_of_view (view_in kept h.con) = λ i. record { votes = n.votes i; blank = n.blank i; spoiled = n.spoiled i } in
    ap (λ c. map (item_row e.0) (items_of c)) (sums ∙ sym (ap (λ o. totals_at kept.returns o) h.known))

pub office_passed : (kept : Kept) (rows : RowsInOrder) (vs : List (List ℕ × View)) → AreReturnsOf kept.setup rows.returns rows.counts kept.returns → AreRowsOfViews rows.cons rows.tables vs → rises vs ≡ true → All (IsLawfulFound kept) vs
    → ((code : List ℕ) → is_among_codes code (constituency_codes kept.setup) ≡ true → is_among_codes code (map key_of vs) ≡ true) → (s : State) × IsLawfulState kept.setup s × AreOfficeRows kept.setup s rows
office_passed kept rows vs returns read up all covered =
    let cs = map state_entry vs in
    let sorted : T (is_sorted text_cmp cs) = sorted_on text_cmp key_of (λ e. con_of e.1) text_total vs up in
    let s : State = record { returns = kept.returns; cons = from_sorted cs } in
    let ents : entries s.cons ≡ cs = entries-from_sorted text_cmp cs sorted in
    let each = recursion_from_All (IsLawfulFound kept) vs all in
    let in_cs = all_of_map (λ e. find text_cmp e.0 cs ≡ Some e.1) state_entry vs (each_found cs (keys_rise cs sorted)) in
    let in_vs = each_found vs (keys_rise vs (sorted_from_rises vs up)) in
    let seen = seen_from kept cs vs vs each in_cs in_vs in
    let at = shown_at kept vs sorted seen covered in
    let to_state : (g : List ℕ × ConState → List Row) → flat_map g cs ≡ flat_map g (entries s.cons) = λ g. ap (flat_map g) (sym ents) in (
      s,
      record {
        stations = returns.lawful;
        cons = λ code con is. con_lawful kept vs s con (at code con is);
        known = con_known kept vs sorted each at;
      },
      record {
        given = seats_read vs;
        allotted = λ code con is. con_seats kept vs s con (at code con is);
        returns = returns.rows_are;
        counts = returns.counts_are;
        cons = read.rows_are ∙ rows_flat vs ∙ to_state con_rows;
        lots = ap (λ (t : Tables). t.lots) read.tables_are ∙ lots_flat vs ∙ to_state lot_rows;
        seats = ap (λ (t : Tables). t.seats) read.tables_are ∙ flat_same _ (seat_rows (seats_read vs)) vs (all_weaker _ _ (λ e is. seats_row vs e is) vs in_vs) ∙ to_state (seat_rows (seats_read vs));
        gone = ap (λ (t : Tables). t.gone) read.tables_are ∙ flat_same _ gone_rows vs (all_weaker _ _ (λ e h. gone_row_is e h.gone) vs each) ∙ to_state gone_rows;
        totals = ap (λ (t : Tables). t.totals) read.tables_are ∙ flat_same _ (total_rows kept.setup kept.returns) vs (all_weaker _ _ (λ e h. totals_row kept e h) vs each) ∙ to_state (total_rows kept.setup kept.returns);
        past = ap (λ (t : Tables). t.past) read.tables_are ∙ flat_same _ past_rows vs (all_weaker _ _ (λ e h. past_row_is e h.past) vs each) ∙ to_state past_rows;
      },
    )
