-- A return that has moved, in the tables of a lawful state.
use Rattle.std.proofs.Common.{◌≡◌, ◌≢◌, ◌∙◌, ℕ, List, [], ◌∷◌, length, map, Bool, true, false, Some, Result, refl, sym, ap, subst}
use Rattle.std.specs.Prelude.{OnOk, option_map, unwrap_or}
use Rattle.std.specs.FinMap.{get, insert}
use Rattle.std.specs.Str.{bytes_eq}
use Rattle.std.proofs.lemmas.Bool.{and_parts, eqb-true}
use Rattle.std.proofs.lemmas.Result.{IfOk-weaker}
use Rattle.std.proofs.lemmas.Slice.Eq.{bytes_eq-Decides}
use Rattle.sqlite.specs.declared.error.Error.{Error}
use Rattle.sqlite.specs.State.{State as Seen, HasCleanDisk}
use Rattle.tally_store_schema.specs.Rows.{AreRowsOf}
use Rattle.tally_setup.specs.Constituency.{Constituency}
use Rattle.tally_setup.specs.Limits.{IsSetup}
use Rattle.tally_setup.specs.Setup.{station_with}
use Rattle.tally_setup.specs.declared.constituency.Station.{Station}
use Rattle.tally_returns.specs.Decide.{limits_of}
use Rattle.tally_returns.specs.Lawful.{IsLawfulAt}
use Rattle.tally_returns.specs.Lodge.{StationLimits}
use Rattle.tally_returns.specs.Return.{StationReturn, Returns as StationReturns}
use Rattle.tally_returns.specs.State.{ConState, State, con_state, opening_con}
use Rattle.tally_returns.specs.View.{closed_counts, counts_if_closed, view_of, view_with}
use Rattle.tally_returns.specs.declared.returns.Status.{Status}
use Rattle.tally_returns.specs.declared.returns.Status.TheVariants.{Closed, Corrected, Queried, Received}
use Rattle.tally_returns.proofs.ClosedLemmas.{closed_counts-same, get-kept, get-put, put-elsewhere, station-elsewhere, station_with-con}
use Rattle.tally_machine_law.specs.LawfulState.{IsLawfulState}
use Rattle.tally_machine_law.specs.Outcome.{HasSeats}
use Rattle.tally_machine_law.specs.Step.{with_return, without_lot}
use Rattle.tally_store_schema.specs.Office.{IsInside, tree_of}
use Rattle.tally_store_schema.specs.declared.table.KeyedTable.{KeyedTable}
use Rattle.tally_store_schema.specs.declared.table.KeyedTable.TheVariants.{Returns, Counts, Cons, Lots, Seats, Gone, Totals, Past}
use Rattle.tally_store_rows.specs.Cells.{con_rows, count_rows, gone_rows, item_row, items_of, lot_rows, past_rows, return_rows, seat_rows, total_rows}
use Rattle.tally_store_rows.specs.TablesOfState.{AreSeats, AreTables}
use Rattle.tally_store_entries.specs.internal.Constituencies.{ChangesOnly, HasLot}
use Rattle.tally_store_entries.specs.internal.Entries.{AreReturnsIn, ChangesReturn, CorrectsReturn, PutsReturn, stored_in}
use Rattle.tally_store_commands.specs.internal.Requests.{IsInState}
use Rattle.tally_store_commands.proofs.ChangeLemmas.{cons_keyed, gone_keyed, kept_rows, past_keyed, seats_keyed, stands, totals_keyed}
use Rattle.tally_store_commands.proofs.LodgedLemmas.{return-put, seats-put, totals-put}
use Rattle.tally_store_commands.proofs.WriteLemmas.{HasMoved, apart}

-- ---- counts that are not closed

pub not_closed : (r : StationReturn) → r.status ≢ Closed → counts_if_closed (Some r) ≡ []
not_closed r differs = go r.status differs
  where
    go : (status : Status) → status ≢ Closed → counts_if_closed (Some (record r { status = status })) ≡ []
    go Received differs = refl
    go Queried differs = refl
    go Corrected differs = refl
    go Closed differs = absurd (differs refl)

pub closed_so : (r : StationReturn) → r.status ≡ Closed → counts_if_closed (Some r) ≡ r.counts ∷ []
closed_so r is = ap (λ (status : Status). counts_if_closed (Some (record r { status = status }))) is

pub queried_so : (r : StationReturn) → r.status ≡ Queried → counts_if_closed (Some r) ≡ []
queried_so r is = ap (λ (status : Status). counts_if_closed (Some (record r { status = status }))) is

pub corrected_so : (r : StationReturn) → r.status ≡ Corrected → counts_if_closed (Some r) ≡ []
corrected_so r is = ap (λ (status : Status). counts_if_closed (Some (record r { status = status }))) is

-- ---- sums

-- the sums are those with this return at the station, and no other table may have changed
abbrev pub HasSums : List Constituency → State → List ℕ → StationReturn → Seen → Seen → Type 0
HasSums setup s station standing old new = ChangesOnly Totals old new × AreRowsOf (total_rows setup (insert s.returns station standing)) s.cons (stored_in Totals new)

-- where neither return counts, the sums are those already
pub sums_stay : (setup : List Constituency) (s : State) (station : List ℕ) (before standing : StationReturn) (old : Seen) → IsInside old → get s.returns station ≡ Some before
    → counts_if_closed (Some before) ≡ [] → counts_if_closed (Some standing) ≡ [] → AreRowsOf (total_rows setup s.returns) s.cons (stored_in Totals old) → HasSums setup s station standing old old
sums_stay setup s station before standing old inside stood uncounted uncounted_still were =
    (record { inside = inside; others = λ u differ. refl; setup_is = refl }, subst (λ rows_of. AreRowsOf rows_of s.cons (stored_in Totals old)) (sym sums) were)
  where
    same : counts_if_closed (Some standing) ≡ counts_if_closed (get s.returns station)
    same = uncounted_still ∙ sym (ap counts_if_closed stood ∙ uncounted)

    sums : total_rows setup (insert s.returns station standing) ≡ total_rows setup s.returns
    sums = λ i e. map (item_row e.0) (items_of (totals-put setup s.returns station standing e.0 same i))

-- ---- seats

-- a return that is put where the constituency has no seats leaves the seats
seats_stay : (setup : List Constituency) (s t : State) (con : Constituency) (place : Station) (station : List ℕ) (r : StationReturn) (given : List ℕ → List ℕ) → IsSetup setup
    → station_with station setup ≡ Some (con, place) → (con_state s con.code).certified ≡ false → (con_state t con.code).certified ≡ false → t.returns ≡ insert s.returns station r
    → ((q : List ℕ) → q ≢ con.code → con_state t q ≡ con_state s q) → AreSeats setup s given → AreSeats setup t given
seats_stay setup s t con place station r given limits at was_open is_open put others was code other found = go (bytes_eq other.code con.code) refl
  where
    go : (b : Bool) → bytes_eq other.code con.code ≡ b → HasSeats other (view_of other t (given other.code)) (con_state t other.code).certified
    go true tied =
        let key : other.code ≡ con.code = (bytes_eq-Decides other.code con.code).0 tied in
        let before : (con_state s other.code).certified ≡ false = ap (λ q. (con_state s q).certified) key ∙ was_open in
        let now : (con_state t other.code).certified ≡ false = ap (λ q. (con_state t q).certified) key ∙ is_open in
        let none : given other.code ≡ [] = subst (HasSeats other (view_of other s (given other.code))) before (was code other found) in
        subst (HasSeats other (view_of other t (given other.code))) (sym now) none
    go false differ =
        let distinct : other.code ≢ con.code = λ same. let tied : bytes_eq other.code con.code ≡ true = (bytes_eq-Decides other.code con.code).1 same in cc in
        let elsewhere = station-elsewhere setup code station con other place limits at found distinct in
        let closed : closed_counts t.returns other.stations ≡ closed_counts s.returns other.stations =
        ap (λ (m : StationReturns). closed_counts m other.stations) put ∙ closed_counts-same (insert s.returns station r) s.returns other.stations (put-elsewhere s.returns station r other.stations elsewhere) in
        subst (λ (c : ConState). HasSeats other (view_with other c t.returns (given other.code)) c.certified) (sym (others other.code distinct))
        (seats-put other (con_state s other.code) s.returns t.returns (given other.code) (con_state s other.code).certified closed (was code other found))

-- ---- a return that counts now

-- the returns where neither of their tables has changed
returns_stay : (setup : List Constituency) (text : List ℕ) (s : State) (old mid : Seen) → AreTables setup text s old.now.trees → stored_in Returns mid ≡ stored_in Returns old
    → stored_in Counts mid ≡ stored_in Counts old → AreReturnsIn setup s.returns mid
returns_stay setup text s old mid were heads counts = record {
  heads = subst (AreRowsOf (return_rows setup) s.returns) (sym heads) were.returns;
  counts = subst (AreRowsOf count_rows s.returns) (sym counts) were.counts;
}

closed_tables : (setup : List Constituency) (text : List ℕ) (s : State) (con : Constituency) (place : Station) (station : List ℕ) (standing : StationReturn) (old mid new : Seen) → IsSetup setup
    → station_with station setup ≡ Some (con, place) → (con_state s con.code).certified ≡ false → AreTables setup text s old.now.trees → HasSums setup s station standing old mid
    → PutsReturn setup s.returns station standing mid new → AreTables setup text (with_return s (Some station) standing) new.now.trees
closed_tables setup text s con place station standing old mid new limits at is_open were sums put = record {
  given = were.given;
  allotted = seats_stay setup s (with_return s (Some station) standing) con place station standing were.given limits at is_open is_open refl (λ q differ. refl) were.allotted;
  setup_is = put.setup_is ∙ sums.0.setup_is ∙ were.setup_is;
  returns = put.returns_are.heads;
  counts = put.returns_are.counts;
  cons = subst (AreRowsOf con_rows s.cons) (sym (stays Cons (apart Cons Totals refl) (apart Cons Returns refl) (apart Cons Counts refl))) were.cons;
  lots = subst (AreRowsOf lot_rows s.cons) (sym (stays Lots (apart Lots Totals refl) (apart Lots Returns refl) (apart Lots Counts refl))) were.lots;
  seats = subst (AreRowsOf (seat_rows were.given) s.cons) (sym (stays Seats (apart Seats Totals refl) (apart Seats Returns refl) (apart Seats Counts refl))) were.seats;
  gone = subst (AreRowsOf gone_rows s.cons) (sym (stays Gone (apart Gone Totals refl) (apart Gone Returns refl) (apart Gone Counts refl))) were.gone;
  totals = subst (AreRowsOf (total_rows setup (insert s.returns station standing)) s.cons) (sym (put.others Totals (apart Totals Returns refl) (apart Totals Counts refl))) sums.1;
  past = subst (AreRowsOf past_rows s.cons) (sym (stays Past (apart Past Totals refl) (apart Past Returns refl) (apart Past Counts refl))) were.past;
}
  where
    stays : (u : KeyedTable) → tree_of u ≢ tree_of Totals → tree_of u ≢ tree_of Returns → tree_of u ≢ tree_of Counts → stored_in u new ≡ stored_in u old
    stays u totals heads counts = put.others u heads counts ∙ sums.0.others u totals

pub closed_moved : (setup : List Constituency) (text : List ℕ) (s : State) (con : Constituency) (place : Station) (station : List ℕ) (before standing : StationReturn) (old mid new : Seen)
    (result : Result Unit Error) → HasCleanDisk new → IsSetup setup → station_with station setup ≡ Some (con, place) → (con_state s con.code).certified ≡ false → get s.returns station ≡ Some before
    → before.counts ≡ standing.counts → AreTables setup text s old.now.trees → HasSums setup s station standing old mid → ChangesReturn station standing mid new result
    → OnOk result (IsInState setup text (with_return s (Some station) standing) new)
closed_moved setup text s con place station before standing old mid new result clean limits at is_open stood same were sums changes =
    IfOk-weaker result _ _ (λ done put. record {
      inside = put.inside;
      tables = closed_tables setup text s con place station standing old mid new limits at is_open were sums put;
    }) (changes clean sums.0.inside setup s.returns before stood same
    (returns_stay setup text s old mid were (sums.0.others Returns (apart Returns Totals refl)) (sums.0.others Counts (apart Counts Totals refl))))

-- ---- a return that counts no longer

queried_tables : (setup : List Constituency) (text : List ℕ) (s : State) (con : Constituency) (place : Station) (station : List ℕ) (standing : StationReturn) (old mid bare new : Seen) → IsSetup setup
    → station_with station setup ≡ Some (con, place) → IsLawfulState setup s → (con_state s con.code).certified ≡ false → AreTables setup text s old.now.trees
    → HasSums setup s station standing old mid → HasMoved Lots lot_rows con.code (HasLot []) mid bare → PutsReturn setup s.returns station standing bare new
    → AreTables setup text (with_return (without_lot s (Some con.code)) (Some station) standing) new.now.trees
queried_tables setup text s con place station standing old mid bare new limits at lawful is_open were sums lots put = record {
  given = were.given;
  allotted = seats_stay setup s t con place station standing were.given limits at is_open (ap (λ (c : ConState). c.certified) own ∙ is_open) refl other_cons were.allotted;
  setup_is = put.setup_is ∙ lots.0.setup_is ∙ sums.0.setup_is ∙ were.setup_is;
  returns = put.returns_are.heads;
  counts = put.returns_are.counts;
  cons = kept_rows con_rows cons_keyed s.cons code before now _ _ here refl (stays Cons (apart Cons Totals refl) (apart Cons Lots refl) (apart Cons Returns refl) (apart Cons Counts refl)) were.cons;
  lots =
      subst (AreRowsOf lot_rows (insert s.cons code now)) (sym (put.others Lots (apart Lots Returns refl) (apart Lots Counts refl)))
      (lots.1 s.cons before now here refl (subst (AreRowsOf lot_rows s.cons) (sym (sums.0.others Lots (apart Lots Totals refl))) were.lots));
  seats = kept_rows (seat_rows were.given) (seats_keyed were.given) s.cons code before now _ _ here refl
      (stays Seats (apart Seats Totals refl) (apart Seats Lots refl) (apart Seats Returns refl) (apart Seats Counts refl)) were.seats;
  gone = kept_rows gone_rows gone_keyed s.cons code before now _ _ here refl (stays Gone (apart Gone Totals refl) (apart Gone Lots refl) (apart Gone Returns refl) (apart Gone Counts refl)) were.gone;
  totals = kept_rows (total_rows setup t.returns) (totals_keyed setup t.returns) s.cons code before now _ _ here refl
      (put.others Totals (apart Totals Returns refl) (apart Totals Counts refl) ∙ lots.0.others Totals (apart Totals Lots refl)) sums.1;
  past = kept_rows past_rows past_keyed s.cons code before now _ _ here refl (stays Past (apart Past Totals refl) (apart Past Lots refl) (apart Past Returns refl) (apart Past Counts refl)) were.past;
}
  where
    code : List ℕ
    code = con.code

    before : ConState
    before = con_state s code

    now : ConState
    now = record before { lot = [] }

    t : State
    t = with_return (without_lot s (Some code)) (Some station) standing

    here : get s.cons code ≡ Some before
    here = stands setup s con lawful (station_with-con setup station con place limits at)

    own : con_state t code ≡ now
    own = ap (λ found. unwrap_or found opening_con) (get-put s.cons code now)

    other_cons : (q : List ℕ) → q ≢ code → con_state t q ≡ con_state s q
    other_cons q differ = ap (λ found. unwrap_or found opening_con) (get-kept s.cons code now q differ)

    stays : (u : KeyedTable) → tree_of u ≢ tree_of Totals → tree_of u ≢ tree_of Lots → tree_of u ≢ tree_of Returns → tree_of u ≢ tree_of Counts → stored_in u new ≡ stored_in u old
    stays u totals lot heads counts = put.others u heads counts ∙ lots.0.others u lot ∙ sums.0.others u totals

pub queried_moved : (setup : List Constituency) (text : List ℕ) (s : State) (con : Constituency) (place : Station) (station : List ℕ) (before standing : StationReturn) (old mid bare new : Seen)
    (result : Result Unit Error) → HasCleanDisk new → IsSetup setup → station_with station setup ≡ Some (con, place) → IsLawfulState setup s → (con_state s con.code).certified ≡ false
    → get s.returns station ≡ Some before → before.counts ≡ standing.counts → AreTables setup text s old.now.trees → HasSums setup s station standing old mid
    → HasMoved Lots lot_rows con.code (HasLot []) mid bare → ChangesReturn station standing bare new result
    → OnOk result (IsInState setup text (with_return (without_lot s (Some con.code)) (Some station) standing) new)
queried_moved setup text s con place station before standing old mid bare new result clean limits at lawful is_open stood same were sums lots changes =
    IfOk-weaker result _ _ (λ done put. record {
      inside = put.inside;
      tables = queried_tables setup text s con place station standing old mid bare new limits at lawful is_open were sums lots put;
    }) (changes clean lots.0.inside setup s.returns before stood same (returns_stay setup text s old bare were
    (lots.0.others Returns (apart Returns Lots refl) ∙ sums.0.others Returns (apart Returns Totals refl))
    (lots.0.others Counts (apart Counts Lots refl) ∙ sums.0.others Counts (apart Counts Totals refl))))

-- ---- a return that is corrected

-- a lawful return is for the lists of its constituency
for_lists : (setup : List Constituency) (station : List ℕ) (con : Constituency) (place : Station) (standing : StationReturn) → station_with station setup ≡ Some (con, place)
    → IsLawfulAt setup station standing → length standing.counts.votes ≡ length con.lists
for_lists setup station con place standing at lawful =
    let lists : length standing.counts.votes ≡ lawful.0.lists = eqb-true (length standing.counts.votes) lawful.0.lists (and_parts _ _ (and_parts _ _ (and_parts _ _ lawful.2.counts).0).0).0 in
    let both : Some (limits_of con place) ≡ Some lawful.0 = sym (ap (option_map (λ (p : Constituency × Station). limits_of p.0 p.1)) at) ∙ lawful.1 in
    let same : limits_of con place ≡ lawful.0 = cc in
    lists ∙ sym (ap (λ (l : StationLimits). l.lists) same)

pub corrected_moved : (setup : List Constituency) (text : List ℕ) (s : State) (con : Constituency) (place : Station) (station : List ℕ) (before standing : StationReturn) (old new : Seen)
    (result : Result Unit Error) → HasCleanDisk new → IsInside old → station_with station setup ≡ Some (con, place) → IsLawfulState setup s → get s.returns station ≡ Some before
    → counts_if_closed (Some before) ≡ [] → counts_if_closed (Some standing) ≡ [] → length standing.counts.votes ≡ length con.lists → AreTables setup text s old.now.trees
    → CorrectsReturn station standing old new result → OnOk result (IsInState setup text (with_return s (Some station) standing) new)
corrected_moved setup text s con place station before standing old new result clean inside at lawful stood uncounted uncounted_still many were corrects =
    IfOk-weaker result _ _ (λ done put. record {
      inside = put.inside;
      tables = return-put setup text s station standing old new (uncounted_still ∙ sym (ap counts_if_closed stood ∙ uncounted)) were put;
    }) (corrects clean inside setup s.returns before stood (for_lists setup station con place before at (lawful.stations station before stood) ∙ sym many)
    (record { heads = were.returns; counts = were.counts }))
