-- A change of a constituency, carried out on its tables.
use Rattle.std.proofs.Common.{◌≡◌, ◌≢◌, ◌∙◌, ◌+◌, ℕ, List, [], ◌∷◌, Bool, true, false, cond, Option, Some, None, Result, Ok, map, refl, sym, ap, subst, arith}
use Rattle.std.specs.Prelude.{All, is_some, unwrap_or}
use Rattle.std.proofs.lemmas.Result.{IfOk-weaker}
use Rattle.std.specs.Cmp.{eq_by_cmp_equiv}
use Rattle.std.specs.Cmp.Lexicographic.{nat_list_cmp_total}
use Rattle.std.specs.FinMap.{FinMap, entries, get, insert}
use Rattle.std.specs.List.{AllByRecursion, flat_map}
use Rattle.std.specs.Ordering.{eq_by_cmp}
use Rattle.sqlite_value.specs.declared.value.Value.TheVariants.{Text}
use Rattle.sqlite_value.specs.Order.{Row, column}
use Rattle.sqlite_keyed.proofs.ListLemmas.{all-append}
use Rattle.sqlite.specs.declared.error.Error.{Error}
use Rattle.sqlite.specs.State.{State as Seen}
use Rattle.tally_store_schema.specs.Rows.{AreRowsOf}
use Rattle.tally_store_schema.proofs.RowsLemmas.{AreKeyedBy, same_rows}
use Rattle.tally_setup.specs.Code.{code_cmp}
use Rattle.tally_setup.specs.Constituency.{Constituency}
use Rattle.tally_setup.specs.Setup.{constituency_with}
use Rattle.tally_returns.specs.GoneCandidate.{GoneCandidate}
use Rattle.tally_returns.specs.Named.{con_named}
use Rattle.tally_returns.specs.PastSeats.{PastSeats}
use Rattle.tally_returns.specs.Return.{Returns as StationReturns}
use Rattle.tally_returns.specs.State.{State, ConState, con_state, opening_con}
use Rattle.tally_returns.specs.View.{View, past_records, view_of, view_with}
use Rattle.tally_returns.specs.declared.ask.Ask.{Ask}
use Rattle.tally_returns.specs.declared.change.Change.{Change}
use Rattle.tally_returns.specs.declared.reply.Reply.{Reply}
use Rattle.tally_returns.specs.declared.reply.Reply.TheVariants.{Edition, Vacated}
use Rattle.tally_returns.proofs.ClosedLemmas.{apart-untied, same-tied}
use Rattle.tally_machine_law.specs.LawfulState.{IsLawfulState}
use Rattle.tally_machine_law.specs.Outcome.{HasSeats, IsLawfulPast, IsOutcome, allotted}
use Rattle.tally_machine_law.specs.Step.{ConChange, Decides, IsConDecision, IsView, certified_with, con_change, edition_now, gone_for_good, lot_set, open_again, with_con}
use Rattle.tally_machine_law.proofs.ConStateLemmas.{con_state-changed, con_state-with_con, same_code}
use Rattle.tally_machine_law.proofs.ConStepLemmas.{same-constituency}
use Rattle.tally_machine_law.proofs.DecisionLemmas.{gone-once}
use Rattle.tally_machine_law.proofs.LawfulViewLemmas.{certified-seats, drawn-open}
use Rattle.tally_machine_law.proofs.PastLemmas.{past-lawful}
use Rattle.tally_store_schema.specs.declared.table.KeyedTable.TheVariants.{Returns, Counts, Cons, Lots, Seats, Gone, Totals, Past}
use Rattle.tally_store_rows.specs.Cells.{con_rows, gone_row, gone_rows, items_of, lot_rows, numbers_with_places, past_row, past_rows, record_rows, seat_rows, total_rows, totals_of}
use Rattle.tally_store_rows.specs.TablesOfState.{AreSeats, AreTables}
use Rattle.tally_store_entries.specs.internal.Constituencies.{ChangesOnly, HasGone, MovesRows, MovesSeats, with_past_of}
use Rattle.tally_store_entries.specs.internal.Entries.{stored_in}
use Rattle.tally_store_entries.proofs.ReturnLemmas.{items_keyed}
use Rattle.tally_store_commands.specs.internal.Changes.{CarriesDecided, HasWrittenLot, HasWrittenRecord, HasWrittenSeats, HoldsCon}
use Rattle.tally_store_commands.specs.internal.Changes.{CarriesChange, IsChangeCarriedOut}
use Rattle.tally_store_commands.proofs.DecidedLemmas.{certifying, drawing, reopening}
use Rattle.tally_store_commands.proofs.WriteLemmas.{apart}

-- ---- tables of constituencies by their codes

pub cons_keyed : AreKeyedBy con_rows
cons_keyed e = (refl, tt)

lots_keyed : AreKeyedBy lot_rows
lots_keyed e = items_keyed e.0 (numbers_with_places 1 e.1.lot)

pub seats_keyed : (given : List ℕ → List ℕ) → AreKeyedBy (seat_rows given)
seats_keyed given e = items_keyed e.0 (numbers_with_places 1 (given e.0))

pub totals_keyed : (setup : List Constituency) (returns : StationReturns) → AreKeyedBy (total_rows setup returns)
totals_keyed setup returns e = items_keyed e.0 (items_of (totals_of setup returns e.0))

each_keyed : {X : Type 0} (key : List ℕ) (f : X → Row) → ((x : X) → column (f x) 0 ≡ Text key) → (xs : List X) → AllByRecursion (λ c. column c 0 ≡ Text key) (map f xs)
each_keyed key f is [] = tt
each_keyed key f is (x ∷ xs) = (is x, each_keyed key f is xs)

flat_keyed : {X : Type 0} (key : List ℕ) (f : X → List Row) → ((x : X) → AllByRecursion (λ c. column c 0 ≡ Text key) (f x)) → (xs : List X) → AllByRecursion (λ c. column c 0 ≡ Text key) (flat_map f xs)
flat_keyed key f is [] = tt
flat_keyed key f is (x ∷ xs) = all-append (λ c. column c 0 ≡ Text key) (f x) (flat_map f xs) (is x) (flat_keyed key f is xs)

pub gone_keyed : AreKeyedBy gone_rows
gone_keyed e = each_keyed e.0 (gone_row e.0) (λ x. refl) (entries e.1.gone)

pub past_keyed : AreKeyedBy past_rows
past_keyed e = flat_keyed e.0 (record_rows e.0) (λ x. each_keyed e.0 (past_row e.0 x.0) (λ i. refl) (numbers_with_places 1 x.1)) (entries e.1.past)

-- ---- tables that a call leaves

-- a constituency changes in what a table does not hold
pub kept_rows : (rows_of : List ℕ × ConState → List Row) → AreKeyedBy rows_of → (cons : FinMap code_cmp ConState) (code : List ℕ) (before now : ConState) (old new : List Row) → get cons code ≡ Some before
    → rows_of (code, now) ≡ rows_of (code, before) → new ≡ old → AreRowsOf rows_of cons old → AreRowsOf rows_of (insert cons code now) new
kept_rows rows_of keyed cons code before now old new is same stays held = subst (AreRowsOf rows_of (insert cons code now)) (sym stays) (same_rows rows_of keyed cons code before now old is same held)

-- ---- what a state says of a constituency

found-some : (found : Option ConState) → is_some found ≡ true → found ≡ Some (unwrap_or found opening_con)
found-some None is = cc
found-some (Some c) is = refl

pub stands : (setup : List Constituency) (s : State) (con : Constituency) → IsLawfulState setup s → constituency_with con.code setup ≡ Some con → get s.cons con.code ≡ Some (con_state s con.code)
stands setup s con lawful found = found-some (get s.cons con.code) (lawful.known con.code ∙ ap is_some found)

pub holds : (setup : List Constituency) (text : List ℕ) (s : State) (con : Constituency) (key : List ℕ) (old : Seen) → key ≡ con.code → constituency_with con.code setup ≡ Some con → IsLawfulState setup s
    → AreTables setup text s old.now.trees → HoldsCon key old
holds setup text s con key old same known lawful was =
    record { cons = s.cons; before = con_state s con.code; is = subst (λ k. get s.cons k ≡ Some (con_state s con.code)) (sym same) (stands setup s con lawful known); rows = was.cons }

-- the seats of each constituency after a change of one
seats_after : (setup : List Constituency) (s : State) (con : Constituency) (given next : List ℕ → List ℕ) (now : ConState) → constituency_with con.code setup ≡ Some con → AreSeats setup s given
    → HasSeats con (view_with con now s.returns (next con.code)) now.certified → ((other : List ℕ) → other ≢ con.code → next other ≡ given other) → AreSeats setup (with_con s con.code now) next
seats_after setup s con given next now known was has others code other found = go (eq_by_cmp code_cmp other.code con.code) refl
  where
    t : State
    t = with_con s con.code now

    go : (b : Bool) → eq_by_cmp code_cmp other.code con.code ≡ b → HasSeats other (view_of other t (next other.code)) (con_state t other.code).certified
    go true tied =
        let same : con ≡ other = same-constituency setup con.code code con other known found (same_code other.code con.code tied) in
        let here : HasSeats con (view_of con t (next con.code)) (con_state t con.code).certified =
        subst (λ (c : ConState). HasSeats con (view_with con c s.returns (next con.code)) c.certified) (sym (con_state-changed s con.code now)) has in
        subst (λ (c : Constituency). HasSeats c (view_of c t (next c.code)) (con_state t c.code).certified) same here
    go false differ =
        let distinct : other.code ≢ con.code = λ same.
        let tied : eq_by_cmp code_cmp other.code con.code ≡ true = subst (λ q. eq_by_cmp code_cmp q con.code ≡ true) (sym same) ((eq_by_cmp_equiv nat_list_cmp_total).refl con.code) in cc in
        let stays : con_state t other.code ≡ con_state s other.code = con_state-with_con s con.code now other.code ∙ ap (λ b. cond b now (con_state s other.code)) differ in
        subst (λ (seats : List ℕ). HasSeats other (view_of other t seats) (con_state t other.code).certified) (sym (others other.code distinct))
        (subst (λ (c : ConState). HasSeats other (view_with other c s.returns (given other.code)) c.certified) (sym stays) (was code other found))

-- ---- a candidate is gone

-- what `put_gone` does
abbrev pub HasGoneMoved : List ℕ → GoneCandidate → Seen → Seen → Type 0
HasGoneMoved code gone old new = ChangesOnly Gone old new × MovesRows Gone gone_rows code (HasGone gone) old new

gone_right : (con : Constituency) (c : ConState) (returns : StationReturns) (seats key note : List ℕ) (b : Bool) → HasSeats con (view_with con c returns seats) b
    → HasSeats con (view_with con (record c { gone = insert c.gone key note }) returns seats) b
gone_right con c returns seats key note true has = has
gone_right con c returns seats key note false has = has

gone_tables : (setup : List Constituency) (text : List ℕ) (s : State) (con : Constituency) (gone : GoneCandidate) (old new : Seen) → constituency_with con.code setup ≡ Some con
    → get s.cons con.code ≡ Some (con_state s con.code) → get (con_state s con.code).gone (gone.list ∷ gone.place ∷ []) ≡ None → AreTables setup text s old.now.trees
    → HasGoneMoved con.code gone old new
    → AreTables setup text (with_con s con.code (record (con_state s con.code) { gone = insert (con_state s con.code).gone (gone.list ∷ gone.place ∷ []) gone.note })) new.now.trees
gone_tables setup text s con gone old new known here none was moved =
    let code = con.code in
    let before = con_state s code in
    let now : ConState = record before { gone = insert before.gone (gone.list ∷ gone.place ∷ []) gone.note } in
    let stays = moved.0.others in
    record {
      given = was.given;
      allotted = seats_after setup s con was.given was.given now known was.allotted
          (gone_right con before s.returns (was.given code) (gone.list ∷ gone.place ∷ []) gone.note before.certified (was.allotted code con known)) (λ other differ. refl);
      setup_is = moved.0.setup_is ∙ was.setup_is;
      returns = subst (AreRowsOf _ s.returns) (sym (stays Returns (apart Returns Gone refl))) was.returns;
      counts = subst (AreRowsOf _ s.returns) (sym (stays Counts (apart Counts Gone refl))) was.counts;
      cons = kept_rows con_rows cons_keyed s.cons code before now _ _ here refl (stays Cons (apart Cons Gone refl)) was.cons;
      lots = kept_rows lot_rows lots_keyed s.cons code before now _ _ here refl (stays Lots (apart Lots Gone refl)) was.lots;
      seats = kept_rows (seat_rows was.given) (seats_keyed was.given) s.cons code before now _ _ here refl (stays Seats (apart Seats Gone refl)) was.seats;
      gone = moved.1 s.cons before now here (none, refl) was.gone;
      totals = kept_rows (total_rows setup s.returns) (totals_keyed setup s.returns) s.cons code before now _ _ here refl (stays Totals (apart Totals Gone refl)) was.totals;
      past = kept_rows past_rows past_keyed s.cons code before now _ _ here refl (stays Past (apart Past Gone refl)) was.past;
    }

pub gone_carried : (setup : List Constituency) (text : List ℕ) (s : State) (con : Constituency) (view : View) (ask : Ask) (gone : GoneCandidate) (next : Option ℕ) (old new : Seen)
    → constituency_with con.code setup ≡ Some con → con_named ask ≡ Some con.code → Decides con view ask (Ok (gone_for_good gone next)) → IsLawfulState setup s → IsView con s view
    → AreTables setup text s old.now.trees → HasGoneMoved con.code gone old new
    → IsChangeCarriedOut setup text s con view (gone_for_good gone next) (Vacated next) new
gone_carried setup text s con view ask gone next old new known named decides lawful seen was moved = record {
  answered = refl;
  in_state = record {
    inside = moved.0.inside;
    tables = gone_tables setup text s con gone old new known (stands setup s con lawful known)
        (gone-once setup s con con.code view ask gone next (named, known) seen decides) was moved;
  };
}

-- ---- a lot is recorded

-- what is written of a constituency, by what is seen of it
pub record AreOf (con : Constituency) (view : View) (key : List ℕ) (edition : ℕ) : Type 0 where
  pub key_is : key ≡ con.code
  pub edition_is : edition ≡ view.edition + 1

-- one that is not certified has no seats
open_seats : (con : Constituency) (before now : ConState) (returns : StationReturns) (seats : List ℕ) (b : Bool) → before.certified ≡ false → b ≡ false → HasSeats con (view_with con before returns seats) before.certified
    → HasSeats con (view_with con now returns seats) b
open_seats con before now returns seats b was is has =
    let none : seats ≡ [] = subst (λ (x : Bool). HasSeats con (view_with con before returns seats) x) was has in
    subst (λ (x : Bool). HasSeats con (view_with con now returns seats) x) (sym is) none

lot_tables : (setup : List Constituency) (text : List ℕ) (s : State) (con : Constituency) (view : View) (edition : ℕ) (lot : List ℕ) (old new : Seen) → constituency_with con.code setup ≡ Some con
    → get s.cons con.code ≡ Some (con_state s con.code) → edition ≡ (con_state s con.code).edition + 1 → view ≡ view_of con s view.seats → view.certified ≡ false → AreTables setup text s old.now.trees
    → HasWrittenLot con.code edition view.certified view.note lot old new
    → AreTables setup text (with_con s con.code (record (con_state s con.code) { edition = (con_state s con.code).edition + 1; lot = lot })) new.now.trees
lot_tables setup text s con view edition lot old new known here edition_is seen is_open was written =
    let code = con.code in
    let before = con_state s code in
    let now : ConState = record before { edition = before.edition + 1; lot = lot } in
    let stays = written.only.others in
    let still : before.certified ≡ false = sym (ap (λ (v : View). v.certified) seen) ∙ is_open in
    record {
      given = was.given;
      allotted = seats_after setup s con was.given was.given now known was.allotted
          (open_seats con before now s.returns (was.given code) before.certified still still (was.allotted code con known)) (λ other differ. refl);
      setup_is = written.only.setup_is ∙ was.setup_is;
      returns = subst (AreRowsOf _ s.returns) (sym (stays Returns (apart Returns Cons refl, (apart Returns Lots refl, tt)))) was.returns;
      counts = subst (AreRowsOf _ s.returns) (sym (stays Counts (apart Counts Cons refl, (apart Counts Lots refl, tt)))) was.counts;
      cons = written.cons s.cons before now here (sym edition_is, sym (ap (λ (v : View). v.certified) seen), sym (ap (λ (v : View). v.note) seen)) was.cons;
      lots = written.lots s.cons before now here refl was.lots;
      seats = kept_rows (seat_rows was.given) (seats_keyed was.given) s.cons code before now _ _ here refl (stays Seats (apart Seats Cons refl, (apart Seats Lots refl, tt))) was.seats;
      gone = kept_rows gone_rows gone_keyed s.cons code before now _ _ here refl (stays Gone (apart Gone Cons refl, (apart Gone Lots refl, tt))) was.gone;
      totals = kept_rows (total_rows setup s.returns) (totals_keyed setup s.returns) s.cons code before now _ _ here refl (stays Totals (apart Totals Cons refl, (apart Totals Lots refl, tt))) was.totals;
      past = kept_rows past_rows past_keyed s.cons code before now _ _ here refl (stays Past (apart Past Cons refl, (apart Past Lots refl, tt))) was.past;
    }

pub lot_carried : (setup : List Constituency) (text : List ℕ) (s : State) (con : Constituency) (view : View) (ask : Ask) (lot key : List ℕ) (edition : ℕ) (old new : Seen)
    → constituency_with con.code setup ≡ Some con → Decides con view ask (Ok (lot_set lot)) → AreOf con view key edition → IsLawfulState setup s → IsView con s view
    → AreTables setup text s old.now.trees → HasWrittenLot key edition view.certified view.note lot old new → IsChangeCarriedOut setup text s con view (lot_set lot) (Edition edition) new
lot_carried setup text s con view ask lot key edition old new known decides is lawful seen was written =
    let by = drawing con view ask lot decides in
    let now : HasWrittenLot con.code edition view.certified view.note lot old new = subst (λ k. HasWrittenLot k edition view.certified view.note lot old new) is.key_is written in
    record {
      answered = ap (λ n. Ok (edition_now n)) is.edition_is;
      in_state = record {
        inside = now.only.inside;
        tables = lot_tables setup text s con view edition lot old new known (stands setup s con lawful known) (is.edition_is ∙ ap (λ (v : View). v.edition + 1) seen.0) seen.0
            (drawn-open con view by.0 by.1 lot by.2) was now;
      };
    }

-- ---- seats are given, or taken back

-- the seats of one constituency in place of those that it had
abbrev seats_with : List ℕ → List ℕ → (List ℕ → List ℕ) → List ℕ → List ℕ
seats_with code seats given q = cond (eq_by_cmp code_cmp q code) seats (given q)

seats_own : (code seats : List ℕ) (given : List ℕ → List ℕ) → seats_with code seats given code ≡ seats
seats_own code seats given = ap (λ b. cond b seats (given code)) (same-tied code code refl)

seats_other : (code seats : List ℕ) (given : List ℕ → List ℕ) (other : List ℕ) → other ≢ code → seats_with code seats given other ≡ given other
seats_other code seats given other differ = ap (λ b. cond b seats (given other)) (apart-untied other code differ)

-- the rows of `seats` where what else is kept of the constituency changes too
given_rows : (code seats : List ℕ) (given : List ℕ → List ℕ) (cons : FinMap code_cmp ConState) (before now : ConState) (old new : Seen) → get cons code ≡ Some before → MovesSeats code seats old new
    → AreRowsOf (seat_rows given) cons (stored_in Seats old) → AreRowsOf (seat_rows (seats_with code seats given)) (insert cons code now) (stored_in Seats new)
given_rows code seats given cons before now old new here moved held =
    same_rows (seat_rows (seats_with code seats given)) (seats_keyed (seats_with code seats given)) cons code before now (stored_in Seats new) here refl
    (moved cons given (seats_with code seats given) (ap is_some here) (seats_own code seats given) (seats_other code seats given) held)

certified_tables : (setup : List Constituency) (text : List ℕ) (s : State) (con : Constituency) (view : View) (edition : ℕ) (seats : List ℕ) (old new : Seen) → constituency_with con.code setup ≡ Some con
    → get s.cons con.code ≡ Some (con_state s con.code) → edition ≡ (con_state s con.code).edition + 1 → view ≡ view_of con s view.seats → IsOutcome con view (allotted seats) → AreTables setup text s old.now.trees
    → HasWrittenSeats con.code edition true view.note seats old new
    → AreTables setup text (with_con s con.code (record (con_state s con.code) { edition = (con_state s con.code).edition + 1; certified = true })) new.now.trees
certified_tables setup text s con view edition seats old new known here edition_is seen outcome was written =
    let code = con.code in
    let before = con_state s code in
    let now : ConState = record before { edition = before.edition + 1; certified = true } in
    let next = seats_with code seats was.given in
    let stays = written.only.others in
    let has : HasSeats con (view_with con now s.returns seats) true = subst (λ (v : View). IsOutcome con v (allotted seats)) seen outcome in
    record {
      given = next;
      allotted = seats_after setup s con was.given next now known was.allotted
          (subst (λ (l : List ℕ). HasSeats con (view_with con now s.returns l) true) (sym (seats_own code seats was.given)) has) (seats_other code seats was.given);
      setup_is = written.only.setup_is ∙ was.setup_is;
      returns = subst (AreRowsOf _ s.returns) (sym (stays Returns (apart Returns Cons refl, (apart Returns Seats refl, tt)))) was.returns;
      counts = subst (AreRowsOf _ s.returns) (sym (stays Counts (apart Counts Cons refl, (apart Counts Seats refl, tt)))) was.counts;
      cons = written.cons s.cons before now here (sym edition_is, refl, sym (ap (λ (v : View). v.note) seen)) was.cons;
      lots = kept_rows lot_rows lots_keyed s.cons code before now _ _ here refl (stays Lots (apart Lots Cons refl, (apart Lots Seats refl, tt))) was.lots;
      seats = given_rows code seats was.given s.cons before now old new here written.seats was.seats;
      gone = kept_rows gone_rows gone_keyed s.cons code before now _ _ here refl (stays Gone (apart Gone Cons refl, (apart Gone Seats refl, tt))) was.gone;
      totals = kept_rows (total_rows setup s.returns) (totals_keyed setup s.returns) s.cons code before now _ _ here refl (stays Totals (apart Totals Cons refl, (apart Totals Seats refl, tt))) was.totals;
      past = kept_rows past_rows past_keyed s.cons code before now _ _ here refl (stays Past (apart Past Cons refl, (apart Past Seats refl, tt))) was.past;
    }

pub certified_carried : (setup : List Constituency) (text : List ℕ) (s : State) (con : Constituency) (view : View) (ask : Ask) (seats key : List ℕ) (edition : ℕ) (old new : Seen)
    → constituency_with con.code setup ≡ Some con → Decides con view ask (Ok (certified_with seats)) → AreOf con view key edition → IsLawfulState setup s → IsView con s view
    → AreTables setup text s old.now.trees → HasWrittenSeats key edition true view.note seats old new → IsChangeCarriedOut setup text s con view (certified_with seats) (Edition edition) new
certified_carried setup text s con view ask seats key edition old new known decides is lawful seen was written =
    let by = certifying con view ask seats decides in
    let now : HasWrittenSeats con.code edition true view.note seats old new = subst (λ k. HasWrittenSeats k edition true view.note seats old new) is.key_is written in
    record {
      answered = ap (λ n. Ok (edition_now n)) is.edition_is;
      in_state = record {
        inside = now.only.inside;
        tables = certified_tables setup text s con view edition seats old new known (stands setup s con lawful known) (is.edition_is ∙ ap (λ (v : View). v.edition + 1) seen.0) seen.0
            (certified-seats con view by.0 seats by.1) was now;
      };
    }

-- ---- a certificate is reopened

-- no certificate of the present edition is on record
none_yet : (setup : List Constituency) (s : State) (con : Constituency) (edition : ℕ) → IsLawfulState setup s → constituency_with con.code setup ≡ Some con → edition ≡ (con_state s con.code).edition
    → get (con_state s con.code).past edition ≡ None
none_yet setup s con edition lawful known is = go (get before.past edition) refl
  where
    before : ConState
    before = con_state s con.code

    all : All (IsLawfulPast con before.edition) (past_records before.past)
    all = (lawful.cons con.code con known).seen.past

    go : (found : Option (List ℕ)) → get before.past edition ≡ found → found ≡ None
    go None found = refl
    go (Some seats) found = absurd (omega (arith, is, (past-lawful con before.edition edition seats before.past found all).before))

reopened_tables : (setup : List Constituency) (text : List ℕ) (s : State) (con : Constituency) (edition : ℕ) (note : List ℕ) (standing : PastSeats) (old new : Seen) → constituency_with con.code setup ≡ Some con
    → get s.cons con.code ≡ Some (con_state s con.code) → edition ≡ (con_state s con.code).edition + 1 → get (con_state s con.code).past standing.edition ≡ None → AreTables setup text s old.now.trees
    → HasWrittenRecord con.code edition note standing old new
    → AreTables setup text (with_con s con.code (record (con_state s con.code) { edition = (con_state s con.code).edition + 1; certified = false; note = note; past = insert (con_state s con.code).past standing.edition standing.seats })) new.now.trees
reopened_tables setup text s con edition note standing old new known here edition_is none was written =
    let code = con.code in
    let before = con_state s code in
    let now : ConState = record before { edition = before.edition + 1; certified = false; note = note; past = insert before.past standing.edition standing.seats } in
    let next = seats_with code [] was.given in
    let stays = written.only.others in
    record {
      given = next;
      allotted = seats_after setup s con was.given next now known was.allotted (seats_own code [] was.given) (seats_other code [] was.given);
      setup_is = written.only.setup_is ∙ was.setup_is;
      returns = subst (AreRowsOf _ s.returns) (sym (stays Returns (apart Returns Cons refl, (apart Returns Seats refl, (apart Returns Past refl, tt))))) was.returns;
      counts = subst (AreRowsOf _ s.returns) (sym (stays Counts (apart Counts Cons refl, (apart Counts Seats refl, (apart Counts Past refl, tt))))) was.counts;
      cons = written.cons s.cons before now here (sym edition_is, refl, refl) was.cons;
      lots = kept_rows lot_rows lots_keyed s.cons code before now _ _ here refl (stays Lots (apart Lots Cons refl, (apart Lots Seats refl, (apart Lots Past refl, tt)))) was.lots;
      seats = given_rows code [] was.given s.cons before now old new here written.seats was.seats;
      gone = kept_rows gone_rows gone_keyed s.cons code before now _ _ here refl (stays Gone (apart Gone Cons refl, (apart Gone Seats refl, (apart Gone Past refl, tt)))) was.gone;
      totals = kept_rows (total_rows setup s.returns) (totals_keyed setup s.returns) s.cons code before now _ _ here refl
          (stays Totals (apart Totals Cons refl, (apart Totals Seats refl, (apart Totals Past refl, tt)))) was.totals;
      past = written.past s.cons before now here (none, refl) was.past;
    }

pub reopened_carried : (setup : List Constituency) (text : List ℕ) (s : State) (con : Constituency) (view : View) (ask : Ask) (note key : List ℕ) (standing : PastSeats) (edition : ℕ) (old new : Seen)
    → constituency_with con.code setup ≡ Some con → Decides con view ask (Ok (open_again note standing)) → AreOf con view key edition → IsLawfulState setup s → IsView con s view
    → AreTables setup text s old.now.trees → HasWrittenRecord key edition note standing old new → IsChangeCarriedOut setup text s con view (open_again note standing) (Edition edition) new
reopened_carried setup text s con view ask note key standing edition old new known decides is lawful seen was written =
    let by = reopening con view ask note standing decides in
    let at : standing.edition ≡ (con_state s con.code).edition = ap (λ (p : PastSeats). p.edition) by.past_is ∙ ap (λ (v : View). v.edition) seen.0 in
    let now : HasWrittenRecord con.code edition note standing old new = subst (λ k. HasWrittenRecord k edition note standing old new) is.key_is written in
    record {
      answered = ap (λ n. Ok (edition_now n)) is.edition_is;
      in_state = record {
        inside = now.only.inside;
        tables = reopened_tables setup text s con edition note standing old new known (stands setup s con lawful known) (is.edition_is ∙ ap (λ (v : View). v.edition + 1) seen.0)
            (none_yet setup s con standing.edition lawful known at) was now;
      };
    }

-- ---- any change

-- what was decided is what the change is
pub change_carried : (setup : List Constituency) (con : Constituency) (view : View) (change : Change) (decided : ConChange) (old new : Seen) (r : Result Reply Error) → con_change change ≡ Some decided
    → CarriesDecided setup con view decided old new r → CarriesChange setup con view change old new r
change_carried setup con view change decided old new r is carries clean inside =
    IfOk-weaker r _ _ (λ reply done text s other ensured lawful seen was.
    let both : Some decided ≡ Some other = sym is ∙ ensured in
    let same : decided ≡ other = cc in
    subst (λ (d : ConChange). IsChangeCarriedOut setup text s con (with_past_of con s view) d reply new) same (done text s lawful seen was)) (carries clean inside)

-- and so it was decided
pub decided-as : (con : Constituency) (view : View) (ask : Ask) (change : Change) (decided : ConChange) → con_change change ≡ Some decided → IsConDecision con view ask change → Decides con view ask (Ok decided)
decided-as con view ask change decided is by =
    let both : Some by.0 ≡ Some decided = sym by.1 ∙ is in
    let same : by.0 ≡ decided = cc in
    subst (λ (d : ConChange). Decides con view ask (Ok d)) same by.2
