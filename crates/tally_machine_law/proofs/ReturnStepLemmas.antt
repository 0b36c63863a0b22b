-- A step on a return keeps a lawful state lawful.
use Rattle.std.proofs.Common.{length, ◌≡◌, ◌≢◌, ◌≤◌, ◌++◌, ◌∷◌, ◌⊎◌, ◌∙◌, ℕ, List, [], Bool, true, false, cond, map, Option, Some, None, Result, Ok, Err, refl, sym, ap, subst, inl, inr, arith}
use Rattle.std.specs.Prelude.{◌==◌, not, All, is_some, option_map, unwrap_or, string_bytes, if◌then◌else◌}
use Rattle.std.specs.Cmp.Lexicographic.{nat_list_cmp_total}
use Rattle.std.specs.FinMap as fin
use Rattle.std.specs.Option.{ForSome, option_map_or}
use Rattle.std.specs.Ordering.{eq_by_cmp}
use Rattle.std.specs.Str.{bytes_eq}
use Rattle.std.proofs.lemmas.Bool.{not-true}
use Rattle.std.proofs.lemmas.List.Elements.{All-nil}
use Rattle.std.proofs.lemmas.Slice.Eq.{bytes_eq-Decides}
use Rattle.tally_setup.specs.Code.{code_cmp}
use Rattle.tally_setup.specs.Constituency.{Constituency}
use Rattle.tally_setup.specs.Limits.{IsSetup}
use Rattle.tally_setup.specs.Setup.{constituency_with, station_with}
use Rattle.tally_setup.specs.Text.{is_note}
use Rattle.tally_setup.specs.declared.constituency.Station.{Station}
use Rattle.tally_returns.specs.Checks.{check, first_refusal, refused_or}
use Rattle.tally_returns.specs.Counts.{VoteCounts}
use Rattle.tally_returns.specs.Decide.{return_change, limits_of, lodge_change, move_change, put_next}
use Rattle.tally_returns.specs.Lawful.{IsLawful, is_note_or_empty}
use Rattle.tally_machine_law.specs.LawfulState.{IsLawfulIn, IsLawfulState, IsUnderPlaces}
use Rattle.tally_returns.specs.Lodge.{StationLimits, is_return_of, reply_after_checks, counts_checks}
use Rattle.tally_returns.specs.Moves.{close_checks, closed_return, confirm_checks, correct_checks, corrected_return, counts_checks_at, entry_checks, last_revision, may_close, may_correct, may_query, move_checks, queried_return, query_checks, same_checks}
use Rattle.tally_returns.specs.Named.{BringsCode}
use Rattle.tally_machine_law.specs.Outcome.{IsLawfulCon, IsLawfulGone, IsLawfulPast, HasLawfulLot}
use Rattle.tally_returns.specs.Progress.{is_closed}
use Rattle.tally_returns.specs.Return.{StationReturn, Returns}
use Rattle.tally_returns.specs.State.{State, ConState, con_state, opening, opening_con, opening_cons, stations_of, last_edition}
use Rattle.tally_machine_law.specs.Step.{state_after, after_return, con_of_station, change_in_state, is_certified, with_return, without_lot}
use Rattle.tally_returns.specs.View.{gone_candidate, gone_candidates, past_records, view_of, view_with}
use Rattle.tally_returns.specs.declared.ask.Ask.{Ask}
use Rattle.tally_returns.specs.declared.ask.Ask.TheVariants.{Certify, Close, Confirm, Correct, Draw, Lodge, Query, Reopen, ShowCon, ShowProgress, ShowReturn, Vacate}
use Rattle.tally_returns.specs.declared.change.Change.{Change}
use Rattle.tally_returns.specs.declared.change.Change.TheVariants.{PutReturn, Same, SetCertified, SetGone, SetLot, SetReopened}
use Rattle.tally_returns.specs.declared.refusal.Refusal.{Refusal}
use Rattle.tally_returns.specs.declared.refusal.Refusal.TheVariants.{BadNote, Certified, Differs, Exhausted, NoReturn, NoStation, Stale, WrongStatus}
use Rattle.tally_returns.specs.declared.reply.LodgeReply.TheVariants as reply
use Rattle.tally_returns.specs.declared.returns.Status.{Status}
use Rattle.tally_returns.specs.declared.returns.Status.TheVariants.{Closed, Corrected, Queried, Received}
use Rattle.tally_returns.proofs.ClosedLemmas.{IsSameAt, all_closed-at, closed_now, constituency_with-code, get-kept, get-put, put-elsewhere, same-tied, station-elsewhere, station_with-con, tied-same, view_with-same}
use Rattle.tally_returns.proofs.DecideLemmas.{decided-lawful, first_refusal-append_first, passed-rest}
use Rattle.tally_returns.proofs.StateLemmas.{station_with-in}
use Rattle.tally_machine_law.proofs.PastLemmas.{no-past}

-- ---- what is lawful of a constituency

-- a constituency stays lawful where what it has come to is the same,
-- and so are the returns of its stations
pub IsLawfulIn-same : (con : Constituency) (s t : State) → con_state t con.code ≡ con_state s con.code → All (IsSameAt t.returns s.returns) con.stations → IsLawfulIn con s → IsLawfulIn con t
IsLawfulIn-same con s t same returns lawful = record {
  seen = subst (IsLawfulCon con) seen lawful.seen;
  gone = subst (λ (c : ConState). All IsUnderPlaces (fin.entries c.gone)) (sym same) lawful.gone;
}
  where
    seen : view_of con s [] ≡ view_of con t []
    seen = ap (λ (c : ConState). view_with con c s.returns []) (sym same) ∙ sym (view_with-same con (con_state t con.code) t.returns s.returns [] returns)

-- and where it is not certified, once its lot has gone, whatever becomes of its returns
pub IsLawfulIn-open : (con : Constituency) (s t : State) → con_state t con.code ≡ record (con_state s con.code) { lot = [] } → (con_state s con.code).certified ≡ false
    → IsLawfulIn con s → IsLawfulIn con t
IsLawfulIn-open con s t now is_open lawful = record {
  seen = record {
    first = subst (λ (c : ConState). 1 ≤ c.edition) (sym now) lawful.seen.first;
    last = subst (λ (c : ConState). c.edition ≤ last_edition) (sym now) lawful.seen.last;
    note = subst (λ (c : ConState). is_note_or_empty c.note ≡ true) (sym now) lawful.seen.note;
    lot = inl (ap (λ (c : ConState). c.lot) now);
    certified = λ is. let no : false ≡ true = sym (ap (λ (c : ConState). c.certified) now ∙ is_open) ∙ is in cc;
    gone = subst (λ (c : ConState). All (IsLawfulGone con) (gone_candidates c.gone)) (sym now) lawful.seen.gone;
    past = subst (λ (c : ConState). All (IsLawfulPast con c.edition) (past_records c.past)) (sym now) lawful.seen.past;
  };
  gone = subst (λ (c : ConState). All IsUnderPlaces (fin.entries c.gone)) (sym now) lawful.gone;
}

-- where the return of a station is not closed, its constituency has no lot, and it is not certified
pub open-station : (setup : List Constituency) (s : State) (code : List ℕ) (con : Constituency) (station : Station) → IsLawfulIn con s → station_with code setup ≡ Some (con, station)
    → closed_now (fin.get s.returns code) ≡ false → ((con_state s con.code).lot ≡ []) × ((con_state s con.code).certified ≡ false)
open-station setup s code con station lawful is is_open = (no_lot lawful.seen.lot, not_certified (con_state s con.code).certified refl)
  where
    never : ¬ HasLawfulLot con (view_of con s [])
    never may = let closed : closed_now (fin.get s.returns code) ≡ true = all_closed-at con s.returns code station may.0 (station_with-in setup code con station is) in cc

    no_lot : ((con_state s con.code).lot ≡ []) ⊎ HasLawfulLot con (view_of con s []) → (con_state s con.code).lot ≡ []
    no_lot (inl none) = none
    no_lot (inr may) = absurd (never may)

    not_certified : (b : Bool) → (con_state s con.code).certified ≡ b → b ≡ false
    not_certified true is_so = absurd (never (lawful.seen.certified is_so))
    not_certified false is_so = refl

-- ---- a return that is put

-- a state in which a return was put at a station, and the lot of the
-- constituency of this code has gone
pub record IsPut (s t : State) (code station : List ℕ) (r : StationReturn) : Type 0 where
  pub returns : t.returns ≡ fin.insert s.returns station r
  pub here : con_state t code ≡ record (con_state s code) { lot = [] }
  pub others : (q : List ℕ) → q ≢ code → con_state t q ≡ con_state s q
  pub known : (q : List ℕ) → is_some (fin.get t.cons q) ≡ is_some (fin.get s.cons q)

-- what a setup says of a station that it has
limits-at : (setup : List Constituency) (code : List ℕ) (con : Constituency) (station : Station) → station_with code setup ≡ Some (con, station)
    → stations_of setup code ≡ Some (limits_of con station)
limits-at setup code con station is = ap (λ found. option_map (λ (place : Constituency × Station). limits_of place.0 place.1) found) is

-- a lawful return that is put where the constituency is not certified leaves a lawful state
pub put-lawful : (setup : List Constituency) (s t : State) (con : Constituency) (place : Station) (station : List ℕ) (r : StationReturn) → IsSetup setup → IsLawfulState setup s
    → station_with station setup ≡ Some (con, place) → IsLawful (limits_of con place) r → (con_state s con.code).certified ≡ false → IsPut s t con.code station r → IsLawfulState setup t
put-lawful setup s t con place station r is_setup lawful is right is_open put = record {
  stations = λ q standing some. at q standing (eq_by_cmp code_cmp q station) refl
      (sym (ap (λ (m : Returns). fin.get m q) put.returns ∙ fin.get-insert nat_list_cmp_total s.returns station r q) ∙ some);
  cons = λ code other found. each code other found (bytes_eq other.code con.code) refl;
  known = λ code. put.known code ∙ lawful.known code;
}
  where
    at : (q : List ℕ) (standing : StationReturn) (b : Bool) → eq_by_cmp code_cmp q station ≡ b → cond b (Some r) (fin.get s.returns q) ≡ Some standing
        → (limits : StationLimits) × (stations_of setup q ≡ Some limits) × IsLawful limits standing
    at q standing true tied some =
        let same : r ≡ standing = cc in
        (limits_of con place, ap (stations_of setup) (tied-same q station tied) ∙ limits-at setup station con place is, subst (IsLawful (limits_of con place)) same right)
    at q standing false apart some = lawful.stations q standing some

    own : constituency_with con.code setup ≡ Some con
    own = station_with-con setup station con place is_setup is

    each : (code : List ℕ) (other : Constituency) → constituency_with code setup ≡ Some other → (b : Bool) → bytes_eq other.code con.code ≡ b → IsLawfulIn other t
    each code other found true tied =
        let key : code ≡ con.code = sym (constituency_with-code setup code other found) ∙ (bytes_eq-Decides other.code con.code).0 tied in
        let again : Some con ≡ Some other = sym own ∙ ap (λ q. constituency_with q setup) (sym key) ∙ found in
        let same : con ≡ other = cc in
        subst (λ (c : Constituency). IsLawfulIn c t) same (IsLawfulIn-open con s t put.here is_open (lawful.cons con.code con own))
    each code other found false apart =
        let differ : other.code ≢ con.code = λ same. let tied : bytes_eq other.code con.code ≡ true = (bytes_eq-Decides other.code con.code).1 same in cc in
        IsLawfulIn-same other s t (put.others other.code differ)
        (subst (λ (m : Returns). All (IsSameAt m s.returns) other.stations) (sym put.returns) (put-elsewhere s.returns station r other.stations (station-elsewhere setup code station con other place is_setup is found differ)))
        (lawful.cons code other found)

-- a return that is put where there is no lot
without_lot-put : (s : State) (code station : List ℕ) (r : StationReturn) → (con_state s code).lot ≡ [] → IsPut s (record s { returns = fin.insert s.returns station r }) code station r
without_lot-put s code station r none = record {
  returns = refl;
  here = ap (λ (lot : List ℕ). record (con_state s code) { lot = lot }) none;
  others = λ q apart. refl;
  known = λ q. refl;
}

-- a return that is put, and the lot that goes
with_lot-put : (s : State) (code station : List ℕ) (r : StationReturn) → is_some (fin.get s.cons code) ≡ true → IsPut s (with_return (without_lot s (Some code)) (Some station) r) code station r
with_lot-put s code station r known = record {
  returns = refl;
  here = ap (λ found. unwrap_or found opening_con) (get-put s.cons code now);
  others = λ q apart. ap (λ found. unwrap_or found opening_con) (get-kept s.cons code now q apart);
  known = λ q. go q (eq_by_cmp code_cmp q code) refl;
}
  where
    now : ConState
    now = record (con_state s code) { lot = [] }

    go : (q : List ℕ) (b : Bool) → eq_by_cmp code_cmp q code ≡ b → is_some (fin.get (fin.insert s.cons code now) q) ≡ is_some (fin.get s.cons q)
    go q true tied =
        ap (λ x. is_some (fin.get (fin.insert s.cons code now) x)) (tied-same q code tied)
        ∙ ap is_some (get-put s.cons code now)
        ∙ sym (ap (λ x. is_some (fin.get s.cons x)) (tied-same q code tied) ∙ known)
    go q false apart = ap is_some (fin.get-insert nat_list_cmp_total s.cons code now q ∙ ap (λ b. cond b (Some now) (fin.get s.cons q)) apart)

-- ---- the decisions that put a return

-- a return that moves was in a status that the command starts from, and
-- its constituency is not certified
pub record IsMoved (certified : Bool) (found : Option StationReturn) (may_start : Status → Bool) : Type 0 where
  pub standing : StationReturn
  pub found_is : found ≡ Some standing
  pub started : may_start standing.status ≡ true
  pub is_open : certified ≡ false

move-started : (certified : Bool) (standing : StationReturn) (rev : ℕ) (may_start : Status → Bool) → first_refusal (move_checks certified (Some standing) rev may_start) ≡ None
    → (may_start standing.status ≡ true) × (certified ≡ false)
move-started certified standing rev may_start none =
    let both = go (not certified) (standing.rev == rev) (not (standing.rev == last_revision)) (may_start standing.status) none in
    (both.0, not-true certified both.1)
  where
    go : (opened same more start : Bool)
        → first_refusal (check opened Certified ∷ check same (Stale standing.rev) ∷ check more Exhausted ∷ check start (WrongStatus standing.status) ∷ []) ≡ None
        → (start ≡ true) × (opened ≡ true)
    go true true true true none = (refl, refl)
    go true true true false none = cc
    go true true false start none = cc
    go true false more start none = cc
    go false same more start none = cc

moved-from : (certified : Bool) (found : Option StationReturn) (rev : ℕ) (may_start : Status → Bool) (checks : List (Option Refusal)) (next : StationReturn → StationReturn) (r : StationReturn)
    → (first_refusal checks ≡ None → first_refusal (move_checks certified found rev may_start) ≡ None)
    → move_change checks found next ≡ Ok (PutReturn r) → IsMoved certified found may_start
moved-from certified found rev may_start checks next r rest is = go (first_refusal checks) found refl refl is
  where
    go : (refused : Option Refusal) (f : Option StationReturn) → first_refusal checks ≡ refused → found ≡ f
        → refused_or refused (Ok (put_next f next)) ≡ Ok (PutReturn r) → IsMoved certified found may_start
    go (Some e) f none some ok = cc
    go None None none some ok = cc
    go None (Some standing) none some ok =
        let moves = move-started certified standing rev may_start (subst (λ f. first_refusal (move_checks certified f rev may_start) ≡ None) some (rest none)) in
        record { standing = standing; found_is = some; started = moves.0; is_open = moves.1 }

pub append-rest : (xs ys : List (Option Refusal)) → first_refusal (xs ++ ys) ≡ None → first_refusal ys ≡ None
append-rest [] ys none = none
append-rest (None ∷ xs) ys none = append-rest xs ys none
append-rest (Some e ∷ xs) ys none = cc

-- a query moves a return only where the constituency is not certified
query-open : (station : Option StationLimits) (certified : Bool) (found : Option StationReturn) (rev : ℕ) (note : List ℕ) (r : StationReturn)
    → move_change (query_checks station certified found rev note) found (queried_return note) ≡ Ok (PutReturn r) → certified ≡ false
query-open station certified found rev note r is =
    let moves = move_checks certified found rev may_query in
    (moved-from certified found rev may_query (query_checks station certified found rev note) (queried_return note) r
    (λ none. passed-rest (is_note note) BadNote moves (passed-rest (is_some station) NoStation (check (is_note note) BadNote ∷ moves) none)) is).is_open

correct-not_closed : (status : Status) → may_correct status ≡ true → is_closed status ≡ false
correct-not_closed Received is = refl
correct-not_closed Queried is = refl
correct-not_closed Corrected is = refl
correct-not_closed Closed is = cc

close-not_closed : (status : Status) → may_close status ≡ true → is_closed status ≡ false
close-not_closed Received is = refl
close-not_closed Queried is = refl
close-not_closed Corrected is = refl
close-not_closed Closed is = cc

correct-open : (station : Option StationLimits) (certified : Bool) (found : Option StationReturn) (rev : ℕ) (slip : List ℕ) (counts : VoteCounts) (r : StationReturn)
    → move_change (correct_checks station certified found rev counts) found (corrected_return slip counts) ≡ Ok (PutReturn r) → closed_now found ≡ false
correct-open station certified found rev slip counts r is =
    let m = moved-from certified found rev may_correct (correct_checks station certified found rev counts) (corrected_return slip counts) r
    (append-rest (counts_checks_at station counts) (move_checks certified found rev may_correct)) is in
    ap closed_now m.found_is ∙ correct-not_closed m.standing.status m.started

close-open : (station : Option StationLimits) (certified : Bool) (found : Option StationReturn) (rev : ℕ) (r : StationReturn)
    → move_change (close_checks station certified found rev) found closed_return ≡ Ok (PutReturn r) → closed_now found ≡ false
close-open station certified found rev r is =
    let moves = move_checks certified found rev may_close in
    let more = option_map_or (λ (limits : StationLimits). entry_checks limits.entry) station [] in
    let m = moved-from certified found rev may_close (close_checks station certified found rev) closed_return r
    (λ none. first_refusal-append_first moves more (passed-rest (is_some station) NoStation (moves ++ more) none)) is in
    ap closed_now m.found_is ∙ close-not_closed m.standing.status m.started

confirm-open : (station : Option StationLimits) (certified : Bool) (found : Option StationReturn) (rev : ℕ) (slip : List ℕ) (counts : VoteCounts) (r : StationReturn)
    → move_change (confirm_checks station certified found rev slip counts) found closed_return ≡ Ok (PutReturn r) → closed_now found ≡ false
confirm-open station certified found rev slip counts r is =
    let moves = move_checks certified found rev may_close in
    let more = same_checks found slip counts in
    let m = moved-from certified found rev may_close (confirm_checks station certified found rev slip counts) closed_return r
    (λ none. first_refusal-append_first moves more (append-rest (counts_checks_at station counts) (moves ++ more) none)) is in
    ap closed_now m.found_is ∙ close-not_closed m.standing.status m.started

-- a return is lodged only where none is recorded
lodge-open : (limits : StationLimits) (found : Option StationReturn) (slip : List ℕ) (counts : VoteCounts) (r : StationReturn)
    → lodge_change slip counts (refused_or (first_refusal (counts_checks limits counts)) (reply_after_checks found slip counts)) ≡ Ok (PutReturn r) → closed_now found ≡ false
lodge-open limits found slip counts r is = go (first_refusal (counts_checks limits counts)) found is
  where
    again : (same : Bool) (rev : ℕ) (e : Refusal) → lodge_change slip counts (if same then Ok (reply.Same rev) else Err e) ≢ Ok (PutReturn r)
    again true rev e ok = cc
    again false rev e ok = cc

    go : (refused : Option Refusal) (f : Option StationReturn) → lodge_change slip counts (refused_or refused (reply_after_checks f slip counts)) ≡ Ok (PutReturn r) → closed_now f ≡ false
    go (Some e) f ok = cc
    go None None ok = refl
    go None (Some standing) ok = absurd (again (is_return_of slip counts standing) standing.rev (Differs standing.rev) ok)

-- no return is put where there is no station
no_station-put : (certified : Bool) (found : Option StationReturn) (ask : Ask) (r : StationReturn) → return_change None certified found ask ≢ Ok (PutReturn r)
no_station-put certified found (Lodge code slip counts) r is = cc
no_station-put certified found (Query code rev note) r is = cc
no_station-put certified found (Correct code rev slip counts) r is = cc
no_station-put certified found (Close code rev) r is = cc
no_station-put certified found (Confirm code rev slip counts) r is = cc
no_station-put certified found (ShowReturn code) r is = cc
no_station-put certified found (Draw con edition order) r is = cc
no_station-put certified found (Certify con edition) r is = cc
no_station-put certified found (Reopen con edition note) r is = cc
no_station-put certified found (Vacate con list place note) r is = cc
no_station-put certified found (ShowCon con) r is = cc
no_station-put certified found ShowProgress r is = cc

-- where a return is put, its station is one of the setup, and the return is lawful there
pub record IsPlaced (setup : List Constituency) (station : List ℕ) (certified : Bool) (found : Option StationReturn) (ask : Ask) (r : StationReturn) : Type 0 where
  pub con : Constituency
  pub place : Station
  pub is : station_with station setup ≡ Some (con, place)
  pub lawful : IsLawful (limits_of con place) r
  pub decision : return_change (Some (limits_of con place)) certified found ask ≡ Ok (PutReturn r)

pub put-placed : (setup : List Constituency) (s : State) (station : List ℕ) (certified : Bool) (ask : Ask) (r : StationReturn) → BringsCode ask → IsLawfulState setup s
    → return_change (stations_of setup station) certified (fin.get s.returns station) ask ≡ Ok (PutReturn r) → IsPlaced setup station certified (fin.get s.returns station) ask r
put-placed setup s station certified ask r brings lawful is = go (station_with station setup) refl is
  where
    go : (found : Option (Constituency × Station)) → station_with station setup ≡ found
        → return_change (option_map (λ (place : Constituency × Station). limits_of place.0 place.1) found) certified (fin.get s.returns station) ask ≡ Ok (PutReturn r)
        → IsPlaced setup station certified (fin.get s.returns station) ask r
    go None there put = absurd (no_station-put certified (fin.get s.returns station) ask r put)
    go (Some place) there put = record {
      con = place.0;
      place = place.1;
      is = there;
      lawful = decided-lawful (limits_of place.0 place.1) certified (fin.get s.returns station) ask (PutReturn r) brings stood put;
      decision = put;
    }
      where
        stood : ForSome (fin.get s.returns station) (IsLawful (limits_of place.0 place.1))
        stood standing some =
            let old = lawful.stations station standing some in
            let same : Some old.0 ≡ Some (limits_of place.0 place.1) = sym old.1 ∙ limits-at setup station place.0 place.1 there in
            let one : old.0 ≡ limits_of place.0 place.1 = cc in
            subst (λ (l : StationLimits). IsLawful l standing) one old.2

-- ---- the step

-- a return that is put where none was closed
open-put : (setup : List Constituency) (s : State) (station : List ℕ) (certified : Bool) (ask : Ask) (r : StationReturn) → IsSetup setup → IsLawfulState setup s
    → IsPlaced setup station certified (fin.get s.returns station) ask r → closed_now (fin.get s.returns station) ≡ false
    → IsLawfulState setup (record s { returns = fin.insert s.returns station r })
open-put setup s station certified ask r is_setup lawful placed is_open =
    let own = station_with-con setup station placed.con placed.place is_setup placed.is in
    let none = open-station setup s station placed.con placed.place (lawful.cons placed.con.code placed.con own) placed.is is_open in
    put-lawful setup s (record s { returns = fin.insert s.returns station r }) placed.con placed.place station r is_setup lawful placed.is placed.lawful none.1
    (without_lot-put s placed.con.code station r none.0)

-- a return that is queried, with which the lot goes
query-put : (setup : List Constituency) (s : State) (station : List ℕ) (ask : Ask) (r : StationReturn) → IsSetup setup → IsLawfulState setup s
    → IsPlaced setup station (is_certified setup s station) (fin.get s.returns station) ask r → is_certified setup s station ≡ false
    → IsLawfulState setup (with_return (without_lot s (con_of_station setup station)) (Some station) r)
query-put setup s station ask r is_setup lawful placed is_open =
    let con = placed.con in
    let own = station_with-con setup station con placed.place is_setup placed.is in
    let of : con_of_station setup station ≡ Some con.code = ap (option_map (λ (place : Constituency × Station). place.0.code)) placed.is in
    let not_certified : (con_state s con.code).certified ≡ false = sym (ap (λ code. option_map_or (λ (q : List ℕ). (con_state s q).certified) code false) of) ∙ is_open in
    subst (λ code. IsLawfulState setup (with_return (without_lot s code) (Some station) r)) (sym of)
    (put-lawful setup s (with_return (without_lot s (Some con.code)) (Some station) r) con placed.place station r is_setup lawful placed.is placed.lawful not_certified
    (with_lot-put s con.code station r (lawful.known con.code ∙ ap is_some own)))

-- a step on a return from a lawful state leads to a lawful one
pub return-step-lawful : (setup : List Constituency) (s : State) (ask : Ask) → BringsCode ask → IsSetup setup → IsLawfulState setup s → IsLawfulState setup (after_return setup s ask)
return-step-lawful setup s ask brings is_setup lawful = go (change_in_state setup s ask) refl
  where
    put : (a : Ask) (r : StationReturn) → BringsCode a → change_in_state setup s a ≡ Ok (PutReturn r) → IsLawfulState setup (state_after setup s a (Ok (PutReturn r)))
    put (Lodge station slip counts) r brings is =
        let placed = put-placed setup s station (is_certified setup s station) (Lodge station slip counts) r brings lawful is in
        open-put setup s station (is_certified setup s station) (Lodge station slip counts) r is_setup lawful placed
        (lodge-open (limits_of placed.con placed.place) (fin.get s.returns station) slip counts r placed.decision)
    put (Query station rev note) r brings is =
        let placed = put-placed setup s station (is_certified setup s station) (Query station rev note) r brings lawful is in
        query-put setup s station (Query station rev note) r is_setup lawful placed
        (query-open (stations_of setup station) (is_certified setup s station) (fin.get s.returns station) rev (string_bytes note) r is)
    put (Correct station rev slip counts) r brings is =
        let placed = put-placed setup s station (is_certified setup s station) (Correct station rev slip counts) r brings lawful is in
        open-put setup s station (is_certified setup s station) (Correct station rev slip counts) r is_setup lawful placed
        (correct-open (stations_of setup station) (is_certified setup s station) (fin.get s.returns station) rev slip counts r is)
    put (Close station rev) r brings is =
        let placed = put-placed setup s station (is_certified setup s station) (Close station rev) r brings lawful is in
        open-put setup s station (is_certified setup s station) (Close station rev) r is_setup lawful placed
        (close-open (stations_of setup station) (is_certified setup s station) (fin.get s.returns station) rev r is)
    put (Confirm station rev slip counts) r brings is =
        let placed = put-placed setup s station (is_certified setup s station) (Confirm station rev slip counts) r brings lawful is in
        open-put setup s station (is_certified setup s station) (Confirm station rev slip counts) r is_setup lawful placed
        (confirm-open (stations_of setup station) (is_certified setup s station) (fin.get s.returns station) rev slip counts r is)
    put (ShowReturn station) r brings is = shown (first_refusal (check (is_some (stations_of setup station)) NoStation ∷ check (is_some (fin.get s.returns station)) NoReturn ∷ [])) is
      where
        shown : (refused : Option Refusal) → refused_or refused (Ok Same) ≡ Ok (PutReturn r) → IsLawfulState setup (record s { returns = fin.insert s.returns station r })
        shown None ok = cc
        shown (Some e) ok = cc
    put (Draw con edition order) r brings is = lawful
    put (Certify con edition) r brings is = lawful
    put (Reopen con edition note) r brings is = lawful
    put (Vacate con list place note) r brings is = lawful
    put (ShowCon con) r brings is = lawful
    put ShowProgress r brings is = lawful

    go : (d : Result Change Refusal) → change_in_state setup s ask ≡ d → IsLawfulState setup (state_after setup s ask d)
    go (Ok Same) is = lawful
    go (Ok (PutReturn r)) is = put ask r brings is
    go (Ok (SetLot places)) is = lawful
    go (Ok (SetCertified seats)) is = lawful
    go (Ok (SetReopened note past)) is = lawful
    go (Ok (SetGone candidate next)) is = lawful
    go (Err refusal) is = lawful

-- ---- the opening state

-- what the constituency of a code opens with
abbrev found_con : List ℕ → List Constituency → Option ConState
found_con code setup = fin.find code_cmp code (map (λ (x : Constituency). (x.code, opening_con)) setup)

-- each code of a constituency opens, and no other
opens : (setup : List Constituency) (code : List ℕ) → found_con code setup ≡ option_map (λ (c : Constituency). opening_con) (constituency_with code setup)
opens [] code = refl
opens (c ∷ setup) code = go (eq_by_cmp code_cmp code c.code) (bytes_eq code c.code) refl refl (opens setup code)
  where
    go : (tied same : Bool) → eq_by_cmp code_cmp code c.code ≡ tied → bytes_eq code c.code ≡ same
        → found_con code setup ≡ option_map (λ (x : Constituency). opening_con) (constituency_with code setup)
        → cond tied (Some opening_con) (found_con code setup) ≡ option_map (λ (x : Constituency). opening_con) (cond same (Some c) (constituency_with code setup))
    go true true t e later = refl
    go true false t e later = let no : bytes_eq code c.code ≡ true = (bytes_eq-Decides code c.code).1 (tied-same code c.code t) in cc
    go false true t e later = let no : eq_by_cmp code_cmp code c.code ≡ true = same-tied code c.code ((bytes_eq-Decides code c.code).0 e) in cc
    go false false t e later = later

opening-found : (setup : List Constituency) (code : List ℕ) → fin.get (opening_cons setup) code ≡ option_map (λ (c : Constituency). opening_con) (constituency_with code setup)
opening-found setup code = fin.get-from_entries nat_list_cmp_total (map (λ (x : Constituency). (x.code, opening_con)) setup) code ∙ opens setup code

-- what the constituency of a code has come to as an office opens
opening-state : (setup : List Constituency) (code : List ℕ) → con_state (opening setup) code ≡ opening_con
opening-state setup code = ap (λ found. unwrap_or found opening_con) (opening-found setup code) ∙ opened (constituency_with code setup)
  where
    opened : (found : Option Constituency) → unwrap_or (option_map (λ (c : Constituency). opening_con) found) opening_con ≡ opening_con
    opened None = refl
    opened (Some c) = refl

-- the state that an office opens with
pub opening-lawful : (setup : List Constituency) → IsSetup setup → IsLawfulState setup (opening setup)
opening-lawful setup is_setup = record {
  stations = λ station standing some. let none : fin.get (fin.empty {X = StationReturn} {R = code_cmp}) station ≡ None = fin.get-empty code_cmp station in cc;
  cons = λ code con found. each con;
  known = λ code. ap is_some (opening-found setup code) ∙ known (constituency_with code setup);
}
  where
    known : (found : Option Constituency) → is_some (option_map (λ (c : Constituency). opening_con) found) ≡ is_some found
    known None = refl
    known (Some c) = refl

    each : (con : Constituency) → IsLawfulIn con (opening setup)
    each con = record {
      seen = record {
        first = subst (λ (c : ConState). 1 ≤ c.edition) (sym (opening-state setup con.code)) (omega arith);
        last = subst (λ (c : ConState). c.edition ≤ last_edition) (sym (opening-state setup con.code)) (omega arith);
        note = ap (λ (c : ConState). is_note_or_empty c.note) (opening-state setup con.code);
        lot = inl (ap (λ (c : ConState). c.lot) (opening-state setup con.code));
        certified = λ is. let no : false ≡ true = sym (ap (λ (c : ConState). c.certified) (opening-state setup con.code)) ∙ is in cc;
        gone = subst (λ (c : ConState). All (IsLawfulGone con) (gone_candidates c.gone)) (sym (opening-state setup con.code)) (subst (λ es. All (IsLawfulGone con) (map gone_candidate es)) (sym nobody) (All-nil (IsLawfulGone con)));
        past = subst (λ (c : ConState). All (IsLawfulPast con c.edition) (past_records c.past)) (sym (opening-state setup con.code)) (subst (All (IsLawfulPast con opening_con.edition)) (sym no-past) (All-nil (IsLawfulPast con opening_con.edition)));
      };
      gone = subst (λ (c : ConState). All IsUnderPlaces (fin.entries c.gone)) (sym (opening-state setup con.code)) (subst (All IsUnderPlaces) (sym nobody) (All-nil IsUnderPlaces));
    }
      where
        none : (es : List (List ℕ × List ℕ)) → length es ≡ 0 → es ≡ []
        none [] is = refl
        none (e ∷ es) is = absurd (omega (arith, is))

        nobody : fin.entries opening_con.gone ≡ []
        nobody = none (fin.entries opening_con.gone) (sym (fin.len-entries opening_con.gone) ∙ fin.len-empty code_cmp (List ℕ))
