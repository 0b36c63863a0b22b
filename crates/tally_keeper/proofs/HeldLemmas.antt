-- What is held stays held, whatever a command changes.
use Rattle.std.proofs.Common.{◌≡◌, ◌≢◌, ◌⊎◌, ◌∙◌, ◌+◌, ◌++◌, ◌∷◌, ℕ, List, [], Bool, true, false, cond, map, Option, Some, None, Result, Ok, Err, refl, sym, ap, subst, inl, inr}
use Rattle.std.specs.Prelude.{All, is_some, not, string_bytes, unwrap_or, if◌then◌else◌}
use Rattle.std.specs.Cmp.Lexicographic.{nat_list_cmp_total}
use Rattle.std.specs.FinMap as fin
use Rattle.std.specs.Ordering.{eq_by_cmp}
use Rattle.std.proofs.lemmas.Bool.{not-true}
use Rattle.tally_setup.specs.Code.{code_cmp, is_code}
use Rattle.tally_setup.specs.Constituency.{Constituency}
use Rattle.tally_setup.specs.Limits.{IsSetup}
use Rattle.tally_setup.specs.Setup.{constituency_with, station_with}
use Rattle.tally_setup.specs.Text.{is_note}
use Rattle.tally_setup.specs.declared.constituency.Station.{Station}
use Rattle.tally_machine_law.specs.Certification.{Certifies, Draws, vacate_result, reopen_result}
use Rattle.tally_returns.specs.Checks.{check, first_refusal, refused_or}
use Rattle.tally_machine_law.specs.Step.{ConChange, Decides, IsView, after_change, certified_with, con_state_after, gone_for_good, lot_set, no_change, open_again, con_answer, reply_seen, state_after, after_put, after_return, con_of_station, change_at_station, change_in_state, is_certified, with_return, without_lot}
use Rattle.tally_returns.specs.Counts.{VoteCounts}
use Rattle.tally_returns.specs.Decide.{return_change, limits_of, lodge_change, move_change, put_next}
use Rattle.tally_returns.specs.GoneCandidate.{GoneCandidate}
use Rattle.tally_machine_law.specs.LawfulState.{IsLawfulState}
use Rattle.tally_returns.specs.Lodge.{StationLimits, reply_after_checks, after_lodge, counts_checks, is_return_of, lodge, lodge_answer}
use Rattle.tally_returns.specs.Moves.{close_checks, closed_return, confirm_checks, correct_checks, corrected_return, counts_checks_at, entry_checks, may_close, may_correct, may_query, move_checks, queried_return, query_checks, same_checks}
use Rattle.tally_returns.specs.Named.{BringsCode, con_named, station_named}
use Rattle.tally_machine_law.specs.Outcome.{HasSeats}
use Rattle.tally_returns.specs.PastSeats.{PastSeats}
use Rattle.tally_returns.specs.Return.{StationReturn, Returns}
use Rattle.tally_returns.specs.State.{State, ConState, con_state, opening, opening_con, stations_of}
use Rattle.tally_returns.specs.View.{View, view_of, view_with}
use Rattle.tally_returns.specs.declared.ask.Ask.{Ask}
use Rattle.tally_returns.specs.declared.ask.Ask.TheVariants.{Lodge, Query, Correct, Close, Confirm, ShowReturn, Draw, Certify, Reopen, Vacate, ShowCon, ShowProgress}
use Rattle.tally_returns.specs.declared.change.Change.{Change}
use Rattle.tally_returns.specs.declared.change.Change.TheVariants.{PutReturn, Same, SetCertified, SetGone, SetLot, SetReopened}
use Rattle.tally_returns.specs.declared.refusal.Refusal.{Refusal}
use Rattle.tally_returns.specs.declared.refusal.Refusal.TheVariants.{BadNote, Certified, Differs, NoReturn}
use Rattle.tally_returns.specs.declared.returns.Status.{Status}
use Rattle.tally_returns.specs.declared.reply.LodgeReply.{LodgeReply}
use Rattle.tally_returns.specs.declared.reply.LodgeReply.TheVariants as reply
use Rattle.tally_returns.specs.declared.reply.Reply.{Reply}
use Rattle.tally_returns.specs.declared.reply.Reply.TheVariants.{Con, Edition, Vacated}
use Rattle.tally_returns.proofs.ClosedLemmas.{IsSameAt, apart-untied, closed_now, constituency_with-code, get-kept, get-put, put-elsewhere, same-tied, station-elsewhere, station_with-con, tied-same, view_with-same}
use Rattle.tally_machine_law.proofs.ConStateLemmas.{con_state-with_con}
use Rattle.tally_machine_law.proofs.ConStepLemmas.{con-step-lawful}
use Rattle.tally_returns.proofs.DecideLemmas.{first_refusal-append_first, passed-first, passed-rest}
use Rattle.tally_machine_law.proofs.DecisionLemmas.{certified-found, con_of-found, given-by}
use Rattle.tally_machine_law.proofs.LawfulViewLemmas.{certified-seats, drawn-open}
use Rattle.tally_machine_law.proofs.LifeLemmas.{after_put-returns}
use Rattle.tally_machine_law.proofs.ReturnStepLemmas.{open-station, opening-lawful, put-placed, return-step-lawful}
use Rattle.tally_keeper.specs.Kept.{Kept, opening_kept, seats_in, state_in, view_in, with_change}
use Rattle.tally_keeper.specs.internal.Held.{IsHeld, CarriesOutLodge, IsMoved, with_state}

-- ---- the seats that are kept of a constituency

-- of one that is not certified none are
pub view-open : (con : Constituency) (s : State) (seats : List ℕ) → (con_state s con.code).certified ≡ false → seats ≡ [] → IsView con s (view_of con s seats)
view-open con s seats is_open none = (refl, subst (λ (b : Bool). HasSeats con (view_of con s seats) b) (sym is_open) none)

-- and so it was
pub open-none : (con : Constituency) (s : State) (seats : List ℕ) → (con_state s con.code).certified ≡ false → IsView con s (view_of con s seats) → seats ≡ []
open-none con s seats is_open is = subst (λ (b : Bool). HasSeats con (view_of con s seats) b) is_open is.1

-- of one of which the same is seen they are the same
pub view-kept : (con : Constituency) (s t : State) (seats : List ℕ) → view_of con s seats ≡ view_of con t seats → IsView con s (view_of con s seats) → IsView con t (view_of con t seats)
view-kept con s t seats same is = (refl, subst (λ (v : View). HasSeats con v v.certified) same is.1)

-- ---- the opening

-- what is found under the code of a constituency where each has the same
found-each : {X : Type 0} (x : X) (setup : List Constituency) (code : List ℕ) → unwrap_or (fin.find code_cmp code (map (λ (con : Constituency). (con.code, x)) setup)) x ≡ x
found-each x [] code = refl
found-each x (c ∷ setup) code = go (eq_by_cmp code_cmp code c.code) (found-each x setup code)
  where
    go : (b : Bool) → unwrap_or (fin.find code_cmp code (map (λ (con : Constituency). (con.code, x)) setup)) x ≡ x
        → unwrap_or (cond b (Some x) (fin.find code_cmp code (map (λ (con : Constituency). (con.code, x)) setup))) x ≡ x
    go true later = refl
    go false later = later

opening-con : (setup : List Constituency) (code : List ℕ) → con_state (opening setup) code ≡ opening_con
opening-con setup code =
    ap (λ found. unwrap_or found opening_con) (fin.get-from_entries nat_list_cmp_total (map (λ (con : Constituency). (con.code, opening_con)) setup) code) ∙ found-each opening_con setup code

opening-seats : (setup : List Constituency) (code : List ℕ) → seats_in (opening_kept setup) code ≡ []
opening-seats setup code =
    ap (λ found. unwrap_or found []) (fin.get-from_entries nat_list_cmp_total (map (λ (con : Constituency). (con.code, [])) setup) code) ∙ found-each [] setup code

-- what is kept at the opening is held
pub held-opening : (setup : List Constituency) → IsSetup setup → IsHeld (opening_kept setup)
held-opening setup is_setup = record {
  limits = is_setup;
  lawful = opening-lawful setup is_setup;
  seats = λ code con found.
      view-open con (opening setup) (seats_in (opening_kept setup) con.code) (ap (λ (c : ConState). c.certified) (opening-con setup con.code)) (opening-seats setup con.code);
}

-- ---- a command on a return

append-rest : (xs ys : List (Option Refusal)) → first_refusal (xs ++ ys) ≡ None → first_refusal ys ≡ None
append-rest [] ys none = none
append-rest (None ∷ xs) ys none = append-rest xs ys none
append-rest (Some e ∷ xs) ys none = cc

move-open : (certified : Bool) (found : Option StationReturn) (rev : ℕ) (may_start : Status → Bool) (checks : List (Option Refusal)) (next : StationReturn → StationReturn) (r : StationReturn)
    → (first_refusal checks ≡ None → first_refusal (move_checks certified found rev may_start) ≡ None)
    → move_change checks found next ≡ Ok (PutReturn r) → certified ≡ false
move-open certified found rev may_start checks next r rest is = go (first_refusal checks) refl is
  where
    go : (refused : Option Refusal) → first_refusal checks ≡ refused → refused_or refused (Ok (put_next found next)) ≡ Ok (PutReturn r) → certified ≡ false
    go (Some e) some ok = cc
    go None none ok =
        let moves = rest none in
        let third = passed-rest (is_some found) NoReturn _ moves in
        not-true certified (passed-first (not certified) Certified _ third)

lodge-open : (limits : StationLimits) (found : Option StationReturn) (slip : List ℕ) (counts : VoteCounts) (r : StationReturn)
    → lodge_change slip counts (refused_or (first_refusal (counts_checks limits counts)) (reply_after_checks found slip counts)) ≡ Ok (PutReturn r) → closed_now found ≡ false
lodge-open limits found slip counts r is = go (first_refusal (counts_checks limits counts)) found is
  where
    again : (same : Bool) (rev : ℕ) (e : Refusal) → lodge_change slip counts (if same then Ok (reply.Same rev) else Err e) ≢ Ok (PutReturn r)
    again true rev e ok = cc
    again false rev e ok = cc

    go : (refused : Option Refusal) (f : Option StationReturn) → lodge_change slip counts (refused_or refused (reply_after_checks f slip counts)) ≡ Ok (PutReturn r) → closed_now f ≡ false
    go (Some e) f ok = cc
    go None None ok = refl
    go None (Some standing) ok = absurd (again (is_return_of slip counts standing) standing.rev (Differs standing.rev) ok)

-- where a return is put, its constituency is not certified, or the one before was not closed
put-open : (limits : StationLimits) (certified : Bool) (found : Option StationReturn) (ask : Ask) (r : StationReturn)
    → return_change (Some limits) certified found ask ≡ Ok (PutReturn r) → (certified ≡ false) ⊎ (closed_now found ≡ false)
put-open limits certified found (Lodge code slip counts) r is = inr (lodge-open limits found slip counts r is)
put-open limits certified found (Query code rev note) r is =
    inl (move-open certified found rev may_query (query_checks (Some limits) certified found rev (string_bytes note)) (queried_return (string_bytes note)) r
    (λ none. passed-rest (is_note (string_bytes note)) BadNote (move_checks certified found rev may_query) none) is)
put-open limits certified found (Correct code rev slip counts) r is =
    inl (move-open certified found rev may_correct (correct_checks (Some limits) certified found rev counts) (corrected_return slip counts) r
    (append-rest (counts_checks_at (Some limits) counts) (move_checks certified found rev may_correct)) is)
put-open limits certified found (Close code rev) r is =
    inl (move-open certified found rev may_close (close_checks (Some limits) certified found rev) closed_return r
    (first_refusal-append_first (move_checks certified found rev may_close) (entry_checks limits.entry)) is)
put-open limits certified found (Confirm code rev slip counts) r is =
    let moves = move_checks certified found rev may_close in
    let more = same_checks found slip counts in
    inl (move-open certified found rev may_close (confirm_checks (Some limits) certified found rev slip counts) closed_return r
    (λ none. first_refusal-append_first moves more (append-rest (counts_checks_at (Some limits) counts) (moves ++ more) none)) is)
put-open limits certified found (ShowReturn code) r is = shown (first_refusal (check (is_some found) NoReturn ∷ [])) is
  where
    shown : (refused : Option Refusal) → refused_or refused (Ok Same) ≡ Ok (PutReturn r) → (certified ≡ false) ⊎ (closed_now found ≡ false)
    shown None ok = cc
    shown (Some e) ok = cc
put-open limits certified found (Draw con edition order) r is = cc
put-open limits certified found (Certify con edition) r is = cc
put-open limits certified found (Reopen con edition note) r is = cc
put-open limits certified found (Vacate con list place note) r is = cc
put-open limits certified found (ShowCon con) r is = cc
put-open limits certified found ShowProgress r is = cc

-- the lot of a constituency that goes leaves each certified or not
lot-certified : (s : State) (code q : List ℕ) → (con_state (without_lot s (Some code)) q).certified ≡ (con_state s q).certified
lot-certified s code q = ap (λ (c : ConState). c.certified) (con_state-with_con s code now q) ∙ go (eq_by_cmp code_cmp q code) refl
  where
    now : ConState
    now = record (con_state s code) { lot = [] }

    go : (b : Bool) → eq_by_cmp code_cmp q code ≡ b → (cond b now (con_state s q)).certified ≡ (con_state s q).certified
    go true tied = ap (λ k. (con_state s k).certified) (sym (tied-same q code tied))
    go false apart = refl

put-certified : (setup : List Constituency) (s : State) (ask : Ask) (q : List ℕ) → (con_state (after_put setup s ask) q).certified ≡ (con_state s q).certified
put-certified setup s (Query station rev note) q = go (con_of_station setup station)
  where
    go : (code : Option (List ℕ)) → (con_state (without_lot s code) q).certified ≡ (con_state s q).certified
    go None = refl
    go (Some code) = lot-certified s code q
put-certified setup s other q = refl

-- and the other constituencies as they were
put-others : (setup : List Constituency) (s : State) (ask : Ask) (station : List ℕ) (con : Constituency) (place : Station) → station_named ask ≡ Some station → station_with station setup ≡ Some (con, place)
    → (q : List ℕ) → q ≢ con.code → con_state (after_put setup s ask) q ≡ con_state s q
put-others setup s (Query code rev note) station con place named is q apart =
    let same : code ≡ station = cc in
    let now : ConState = record (con_state s con.code) { lot = [] } in
    ap (λ found. con_state (without_lot s found) q) (ap (con_of_station setup) same ∙ con_of-found setup station con place is)
    ∙ con_state-with_con s con.code now q
    ∙ ap (λ b. cond b now (con_state s q)) (apart-untied q con.code apart)
put-others setup s other station con place named is q apart = refl

-- A step leaves a constituency: what it has come to is the same, and so are the returns of its
-- stations; or it is not certified and was not.
abbrev IsLeft : Constituency → State → State → Type 0
IsLeft con s t =
    ((con_state t con.code ≡ con_state s con.code) × All (IsSameAt t.returns s.returns) con.stations)
    ⊎ (((con_state s con.code).certified ≡ false) × ((con_state t con.code).certified ≡ false))

put-left : (setup : List Constituency) (s : State) (ask : Ask) (station : List ℕ) (r : StationReturn) (code : List ℕ) (con : Constituency) → BringsCode ask → IsSetup setup → IsLawfulState setup s
    → constituency_with code setup ≡ Some con → station_named ask ≡ Some station
    → return_change (stations_of setup station) (is_certified setup s station) (fin.get s.returns station) ask ≡ Ok (PutReturn r)
    → IsLeft con s (with_return (after_put setup s ask) (Some station) r)
put-left setup s ask station r code con brings is_setup lawful found named decision =
    let placed = put-placed setup s station (is_certified setup s station) ask r brings lawful decision in
    let own = station_with-con setup station placed.con placed.place is_setup placed.is in
    at placed.con placed.place placed.is
    (opened placed.con placed.place own placed.is (put-open (limits_of placed.con placed.place) (is_certified setup s station) (fin.get s.returns station) ask r placed.decision))
  where
    opened : (its : Constituency) (place : Station) → constituency_with its.code setup ≡ Some its → station_with station setup ≡ Some (its, place)
        → (is_certified setup s station ≡ false) ⊎ (closed_now (fin.get s.returns station) ≡ false) → (con_state s its.code).certified ≡ false
    opened its place own is (inl not_certified) = sym (certified-found setup s station its place is) ∙ not_certified
    opened its place own is (inr not_closed) = (open-station setup s station its place (lawful.cons its.code its own) is not_closed).1

    at : (its : Constituency) (place : Station) → station_with station setup ≡ Some (its, place) → (con_state s its.code).certified ≡ false
        → IsLeft con s (with_return (after_put setup s ask) (Some station) r)
    at its place is is_open = go (eq_by_cmp code_cmp con.code its.code) refl
      where
        go : (b : Bool) → eq_by_cmp code_cmp con.code its.code ≡ b → IsLeft con s (with_return (after_put setup s ask) (Some station) r)
        go true tied =
            let was : (con_state s con.code).certified ≡ false = ap (λ q. (con_state s q).certified) (tied-same con.code its.code tied) ∙ is_open in
            inr (was, put-certified setup s ask con.code ∙ was)
        go false apart =
            let differ : con.code ≢ its.code = λ same. let tied : eq_by_cmp code_cmp con.code its.code ≡ true = same-tied con.code its.code same in cc in
            inl (
              put-others setup s ask station its place named is con.code differ,
              subst (λ (m : Returns). All (IsSameAt (fin.insert m station r) s.returns) con.stations) (sym (after_put-returns setup s ask))
                  (put-elsewhere s.returns station r con.stations (station-elsewhere setup code station its con place is_setup is found differ)),
            )

return-left : (setup : List Constituency) (s : State) (ask : Ask) (code : List ℕ) (con : Constituency) → BringsCode ask → IsSetup setup → IsLawfulState setup s → constituency_with code setup ≡ Some con
    → IsLeft con s (after_return setup s ask)
return-left setup s ask code con brings is_setup lawful found = go (change_in_state setup s ask) refl
  where
    stays : IsLeft con s s
    stays = inl (refl, λ k d lt. refl)

    named : (r : StationReturn) → change_in_state setup s ask ≡ Ok (PutReturn r) → (station : Option (List ℕ)) → station_named ask ≡ station → IsLeft con s (with_return (after_put setup s ask) station r)
    named r is None none = let no : Ok Same ≡ Ok (PutReturn r) = ap (change_at_station setup s ask) (sym none) ∙ is in cc
    named r is (Some station) some = put-left setup s ask station r code con brings is_setup lawful found some (ap (change_at_station setup s ask) (sym some) ∙ is)

    go : (d : Result Change Refusal) → change_in_state setup s ask ≡ d → IsLeft con s (state_after setup s ask d)
    go (Ok Same) is = stays
    go (Ok (PutReturn r)) is = named r is (station_named ask) refl
    go (Ok (SetLot places)) is = stays
    go (Ok (SetCertified seats)) is = stays
    go (Ok (SetReopened note past)) is = stays
    go (Ok (SetGone candidate next)) is = stays
    go (Err refusal) is = stays

view-left : (con : Constituency) (s t : State) (seats : List ℕ) → IsLeft con s t → IsView con s (view_of con s seats) → IsView con t (view_of con t seats)
view-left con s t seats (inl same) is =
    view-kept con s t seats (ap (λ (c : ConState). view_with con c s.returns seats) (sym same.0) ∙ sym (view_with-same con (con_state t con.code) t.returns s.returns seats same.1)) is
view-left con s t seats (inr opened) is = view-open con t seats opened.1 (open-none con s seats opened.0 is)

-- what is held stays held after a command on a return
pub held-return : (k : Kept) (ask : Ask) → BringsCode ask → IsHeld k → IsHeld (with_state k (after_return k.setup (state_in k) ask))
held-return k ask brings held = record {
  limits = held.limits;
  lawful = return-step-lawful k.setup (state_in k) ask brings held.limits held.lawful;
  seats = λ code con found.
      view-left con (state_in k) (after_return k.setup (state_in k) ask) (seats_in k con.code) (return-left k.setup (state_in k) ask code con brings held.limits held.lawful found) (held.seats code con found);
}

-- the step of a Lodge
pub lodge-step : (setup : List Constituency) (s : State) (station slip : List ℕ) (counts : VoteCounts)
    → after_return setup s (Lodge station slip counts) ≡ record s { returns = lodge (stations_of setup) s.returns station slip counts }
lodge-step setup s station slip counts = go (lodge_answer (stations_of setup) s.returns station slip counts)
  where
    go : (d : Result LodgeReply Refusal) → state_after setup s (Lodge station slip counts) (lodge_change slip counts d) ≡ record s { returns = after_lodge s.returns station slip counts d }
    go (Ok (reply.Lodged rev)) = refl
    go (Ok (reply.Same rev)) = refl
    go (Err e) = refl

-- and after a Lodge
pub held-lodge : (k : Kept) (station slip : List ℕ) (counts : VoteCounts) → is_code slip ≡ true → IsHeld k → IsHeld (record k { returns = lodge (stations_of k.setup) k.returns station slip counts })
held-lodge k station slip counts code held =
    subst (λ (s : State). IsHeld (with_state k s)) (lodge-step k.setup (state_in k) station slip counts) (held-return k (Lodge station slip counts) (λ its same. let e : slip ≡ its = cc in subst (λ text. is_code text ≡ true) e code) held)

-- and after what was answered
pub moved-held : (k new : Kept) (ask : Ask) (r : Result Reply Refusal) → BringsCode ask → IsHeld k → IsMoved k ask r new → IsHeld new
moved-held k new ask r brings held (inl done) = subst IsHeld (sym done.1) (held-return k ask brings held)
moved-held k new ask r brings held (inr not_accepted) = subst IsHeld (sym not_accepted.1) held

pub lodged-held : (k new : Kept) (station slip : List ℕ) (counts : VoteCounts) (r : Result Reply Refusal) → is_code slip ≡ true → IsHeld k → CarriesOutLodge k station slip counts r new → IsHeld new
lodged-held k new station slip counts r code held (inl done) = subst IsHeld (sym done.1) (held-lodge k station slip counts code held)
lodged-held k new station slip counts r code held (inr not_accepted) = subst IsHeld (sym not_accepted.1) held

-- ---- a command on a constituency

-- the seats of others stay
seats-others : (k : Kept) (code : List ℕ) (decided : ConChange) (q : List ℕ) → q ≢ code → seats_in (with_change k code decided) q ≡ seats_in k q
seats-others k code no_change q apart = refl
seats-others k code (lot_set places) q apart = refl
seats-others k code (certified_with given) q apart = ap (λ found. unwrap_or found []) (get-kept k.seats code given q apart)
seats-others k code (open_again note past) q apart = ap (λ found. unwrap_or found []) (get-kept k.seats code [] q apart)
seats-others k code (gone_for_good candidate next) q apart = refl

-- the seats of a constituency that was certified, and of one that is open again
seats-certified : (k : Kept) (code given : List ℕ) → seats_in (with_change k code (certified_with given)) code ≡ given
seats-certified k code given = ap (λ found. unwrap_or found []) (get-put k.seats code given)

seats-reopened : (k : Kept) (code note : List ℕ) (past : PastSeats) → seats_in (with_change k code (open_again note past)) code ≡ []
seats-reopened k code note past = ap (λ found. unwrap_or found []) (get-put k.seats code [])

-- the seats that are kept of a constituency are right after a change
abbrev AreRight : Kept → Constituency → ConChange → Type 0
AreRight k con decided =
    HasSeats con (view_with con (con_state_after (con_state (state_in k) con.code) decided) k.returns (seats_in (with_change k con.code decided) con.code)) (con_state_after (con_state (state_in k) con.code) decided).certified

-- one who goes takes no seats
gone-right : (con : Constituency) (c : ConState) (returns : Returns) (seats key note : List ℕ) (b : Bool) → HasSeats con (view_with con c returns seats) b
    → HasSeats con (view_with con (record c { gone = fin.insert c.gone key note }) returns seats) b
gone-right con c returns seats key note true has = has
gone-right con c returns seats key note false has = has

change-right : (k : Kept) (con : Constituency) (ask : Ask) (decided : ConChange) → IsView con (state_in k) (view_in k con) → Decides con (view_in k con) ask (Ok decided) → AreRight k con decided
change-right k con (Draw code edition order) decided is decides =
    let by = given-by lot_set decides.0 decided decides.2 in
    let is_open : (con_state (state_in k) con.code).certified ≡ false =
    drawn-open con (view_in k con) edition order.items by.0 (subst (Draws con (view_in k con) edition order.items) by.1 decides.1) in
    subst (AreRight k con) (sym by.2)
    (subst (λ (b : Bool). HasSeats con (view_with con (con_state_after (con_state (state_in k) con.code) (lot_set by.0)) k.returns (seats_in k con.code)) b) (sym is_open)
    (open-none con (state_in k) (seats_in k con.code) is_open is))
change-right k con (Certify code edition) decided is decides =
    let by = given-by certified_with decides.0 decided decides.2 in
    subst (AreRight k con) (sym by.2)
    (subst (λ (seats : List ℕ). HasSeats con (view_with con (con_state_after (con_state (state_in k) con.code) (certified_with by.0)) k.returns seats) true) (sym (seats-certified k con.code by.0))
    (certified-seats con (view_in k con) edition by.0 (subst (Certifies con (view_in k con) edition) by.1 decides.1)))
change-right k con (Reopen code edition note) decided is decides =
    let by = given-by (λ (r : List ℕ × PastSeats). open_again r.0 r.1) (reopen_result (view_in k con) edition (string_bytes note)) decided decides in
    subst (AreRight k con) (sym by.2) (seats-reopened k con.code by.0.0 by.0.1)
change-right k con (Vacate code list place note) decided is decides =
    let by = given-by (λ (v : GoneCandidate × Option ℕ). gone_for_good v.0 v.1) (vacate_result con (view_in k con) list place (string_bytes note)) decided decides in
    let c = con_state (state_in k) con.code in
    subst (AreRight k con) (sym by.2) (gone-right con c k.returns (seats_in k con.code) (by.0.0.list ∷ by.0.0.place ∷ []) by.0.0.note c.certified is.1)
change-right k con (ShowCon code) decided is decides =
    let none : decided ≡ no_change = cc in
    subst (AreRight k con) (sym none) is.1
change-right k con (Lodge station slip counts) decided is decides = absurd decides
change-right k con (Query station rev note) decided is decides = absurd decides
change-right k con (Correct station rev slip counts) decided is decides = absurd decides
change-right k con (Close station rev) decided is decides = absurd decides
change-right k con (Confirm station rev slip counts) decided is decides = absurd decides
change-right k con (ShowReturn station) decided is decides = absurd decides
change-right k con ShowProgress decided is decides = absurd decides

-- to put at a key what it has already changes nothing
insert-same : (m : fin.FinMap code_cmp ConState) (code : List ℕ) → is_some (fin.get m code) ≡ true → fin.insert m code (unwrap_or (fin.get m code) opening_con) ≡ m
insert-same m code there =
    fin.same_map nat_list_cmp_total (fin.slice_cmp-IsAntisymmetric fin.nat_cmp-IsAntisymmetric) (fin.insert m code (unwrap_or (fin.get m code) opening_con)) m
    (λ q. fin.get-insert nat_list_cmp_total m code (unwrap_or (fin.get m code) opening_con) q ∙ at q (eq_by_cmp code_cmp q code) refl)
  where
    unwrapped : (found : Option ConState) → is_some found ≡ true → Some (unwrap_or found opening_con) ≡ found
    unwrapped None is = cc
    unwrapped (Some c) is = refl

    at : (q : List ℕ) (b : Bool) → eq_by_cmp code_cmp q code ≡ b → cond b (Some (unwrap_or (fin.get m code) opening_con)) (fin.get m q) ≡ fin.get m q
    at q true tied = unwrapped (fin.get m code) there ∙ ap (fin.get m) (sym (tied-same q code tied))
    at q false apart = refl

-- the state after a change
pub change-state : (k : Kept) (code : List ℕ) (decided : ConChange) → is_some (fin.get k.cons code) ≡ true → state_in (with_change k code decided) ≡ after_change (state_in k) code (Ok decided)
change-state k code no_change known = ap (λ cons. record (state_in k) { cons = cons }) (insert-same k.cons code known)
change-state k code (lot_set places) known = refl
change-state k code (certified_with seats) known = refl
change-state k code (open_again note past) known = refl
change-state k code (gone_for_good candidate next) known = refl

-- a reply that a change may have
abbrev reply_to : View → ConChange → Reply
reply_to view no_change = Con view
reply_to view (gone_for_good candidate next) = Vacated next
reply_to view other = Edition (view.edition + 1)

reply_to-seen : (view : View) (decided : ConChange) → reply_seen (Ok (reply_to view decided)) ≡ con_answer view (Ok decided)
reply_to-seen view no_change = refl
reply_to-seen view (gone_for_good candidate next) = refl
reply_to-seen view (lot_set places) = refl
reply_to-seen view (certified_with given) = refl
reply_to-seen view (open_again note past) = refl

-- the constituency of a code is kept
pub con-kept : (k : Kept) (code : List ℕ) (con : Constituency) → IsHeld k → constituency_with code k.setup ≡ Some con → is_some (fin.get k.cons code) ≡ true
con-kept k code con held found = held.lawful.known code ∙ ap is_some found

change-lawful : (k : Kept) (code : List ℕ) (con : Constituency) (ask : Ask) (decided : ConChange) → IsHeld k → constituency_with code k.setup ≡ Some con → con_named ask ≡ Some code
    → Decides con (view_in k con) ask (Ok decided) → IsLawfulState k.setup (state_in (with_change k con.code decided))
change-lawful k code con ask decided held found named decides =
    let own : constituency_with con.code k.setup ≡ Some con = subst (λ q. constituency_with q k.setup ≡ Some con) (sym (constituency_with-code k.setup code con found)) found in
    con-step-lawful k.setup (state_in k) (state_in (with_change k con.code decided)) ask (Ok (reply_to (view_in k con) decided)) code con held.limits held.lawful found named
    (view_in k con, Ok decided, held.seats code con found, decides, reply_to-seen (view_in k con) decided, change-state k con.code decided (con-kept k con.code con held own))

-- what is seen of each constituency after a change
change-seats : (k : Kept) (con : Constituency) (decided : ConChange) → IsHeld k → constituency_with con.code k.setup ≡ Some con → AreRight k con decided
    → (q : List ℕ) (other : Constituency) → constituency_with q k.setup ≡ Some other → IsView other (state_in (with_change k con.code decided)) (view_in (with_change k con.code decided) other)
change-seats k con decided held own right q other found = go (eq_by_cmp code_cmp other.code con.code) refl
  where
    new : Kept
    new = with_change k con.code decided

    now : ConState
    now = con_state_after (con_state (state_in k) con.code) decided

    go : (b : Bool) → eq_by_cmp code_cmp other.code con.code ≡ b → IsView other (state_in new) (view_in new other)
    go true tied =
        let key : q ≡ con.code = sym (constituency_with-code k.setup q other found) ∙ tied-same other.code con.code tied in
        let again : Some con ≡ Some other = sym own ∙ ap (λ code. constituency_with code k.setup) (sym key) ∙ found in
        let same : con ≡ other = cc in
        let here : con_state (state_in new) con.code ≡ now = con_state-with_con (state_in k) con.code now con.code ∙ ap (λ b. cond b now (con_state (state_in k) con.code)) (same-tied con.code con.code refl) in
        let has : IsView con (state_in new) (view_in new con) =
        (refl, subst (λ (c : ConState). HasSeats con (view_with con c k.returns (seats_in new con.code)) c.certified) (sym here) right) in
        subst (λ (c : Constituency). IsView c (state_in new) (view_in new c)) same has
    go false apart =
        let differ : other.code ≢ con.code = λ same. let tied : eq_by_cmp code_cmp other.code con.code ≡ true = same-tied other.code con.code same in cc in
        let here : con_state (state_in new) other.code ≡ con_state (state_in k) other.code =
        con_state-with_con (state_in k) con.code now other.code ∙ ap (λ b. cond b now (con_state (state_in k) other.code)) apart in
        subst (λ (seats : List ℕ). IsView other (state_in new) (view_of other (state_in new) seats)) (sym (seats-others k con.code decided other.code differ))
        (view-kept other (state_in k) (state_in new) (seats_in k other.code) (ap (λ (c : ConState). view_with other c k.returns (seats_in k other.code)) (sym here)) (held.seats q other found))

-- and after a command on a constituency
pub held-change : (k : Kept) (code : List ℕ) (con : Constituency) (ask : Ask) (decided : ConChange) → IsHeld k → constituency_with code k.setup ≡ Some con → con_named ask ≡ Some code
    → Decides con (view_in k con) ask (Ok decided) → IsHeld (with_change k code decided)
held-change k code con ask decided held found named decides =
    let is = constituency_with-code k.setup code con found in
    let own : constituency_with con.code k.setup ≡ Some con = subst (λ q. constituency_with q k.setup ≡ Some con) (sym is) found in
    subst (λ q. IsHeld (with_change k q decided)) is (record {
      limits = held.limits;
      lawful = change-lawful k code con ask decided held found named decides;
      seats = change-seats k con decided held own (change-right k con ask decided (held.seats code con found) decides);
    })
