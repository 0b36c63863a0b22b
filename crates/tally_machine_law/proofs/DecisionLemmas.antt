-- A decision that was made of what a state says is a step.
use Rattle.std.proofs.Common.{◌≡◌, ◌≤◌, ◌++◌, ◌∙◌, ◌∷◌, ℕ, List, [], Bool, true, false, Option, Some, None, Result, Ok, Err, refl, sym, ap, subst, inl}
use Rattle.std.specs.Prelude.{is_some, option_map, string_bytes, if◌then◌else◌}
use Rattle.std.specs.FinMap.{get}
use Rattle.std.specs.Option.{option_map_or}
use Rattle.tally_setup.specs.Constituency.{Constituency}
use Rattle.tally_setup.specs.Setup.{constituency_with, station_with}
use Rattle.tally_setup.specs.declared.constituency.Station.{Station}
use Rattle.tally_machine_law.specs.Step.{ConChange, after_change, certified_with, con_state_after, change_of_result, gone_for_good, lot_set, no_change, open_again, Answer, IsAnswered, IsConStep, IsConStepSeen, IsStepSeen, IsStepSeenAt, con_answer, lodge_reply, lodged, move_reply, return_reply, return_shown, same, state_after, con_of_station, change_at_station, change_in_state, is_certified}
use Rattle.tally_machine_law.specs.Certification.{ListFound, gone_of, holders_of, list_found, reopen_result, vacate_checks, vacancy, vacate_result}
use Rattle.tally_machine_law.specs.Decisions.{NamesStation, LimitsAreThoseOfTheSetup, RefusalsOnReturnsAreSteps, ChangesOfReturnsAreSteps, UnknownStationsAreRefused, DecisionsOnConstituenciesAreSteps, UnknownConstituenciesAreRefused, EditionsStayWithinTheirLimit, NobodyGoesTwice, change_at_code, answer_to_change}
use Rattle.tally_machine_law.specs.Holders.{newcomer}
use Rattle.tally_machine_law.specs.Step as replies
use Rattle.tally_returns.specs.Checks.{check, first_refusal, refused_or}
use Rattle.tally_returns.specs.Counts.{VoteCounts}
use Rattle.tally_returns.specs.Decide.{return_change, limits_named, limits_of, lodge_change, move_change, put_next, show_checks}
use Rattle.tally_returns.specs.GoneCandidate.{GoneCandidate}
use Rattle.tally_returns.specs.PastSeats.{PastSeats}
use Rattle.tally_returns.specs.Lodge.{StationLimits, is_return_of, reply_after_checks, counts_checks, reply_at_code}
use Rattle.tally_returns.specs.Moves.{close_checks, closed_return, confirm_checks, correct_checks, corrected_return, counts_checks_at, entry_checks, may_close, may_correct, may_query, move_checks, queried_return, query_checks, same_checks}
use Rattle.tally_returns.specs.Named.{con_named, station_named}
use Rattle.tally_returns.specs.Return.{StationReturn, first_return}
use Rattle.tally_returns.specs.State.{ConState, State, con_state, last_edition, stations_of}
use Rattle.tally_returns.specs.View.{View}
use Rattle.tally_returns.specs.declared.ask.Ask.{Ask}
use Rattle.tally_returns.specs.declared.ask.Ask.TheVariants.{Lodge, Query, Correct, Close, Confirm, ShowReturn, Draw, Certify, Reopen, Vacate, ShowCon, ShowProgress}
use Rattle.tally_returns.specs.declared.change.Change.{Change}
use Rattle.tally_returns.specs.declared.change.Change.TheVariants.{Same, PutReturn}
use Rattle.tally_returns.specs.declared.refusal.Refusal.{Refusal}
use Rattle.tally_returns.specs.declared.refusal.Refusal.TheVariants.{BadNote, Differs, NoStation}
use Rattle.tally_returns.specs.declared.reply.LodgeReply.{LodgeReply}
use Rattle.tally_returns.specs.declared.reply.LodgeReply.TheVariants as reply
use Rattle.tally_returns.specs.declared.reply.Reply.TheVariants.{Vacated}
use Rattle.tally_returns.specs.declared.returns.Status.{Status}
use Rattle.tally_setup.specs.Text.{is_note}
use Rattle.tally_returns.proofs.DecideLemmas.{first_refusal-append_first, limits_named-found, passed-rest}
use Rattle.tally_returns.proofs.StateLemmas.{station_with-in}
use Rattle.tally_machine_law.proofs.ConStateLemmas.{con-code, con_state-changed}
use Rattle.tally_machine_law.proofs.ConStepLemmas.{decision-lawful}
use Rattle.tally_machine_law.proofs.ReturnStepLemmas.{append-rest}
use Rattle.tally_machine_law.proofs.SpentLemmas.{IsGoneFlag, answered-used}

-- ---- commands on returns

pub limits-same : LimitsAreThoseOfTheSetup
limits-same setup con code ask at =
    limits_named-found con ask code at.1.0 at.0 (station_with-in setup code con at.1.0 at.1.1)
    ∙ sym (ap (option_map (λ (place : Constituency × Station). limits_of place.0 place.1)) at.1.1)

-- the code of the constituency of a station that was found
pub con_of-found : (setup : List Constituency) (station : List ℕ) (con : Constituency) (place : Station) → station_with station setup ≡ Some (con, place) → con_of_station setup station ≡ Some con.code
con_of-found setup station con place is = ap (option_map (λ (p : Constituency × Station). p.0.code)) is

pub certified-found : (setup : List Constituency) (s : State) (station : List ℕ) (con : Constituency) (place : Station) → station_with station setup ≡ Some (con, place)
    → is_certified setup s station ≡ (con_state s con.code).certified
certified-found setup s station con place is = ap (λ code. option_map_or (λ (q : List ℕ). (con_state s q).certified) code false) (con_of-found setup station con place is)

-- what is decided at the station that a command names
pub decided-named : (setup : List Constituency) (s : State) (ask : Ask) (station : List ℕ) → station_named ask ≡ Some station
    → change_in_state setup s ask ≡ return_change (stations_of setup station) (is_certified setup s station) (get s.returns station) ask
decided-named setup s ask station named = ap (change_at_station setup s ask) named

-- is what the state says of it
pub decided-same : (setup : List Constituency) (s : State) (con : Constituency) (code : List ℕ) (ask : Ask) → NamesStation setup con code ask → change_in_state setup s ask ≡ change_at_code s con code ask
decided-same setup s con code ask at =
    decided-named setup s ask code at.0
    ∙ ap (λ limits. return_change limits (is_certified setup s code) (get s.returns code) ask) (sym (limits-same setup con code ask at))
    ∙ ap (λ b. return_change (limits_named con ask) b (get s.returns code) ask) (certified-found setup s code con at.1.0 at.1.1)

-- a command at a code that is no station
pub decided-none : (certified : Bool) (found : Option StationReturn) (ask : Ask) (station : List ℕ) → station_named ask ≡ Some station
    → return_change None certified found ask ≡ Err NoStation
decided-none certified found (Lodge code slip counts) station named = refl
decided-none certified found (Query code rev note) station named = refl
decided-none certified found (Correct code rev slip counts) station named = refl
decided-none certified found (Close code rev) station named = refl
decided-none certified found (Confirm code rev slip counts) station named = refl
decided-none certified found (ShowReturn code) station named = refl
decided-none certified found (Draw con edition order) station named = cc
decided-none certified found (Certify con edition) station named = cc
decided-none certified found (Reopen con edition note) station named = cc
decided-none certified found (Vacate con list place note) station named = cc
decided-none certified found (ShowCon con) station named = cc
decided-none certified found ShowProgress station named = cc

-- ---- a refusal

lodge-refused : (slip : List ℕ) (counts : VoteCounts) (x : Result LodgeReply Refusal) (e : Refusal) → lodge_change slip counts x ≡ Err e → Err e ≡ lodge_reply x
lodge-refused slip counts (Ok (reply.Lodged rev)) e is = cc
lodge-refused slip counts (Ok (reply.Same rev)) e is = cc
lodge-refused slip counts (Err f) e is = let same : f ≡ e = cc in ap Err (sym same)

show-refused : (refused : Option Refusal) (x : Result Answer Refusal) (e : Refusal) → refused_or refused (Ok Same) ≡ Err e → Err e ≡ refused_or refused x
show-refused None x e is = cc
show-refused (Some f) x e is = let same : f ≡ e = cc in ap Err (sym same)

refused-step : (setup : List Constituency) (s : State) (ask : Ask) (station : List ℕ) (e : Refusal) → station_named ask ≡ Some station → change_in_state setup s ask ≡ Err e → IsStepSeen setup s ask (Err e) s
refused-step setup s (Lodge code slip counts) station e named is = (lodge-refused slip counts (reply_at_code (stations_of setup code) (get s.returns code) slip counts) e is, ap (state_after setup s (Lodge code slip counts)) (sym is))
refused-step setup s (Query code rev note) station e named is = (ap move_reply (sym is), ap (state_after setup s (Query code rev note)) (sym is))
refused-step setup s (Correct code rev slip counts) station e named is = (ap move_reply (sym is), ap (state_after setup s (Correct code rev slip counts)) (sym is))
refused-step setup s (Close code rev) station e named is = (ap move_reply (sym is), ap (state_after setup s (Close code rev)) (sym is))
refused-step setup s (Confirm code rev slip counts) station e named is = (ap move_reply (sym is), ap (state_after setup s (Confirm code rev slip counts)) (sym is))
refused-step setup s (ShowReturn code) station e named is =
    (show-refused (first_refusal (show_checks (stations_of setup code) (get s.returns code))) (return_reply (get s.returns code)) e is, ap (state_after setup s (ShowReturn code)) (sym is))
refused-step setup s (Draw con edition order) station e named is = cc
refused-step setup s (Certify con edition) station e named is = cc
refused-step setup s (Reopen con edition note) station e named is = cc
refused-step setup s (Vacate con list place note) station e named is = cc
refused-step setup s (ShowCon con) station e named is = cc
refused-step setup s ShowProgress station e named is = cc

pub refusals-steps : RefusalsOnReturnsAreSteps
refusals-steps setup s con code ask e at is = refused-step setup s ask code e at.0 (decided-same setup s con code ask at ∙ is)

pub unknown-station : UnknownStationsAreRefused
unknown-station setup s code ask named none =
    refused-step setup s ask code NoStation named
    (
    decided-named setup s ask code named
    ∙ ap (λ found. return_change (option_map (λ (p : Constituency × Station). limits_of p.0 p.1) found) (is_certified setup s code) (get s.returns code) ask) none
    ∙ decided-none (is_certified setup s code) (get s.returns code) ask code named
    )

-- ---- a change

-- what a Lodge that was accepted is answered
lodge-changed : (known : Option StationLimits) (found : Option StationReturn) (code slip : List ℕ) (counts : VoteCounts) (change : Change) → lodge_change slip counts (reply_at_code known found slip counts) ≡ Ok change
    → (a : Answer) × (answer_to_change (Lodge code slip counts) found change ≡ Some a) × (Ok a ≡ lodge_reply (reply_at_code known found slip counts))
lodge-changed None found code slip counts change is = cc
lodge-changed (Some limits) found code slip counts change is = go (first_refusal (counts_checks limits counts)) found is
  where
    again : (standing : StationReturn) (b : Bool) → lodge_change slip counts (if b then Ok (reply.Same standing.rev) else Err (Differs standing.rev)) ≡ Ok change
        → (a : Answer) × (answer_to_change (Lodge code slip counts) (Some standing) change ≡ Some a) × (Ok a ≡ lodge_reply (if b then Ok (reply.Same standing.rev) else Err (Differs standing.rev)))
    again standing true ok =
        let put : Same ≡ change = cc in
        (same standing.rev, ap (answer_to_change (Lodge code slip counts) (Some standing)) (sym put), refl)
    again standing false ok = cc

    go : (refused : Option Refusal) (f : Option StationReturn) → lodge_change slip counts (refused_or refused (reply_after_checks f slip counts)) ≡ Ok change
        → (a : Answer) × (answer_to_change (Lodge code slip counts) f change ≡ Some a) × (Ok a ≡ lodge_reply (refused_or refused (reply_after_checks f slip counts)))
    go (Some e) f ok = cc
    go None None ok =
        let put : PutReturn (first_return slip counts) ≡ change = cc in
        (lodged 1, ap (answer_to_change (Lodge code slip counts) None) (sym put), refl)
    go None (Some standing) ok = again standing (is_return_of slip counts standing) ok

-- a command that moves a return puts one
moved-put : (certified : Bool) (found : Option StationReturn) (rev : ℕ) (may_start : Status → Bool) (checks : List (Option Refusal)) (next : StationReturn → StationReturn) (change : Change)
    → (first_refusal checks ≡ None → first_refusal (move_checks certified found rev may_start) ≡ None) → move_change checks found next ≡ Ok change → (r : StationReturn) × (change ≡ PutReturn r)
moved-put certified found rev may_start checks next change rest is = go (first_refusal checks) found refl refl is
  where
    go : (refused : Option Refusal) (f : Option StationReturn) → first_refusal checks ≡ refused → found ≡ f → refused_or refused (Ok (put_next f next)) ≡ Ok change → (r : StationReturn) × (change ≡ PutReturn r)
    go (Some e) f none some ok = cc
    go None None none some ok =
        let passed = subst (λ f. first_refusal (move_checks certified f rev may_start) ≡ None) some (rest none) in cc
    go None (Some standing) none some ok =
        let put : PutReturn (next standing) ≡ change = cc in
        (next standing, sym put)

-- what is shown of a return
show-changed : (known : Option StationLimits) (found : Option StationReturn) (code : List ℕ) (change : Change) → refused_or (first_refusal (show_checks known found)) (Ok Same) ≡ Ok change
    → (a : Answer) × (answer_to_change (ShowReturn code) found change ≡ Some a) × (Ok a ≡ refused_or (first_refusal (show_checks known found)) (return_reply found))
show-changed None found code change is = cc
show-changed (Some limits) None code change is = cc
show-changed (Some limits) (Some standing) code change is =
    let none : Same ≡ change = cc in
    (return_shown standing, ap (answer_to_change (ShowReturn code) (Some standing)) (sym none), refl)

-- what was decided is answered, and leads to the state
pub changed-step : (setup : List Constituency) (s : State) (ask : Ask) (station : List ℕ) (change : Change) → station_named ask ≡ Some station → change_in_state setup s ask ≡ Ok change
    → (a : Answer) × (answer_to_change ask (get s.returns station) change ≡ Some a) × IsStepSeen setup s ask (Ok a) (state_after setup s ask (Ok change))
changed-step setup s (Lodge code slip counts) station change named is =
    let here : code ≡ station = cc in
    let by = lodge-changed (stations_of setup code) (get s.returns code) code slip counts change is in
    (by.0, ap (λ q. answer_to_change (Lodge code slip counts) (get s.returns q) change) (sym here) ∙ by.1, (by.2, ap (state_after setup s (Lodge code slip counts)) (sym is)))
changed-step setup s (Query code rev note) station change named is =
    let known = stations_of setup code in
    let certified = is_certified setup s code in
    let found = get s.returns code in
    let text = string_bytes note in
    let moves = move_checks certified found rev may_query in
    let by = moved-put certified found rev may_query (query_checks known certified found rev text) (queried_return text) change
    (λ none. passed-rest (is_note text) BadNote moves (passed-rest (is_some known) NoStation (check (is_note text) BadNote ∷ moves) none)) is in
    (replies.moved by.0.rev, ap (answer_to_change (Query code rev note) (get s.returns station)) by.1, (ap move_reply (sym (is ∙ ap Ok by.1)), ap (state_after setup s (Query code rev note)) (sym is)))
changed-step setup s (Correct code rev slip counts) station change named is =
    let known = stations_of setup code in
    let certified = is_certified setup s code in
    let found = get s.returns code in
    let by = moved-put certified found rev may_correct (correct_checks known certified found rev counts) (corrected_return slip counts) change
    (append-rest (counts_checks_at known counts) (move_checks certified found rev may_correct)) is in
    (replies.moved by.0.rev, ap (answer_to_change (Correct code rev slip counts) (get s.returns station)) by.1, (ap move_reply (sym (is ∙ ap Ok by.1)), ap (state_after setup s (Correct code rev slip counts)) (sym is)))
changed-step setup s (Close code rev) station change named is =
    let known = stations_of setup code in
    let certified = is_certified setup s code in
    let found = get s.returns code in
    let moves = move_checks certified found rev may_close in
    let more = option_map_or (λ (limits : StationLimits). entry_checks limits.entry) known [] in
    let by = moved-put certified found rev may_close (close_checks known certified found rev) closed_return change
    (λ none. first_refusal-append_first moves more (passed-rest (is_some known) NoStation (moves ++ more) none)) is in
    (replies.moved by.0.rev, ap (answer_to_change (Close code rev) (get s.returns station)) by.1, (ap move_reply (sym (is ∙ ap Ok by.1)), ap (state_after setup s (Close code rev)) (sym is)))
changed-step setup s (Confirm code rev slip counts) station change named is =
    let known = stations_of setup code in
    let certified = is_certified setup s code in
    let found = get s.returns code in
    let moves = move_checks certified found rev may_close in
    let more = same_checks found slip counts in
    let by = moved-put certified found rev may_close (confirm_checks known certified found rev slip counts) closed_return change
    (λ none. first_refusal-append_first moves more (append-rest (counts_checks_at known counts) (moves ++ more) none)) is in
    (replies.moved by.0.rev, ap (answer_to_change (Confirm code rev slip counts) (get s.returns station)) by.1, (ap move_reply (sym (is ∙ ap Ok by.1)), ap (state_after setup s (Confirm code rev slip counts)) (sym is)))
changed-step setup s (ShowReturn code) station change named is =
    let here : code ≡ station = cc in
    let by = show-changed (stations_of setup code) (get s.returns code) code change is in
    (by.0, ap (λ q. answer_to_change (ShowReturn code) (get s.returns q) change) (sym here) ∙ by.1, (by.2, ap (state_after setup s (ShowReturn code)) (sym is)))
changed-step setup s (Draw con edition order) station change named is = cc
changed-step setup s (Certify con edition) station change named is = cc
changed-step setup s (Reopen con edition note) station change named is = cc
changed-step setup s (Vacate con list place note) station change named is = cc
changed-step setup s (ShowCon con) station change named is = cc
changed-step setup s ShowProgress station change named is = cc

pub changes-steps : ChangesOfReturnsAreSteps
changes-steps setup s con code ask change at is = changed-step setup s ask code change at.0 (decided-same setup s con code ask at ∙ is)

-- ---- commands on constituencies

con-step : (setup : List Constituency) (s t : State) (code : List ℕ) (found : Option Constituency) (ask : Ask) (a : Result Answer Refusal) → con_named ask ≡ Some code → constituency_with code setup ≡ found
    → IsConStepSeen found s ask a t → IsStepSeen setup s ask a t
con-step setup s t code found ask a named is step =
    subst (λ (n : Option (List ℕ)). IsStepSeenAt n setup s ask a t) (sym named) (subst (λ (f : Option Constituency). IsConStepSeen f s ask a t) (sym is) step)

pub decisions-steps : DecisionsOnConstituenciesAreSteps
decisions-steps setup s con code view ask decision on seen decides =
    con-step setup s (after_change s con.code decision) code (Some con) ask (con_answer view decision) on.0 on.1 (view, decision, seen, decides, refl, refl)

pub unknown-constituency : UnknownConstituenciesAreRefused
unknown-constituency setup s code ask named none = con-step setup s s code None ask _ named none (refl, refl)

pub edition-within : EditionsStayWithinTheirLimit
edition-within setup s con code view ask change ok lawful on seen decides =
    let t = after_change s con.code (Ok change) in
    let last = ((decision-lawful setup s ask code con view (Ok change) ok lawful on.1 seen decides).cons code con on.1).seen.last in
    subst (λ (c : ConState). c.edition ≤ last_edition) (now change) last
  where
    now : (x : ConChange) → con_state (after_change s con.code (Ok x)) con.code ≡ con_state_after (con_state s con.code) x
    now no_change = refl
    now (lot_set places) = con_state-changed s con.code (con_state_after (con_state s con.code) (lot_set places))
    now (certified_with seats) = con_state-changed s con.code (con_state_after (con_state s con.code) (certified_with seats))
    now (open_again note past) = con_state-changed s con.code (con_state_after (con_state s con.code) (open_again note past))
    now (gone_for_good gone next) = con_state-changed s con.code (con_state_after (con_state s con.code) (gone_for_good gone next))

-- ---- a candidate who goes

-- what was given is changed
pub given-by : {X : Type 0} (change : X → ConChange) (result : Result X Refusal) (decision : ConChange) → Ok decision ≡ change_of_result change result
    → (x : X) × (result ≡ Ok x) × (decision ≡ change x)
given-by change (Ok x) decision is = let same : decision ≡ change x = cc in (x, refl, same)
given-by change (Err refusal) decision is = cc

-- the list and the place of the candidate whom Vacate gives
record IsNamed (con : Constituency) (list : List ℕ) (place : ℕ) (gone : GoneCandidate) : Type 0 where
  of : ListFound
  list_is : list_found con list ≡ Some of
  at : gone.list ≡ of.place
  place_is : gone.place ≡ place

given-first : (gone : GoneCandidate) (next : Option ℕ) (v : GoneCandidate × Option ℕ) (result : Result (GoneCandidate × Option ℕ) Refusal) → result ≡ Ok v → result ≡ Ok (gone, next) → v.0 ≡ gone
given-first gone next v result ok is =
    let same : v ≡ (gone, next) = cc in
    ap (λ (x : GoneCandidate × Option ℕ). x.0) same

vacated-named : (con : Constituency) (view : View) (list : List ℕ) (place : ℕ) (note : List ℕ) (v : GoneCandidate × Option ℕ) → vacate_result con view list place note ≡ Ok v → IsNamed con list place v.0
vacated-named con view list place note v is = go (list_found con list) refl is
  where
    given : (f : ListFound) (refused : Option Refusal) → list_found con list ≡ Some f → refused_or refused (vacancy view (Some f) place note) ≡ Ok v → IsNamed con list place v.0
    given f (Some e) there ok = cc
    given f None there ok =
        let who = given-first (record { list = f.place; place = place; note = note }) (newcomer (holders_of view f (gone_of view f.place)) (holders_of view f (place ∷ gone_of view f.place))) v (vacancy view (Some f) place note) ok refl in
        record { of = f; list_is = there; at = ap (λ (g : GoneCandidate). g.list) who; place_is = ap (λ (g : GoneCandidate). g.place) who }

    go : (found : Option ListFound) → list_found con list ≡ found → refused_or (first_refusal (vacate_checks view found place note)) (vacancy view found place note) ≡ Ok v → IsNamed con list place v.0
    go None there ok = cc
    go (Some f) there ok = given f (first_refusal (vacate_checks view (Some f) place note)) there ok

none-there : {X : Type 0} (found : Option X) → is_some found ≡ false → found ≡ None
none-there None is = refl
none-there (Some x) is = cc

-- a candidate who is still to go, by the flag of the step that takes them
flag-none : (setup : List Constituency) (s : State) (code list : List ℕ) (place : ℕ) (con : Constituency) (gone : GoneCandidate) → constituency_with code setup ≡ Some con → IsNamed con list place gone
    → IsGoneFlag setup code list place s false → get (con_state s code).gone (gone.list ∷ gone.place ∷ []) ≡ None
flag-none setup s code list place con gone found named flag =
    let same_con : Some flag.con ≡ Some con = sym flag.found ∙ found in
    let con_is : flag.con ≡ con = cc in
    let same_list : Some flag.of ≡ Some named.of = sym flag.list_is ∙ ap (λ (c : Constituency). list_found c list) con_is ∙ named.list_is in
    let of : flag.of ≡ named.of = cc in
    ap (λ (n : ℕ). get (con_state s code).gone (gone.list ∷ n ∷ [])) named.place_is
    ∙ ap (λ (n : ℕ). get (con_state s code).gone (n ∷ place ∷ [])) (named.at ∙ sym (ap (λ (f : ListFound). f.place) of))
    ∙ none-there (get (con_state s code).gone (flag.of.place ∷ place ∷ [])) flag.is

pub gone-once : NobodyGoesTwice
gone-once setup s con code view (Vacate key list place note) gone next on seen decides =
    let decision = gone_for_good gone next in
    let by = given-by (λ (v : GoneCandidate × Option ℕ). gone_for_good v.0 v.1) (vacate_result con view list place (string_bytes note)) decision decides in
    let same : by.0.0 ≡ gone = let e : gone_for_good gone next ≡ gone_for_good by.0.0 by.0.1 = by.2 in cc in
    let who : IsNamed con list place gone = subst (IsNamed con list place) same (vacated-named con view list place (string_bytes note) by.0 by.1) in
    let here : Some key ≡ Some code = on.0 in
    let key_is : key ≡ code = cc in
    let t = after_change s con.code (Ok decision) in
    let step : IsConStep (Some con) s (Vacate key list place note) (Ok (Vacated next)) t = (view, Ok decision, seen, decides, refl, refl) in
    let answered : IsAnswered setup s (Vacate key list place note) (Ok (Vacated next)) t =
    inl (subst (λ (o : Option Constituency). IsConStep o s (Vacate key list place note) (Ok (Vacated next)) t) (sym (ap (λ q. constituency_with q setup) key_is ∙ on.1)) step) in
    let used = answered-used setup s (Vacate key list place note) (Ok (Vacated next)) t answered refl in
    ap (λ q. get (con_state s q).gone (gone.list ∷ gone.place ∷ [])) (con-code setup code con on.1)
    ∙ flag-none setup s code list place con gone on.1 who (subst (λ q. IsGoneFlag setup q list place s false) key_is used.0)
gone-once setup s con code view (Draw key edition order) gone next on seen decides = let by = given-by lot_set decides.0 (gone_for_good gone next) decides.2 in let e : gone_for_good gone next ≡ lot_set by.0 = by.2 in cc
gone-once setup s con code view (Certify key edition) gone next on seen decides = let by = given-by certified_with decides.0 (gone_for_good gone next) decides.2 in let e : gone_for_good gone next ≡ certified_with by.0 = by.2 in cc
gone-once setup s con code view (Reopen key edition note) gone next on seen decides = let by = given-by (λ (r : List ℕ × PastSeats). open_again r.0 r.1) (reopen_result view edition (string_bytes note)) (gone_for_good gone next) decides in let e : gone_for_good gone next ≡ open_again by.0.0 by.0.1 = by.2 in cc
gone-once setup s con code view (ShowCon key) gone next on seen decides = cc
gone-once setup s con code view (Lodge station slip counts) gone next on seen decides = absurd decides
gone-once setup s con code view (Query station rev note) gone next on seen decides = absurd decides
gone-once setup s con code view (Correct station rev slip counts) gone next on seen decides = absurd decides
gone-once setup s con code view (Close station rev) gone next on seen decides = absurd decides
gone-once setup s con code view (Confirm station rev slip counts) gone next on seen decides = absurd decides
gone-once setup s con code view (ShowReturn station) gone next on seen decides = absurd decides
gone-once setup s con code view ShowProgress gone next on seen decides = absurd decides
