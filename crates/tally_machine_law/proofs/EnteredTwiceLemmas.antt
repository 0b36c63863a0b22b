-- What is closed where returns are entered twice was entered twice.
use Rattle.std.proofs.Common.{◌≡◌, ◌≢◌, ◌<◌, ◌++◌, ◌∷◌, ◌∙◌, ℕ, zero, suc, List, [], Bool, true, false, cond, Option, Some, None, Result, Ok, Err, refl, sym, ap, subst, inl, inr, arith}
use Rattle.std.specs.Prelude.{◌==◌, not, All, is_some, option_map, string_bytes, if◌then◌else◌}
use Rattle.std.specs.Cmp.{first_so, second_so}
use Rattle.std.specs.FinMap as fin
use Rattle.std.specs.List.{find}
use Rattle.std.specs.Str.{bytes_eq}
use Rattle.std.proofs.lemmas.Bool.{eqb-true}
use Rattle.std.proofs.lemmas.List.Elements.{All-nil, All-cons, All-head, All-tail}
use Rattle.std.proofs.lemmas.Slice.Eq.{bytes_eq-Decides}
use Rattle.tally_setup.specs.Code.{code_cmp}
use Rattle.tally_setup.specs.Constituency.{Constituency}
use Rattle.tally_setup.specs.Limits.{IsSetup}
use Rattle.tally_setup.specs.Setup.{constituency_with, station_with}
use Rattle.tally_setup.specs.declared.constituency.Entry.TheVariants.{Double}
use Rattle.tally_setup.specs.declared.constituency.Station.{Station}
use Rattle.tally_returns.specs.Checks.{check, first_refusal, refused_or}
use Rattle.tally_returns.specs.Counts.{VoteCounts, same_counts}
use Rattle.tally_returns.specs.Decide.{return_change, limits_of, lodge_change, move_change, put_next, show_checks, station_in}
use Rattle.tally_returns.specs.Lodge.{StationLimits, counts_checks, is_return_of, reply_after_checks, reply_at_code}
use Rattle.tally_returns.specs.Moves.{close_checks, closed_return, confirm_checks, correct_checks, corrected_return, counts_checks_at, entry_checks, is_single, last_revision, may_close, move_checks, queried_return, query_checks, same_checks}
use Rattle.tally_returns.specs.Named.{con_named, slip_named, station_named}
use Rattle.tally_returns.specs.Progress.{is_closed}
use Rattle.tally_returns.specs.Return.{Returns, StationReturn, first_return}
use Rattle.tally_returns.specs.State.{State, opening, stations_of}
use Rattle.tally_returns.specs.declared.ask.Ask.{Ask}
use Rattle.tally_returns.specs.declared.ask.Ask.TheVariants.{Certify, Close, Confirm, Correct, Draw, Lodge, Query, Reopen, ShowCon, ShowProgress, ShowReturn, Vacate}
use Rattle.tally_returns.specs.declared.change.Change.{Change}
use Rattle.tally_returns.specs.declared.change.Change.TheVariants as change
use Rattle.tally_returns.specs.declared.refusal.Refusal.{Refusal}
use Rattle.tally_returns.specs.declared.refusal.Refusal.TheVariants.{Certified, Differs, Exhausted, NotConfirmed, Stale, WrongStatus}
use Rattle.tally_returns.specs.declared.reply.LodgeReply.{LodgeReply}
use Rattle.tally_returns.specs.declared.reply.LodgeReply.TheVariants as lodge
use Rattle.tally_returns.specs.declared.reply.Reply.{Reply}
use Rattle.tally_returns.specs.declared.reply.Reply.TheVariants.{Con, Edition, Lodged, Moved, Progress, Return, Same, Vacated}
use Rattle.tally_returns.specs.declared.returns.Status.{Status}
use Rattle.tally_returns.specs.declared.returns.Status.TheVariants.{Closed, Corrected, Queried, Received}
use Rattle.tally_machine_law.specs.EnteredTwice.{ActsOn, Brings, BringsAt, CertifiedReturnsWereEnteredTwice, ClosedReturnsWereEnteredTwice, ForCertifiedReturns, ForClosedReturns, HasClosedReturn, IsEnteredTwice, OneRequestEntersNothingTwice, is_first_entry, is_second_entry}
use Rattle.tally_machine_law.specs.LawfulState.{IsLawfulState}
use Rattle.tally_machine_law.specs.Runs.{IsRun, is_act}
use Rattle.tally_machine_law.specs.Step.{IsAnswered, IsReturnStepSeen, IsStepSeenAt, after_put, after_return, change_at_station, change_in_state, is_certified, lodge_reply, move_reply, reply_seen, state_after, with_return}
use Rattle.tally_returns.proofs.ClosedLemmas.{all_closed-each, closed_now, get-kept, get-put, station_in-with}
use Rattle.tally_returns.proofs.DecideLemmas.{first_refusal-append_first, passed-first}
use Rattle.tally_machine_law.proofs.ActLemmas.{answered-idle, is_act-return, not_accepted-idle}
use Rattle.tally_machine_law.proofs.ConStateLemmas.{con_step-returns}
use Rattle.tally_machine_law.proofs.LawLemmas.{run-lawful}
use Rattle.tally_machine_law.proofs.LifeLemmas.{acts, after_put-returns, puts}
use Rattle.tally_machine_law.proofs.ReturnStepLemmas.{append-rest, opening-lawful}

-- ---- what leaves the return of a station

-- a command on another station
left-elsewhere : (setup : List Constituency) (s : State) (ask : Ask) (station : List ℕ) → station_named ask ≢ Some station
    → fin.get (after_return setup s ask).returns station ≡ fin.get s.returns station
left-elsewhere setup s ask station apart = go (change_in_state setup s ask)
  where
    put : (named : Option (List ℕ)) (r : StationReturn) → named ≢ Some station → fin.get (with_return (after_put setup s ask) named r).returns station ≡ fin.get s.returns station
    put None r elsewhere = ap (λ (m : Returns). fin.get m station) (after_put-returns setup s ask)
    put (Some other) r elsewhere =
        get-kept (after_put setup s ask).returns other r station (λ same. elsewhere (ap Some (sym same)))
        ∙ ap (λ (m : Returns). fin.get m station) (after_put-returns setup s ask)

    go : (d : Result Change Refusal) → fin.get (state_after setup s ask d).returns station ≡ fin.get s.returns station
    go (Ok (change.PutReturn r)) = put (station_named ask) r apart
    go other = refl

step-elsewhere : (named : Option (List ℕ)) (setup : List Constituency) (s : State) (ask : Ask) (r : Result Reply Refusal) (t : State) (station : List ℕ) → station_named ask ≢ Some station
    → IsStepSeenAt named setup s ask (reply_seen r) t → fin.get t.returns station ≡ fin.get s.returns station
step-elsewhere None setup s ask r t station apart is = ap (λ (x : State). fin.get x.returns station) is.1 ∙ left-elsewhere setup s ask station apart
step-elsewhere (Some code) setup s ask r t station apart is = ap (λ (m : Returns). fin.get m station) (con_step-returns (constituency_with code setup) s ask r t is)

answered-elsewhere : (setup : List Constituency) (s : State) (ask : Ask) (r : Result Reply Refusal) (t : State) (station : List ℕ) → station_named ask ≢ Some station
    → IsAnswered setup s ask r t → fin.get t.returns station ≡ fin.get s.returns station
answered-elsewhere setup s ask r t station apart (inl is) = step-elsewhere (con_named ask) setup s ask r t station apart is
answered-elsewhere setup s ask r t station apart (inr is) = ap (λ (x : State). fin.get x.returns station) is.1

-- ---- what a command that puts a return puts

-- a command that acts puts a return
put-of : (d : Result Change Refusal) → puts d ≡ true → (p : StationReturn) × (d ≡ Ok (change.PutReturn p))
put-of (Ok (change.PutReturn p)) is = (p, refl)
put-of other is = cc

-- one that is lodged is the first
lodged-put : (slip : List ℕ) (counts : VoteCounts) (refused : Option Refusal) (found : Option StationReturn) (p : StationReturn)
    → lodge_change slip counts (refused_or refused (reply_after_checks found slip counts)) ≡ Ok (change.PutReturn p) → p ≡ first_return slip counts
lodged-put slip counts (Some e) found p is = cc
lodged-put slip counts None None p is = let same : first_return slip counts ≡ p = cc in sym same
lodged-put slip counts None (Some standing) p is = absurd (again (is_return_of slip counts standing) is)
  where
    again : (b : Bool) → lodge_change slip counts (if b then Ok (lodge.Same standing.rev) else Err (Differs standing.rev)) ≢ Ok (change.PutReturn p)
    again true ok = cc
    again false ok = cc

-- one that moves follows on the one recorded, and the checks passed
record IsMove (checks : List (Option Refusal)) (found : Option StationReturn) (next : StationReturn → StationReturn) (p : StationReturn) : Type 0 where
  pub old : StationReturn
  pub found_is : found ≡ Some old
  pub passed : first_refusal checks ≡ None
  pub put_is : p ≡ next old

moved-put : (checks : List (Option Refusal)) (found : Option StationReturn) (next : StationReturn → StationReturn) (p : StationReturn)
    → move_change checks found next ≡ Ok (change.PutReturn p) → IsMove checks found next p
moved-put checks found next p is = go (first_refusal checks) found refl refl is
  where
    go : (refused : Option Refusal) (f : Option StationReturn) → first_refusal checks ≡ refused → found ≡ f
        → refused_or refused (Ok (put_next f next)) ≡ Ok (change.PutReturn p) → IsMove checks found next p
    go (Some e) f none some ok = cc
    go None None none some ok = cc
    go None (Some old) none some ok =
        let same : next old ≡ p = cc in record { old = old; found_is = some; passed = none; put_is = sym same }

-- a return that is closed was one that may be
close-started : (certified : Bool) (old : StationReturn) (rev : ℕ) → first_refusal (move_checks certified (Some old) rev may_close) ≡ None → may_close old.status ≡ true
close-started certified old rev none = go (not certified) (old.rev == rev) (not (old.rev == last_revision)) (may_close old.status) none
  where
    go : (opened same more start : Bool)
        → first_refusal (check opened Certified ∷ check same (Stale old.rev) ∷ check more Exhausted ∷ check start (WrongStatus old.status) ∷ []) ≡ None
        → start ≡ true
    go true true true true none = refl
    go true true true false none = cc
    go true true false start none = cc
    go true false more start none = cc
    go false same more start none = cc

same-counts : (a b : VoteCounts) → same_counts a b ≡ true → a ≡ b
same-counts a b is =
    let votes : a.votes ≡ b.votes = (bytes_eq-Decides a.votes b.votes).0 (first_so _ _ is) in
    let blank : a.blank ≡ b.blank = eqb-true a.blank b.blank (first_so _ _ (second_so _ _ is)) in
    let spoiled : a.spoiled ≡ b.spoiled = eqb-true a.spoiled b.spoiled (second_so _ _ (second_so _ _ is)) in
    ap (λ (votes : List ℕ). record a { votes = votes }) votes
    ∙ ap (λ (n : ℕ). record b { blank = n; spoiled = a.spoiled }) blank
    ∙ ap (λ (n : ℕ). record b { spoiled = n }) spoiled

-- ---- what a command made of the return of a station where returns are entered twice

-- It was entered first, or queried, by a command that brings no slip, or closed by a second entry
-- of what was recorded.
pub data IsMade (station : List ℕ) (ask : Ask) (r : Result Reply Refusal) (found : Option StationReturn) (now : StationReturn) : Type 0 where
  entered : is_first_entry ask r ≡ true → is_closed now.status ≡ false → Brings station now ask → IsMade station ask r found now
  queried : now.status ≡ Queried → slip_named ask ≡ None → IsMade station ask r found now
  confirmed : (old : StationReturn) → found ≡ Some old → may_close old.status ≡ true → now ≡ closed_return old
      → is_second_entry ask r ≡ true → Brings station old ask → IsMade station ask r found now

-- how a command that acts is answered
lodged-answer : (x : Result LodgeReply Refusal) (r : Result Reply Refusal) → reply_seen r ≡ lodge_reply x → is_act r ≡ true → (n : ℕ) × (r ≡ Ok (Lodged n))
lodged-answer x (Ok (Lodged n)) seen act = (n, refl)
lodged-answer (Ok (lodge.Lodged m)) (Ok (Moved n)) seen act = cc
lodged-answer (Ok (lodge.Same m)) (Ok (Moved n)) seen act = cc
lodged-answer (Err e) (Ok (Moved n)) seen act = cc
lodged-answer (Ok (lodge.Lodged m)) (Ok (Edition n)) seen act = cc
lodged-answer (Ok (lodge.Same m)) (Ok (Edition n)) seen act = cc
lodged-answer (Err e) (Ok (Edition n)) seen act = cc
lodged-answer (Ok (lodge.Lodged m)) (Ok (Vacated n)) seen act = cc
lodged-answer (Ok (lodge.Same m)) (Ok (Vacated n)) seen act = cc
lodged-answer (Err e) (Ok (Vacated n)) seen act = cc
lodged-answer x (Ok (Same n)) seen act = cc
lodged-answer x (Ok (Return standing)) seen act = cc
lodged-answer x (Ok (Con view)) seen act = cc
lodged-answer x (Ok (Progress rows)) seen act = cc
lodged-answer x (Err e) seen act = cc

moved-answer : (d : Result Change Refusal) (p : StationReturn) (r : Result Reply Refusal) → d ≡ Ok (change.PutReturn p) → reply_seen r ≡ move_reply d → (n : ℕ) × (r ≡ Ok (Moved n))
moved-answer d p r is seen = go r (seen ∙ ap move_reply is)
  where
    go : (r : Result Reply Refusal) → reply_seen r ≡ move_reply (Ok (change.PutReturn p)) → (n : ℕ) × (r ≡ Ok (Moved n))
    go (Ok (Moved n)) seen = (n, refl)
    go (Ok (Lodged n)) seen = cc
    go (Ok (Same n)) seen = cc
    go (Ok (Return standing)) seen = cc
    go (Ok (Edition n)) seen = cc
    go (Ok (Vacated n)) seen = cc
    go (Ok (Con view)) seen = cc
    go (Ok (Progress rows)) seen = cc
    go (Err e) seen = cc

lodge-made : (station : List ℕ) (limits : StationLimits) (found : Option StationReturn) (code slip : List ℕ) (counts : VoteCounts) (r : Result Reply Refusal) (p : StationReturn)
    → code ≡ station → (n : ℕ) → r ≡ Ok (Lodged n) → lodge_change slip counts (reply_at_code (Some limits) found slip counts) ≡ Ok (change.PutReturn p)
    → IsMade station (Lodge code slip counts) r found p
lodge-made station limits found code slip counts r p named n answered is =
    let put : p ≡ first_return slip counts = lodged-put slip counts (first_refusal (counts_checks limits counts)) found p is in
    entered (ap (is_first_entry (Lodge code slip counts)) answered) (ap (λ (x : StationReturn). is_closed x.status) put)
    (ap Some named, ap (λ (x : StationReturn). Some x.slip) (sym put), ap (λ (x : StationReturn). Some x.counts) (sym put))

correct-made : (station : List ℕ) (limits : Option StationLimits) (certified : Bool) (found : Option StationReturn) (code : List ℕ) (rev : ℕ) (slip : List ℕ) (counts : VoteCounts) (r : Result Reply Refusal) (p : StationReturn)
    → code ≡ station → (n : ℕ) → r ≡ Ok (Moved n) → move_change (correct_checks limits certified found rev counts) found (corrected_return slip counts) ≡ Ok (change.PutReturn p)
    → IsMade station (Correct code rev slip counts) r found p
correct-made station limits certified found code rev slip counts r p named n answered is =
    let move = moved-put (correct_checks limits certified found rev counts) found (corrected_return slip counts) p is in
    entered (ap (is_first_entry (Correct code rev slip counts)) answered) (ap (λ (x : StationReturn). is_closed x.status) move.put_is)
    (ap Some named, ap (λ (x : StationReturn). Some x.slip) (sym move.put_is), ap (λ (x : StationReturn). Some x.counts) (sym move.put_is))

-- a Close moves nothing there
close-none : (limits : StationLimits) (certified : Bool) (found : Option StationReturn) (rev : ℕ) (p : StationReturn) → limits.entry ≡ Double
    → move_change (close_checks (Some limits) certified found rev) found closed_return ≢ Ok (change.PutReturn p)
close-none limits certified found rev p double is =
    let move = moved-put (close_checks (Some limits) certified found rev) found closed_return p is in
    let moves = move_checks certified found rev may_close in
    let once : is_single limits.entry ≡ true = passed-first (is_single limits.entry) NotConfirmed [] (append-rest moves (entry_checks limits.entry) move.passed) in
    let no : false ≡ true = sym (ap is_single double) ∙ once in
    cc

confirm-made : (station : List ℕ) (limits : Option StationLimits) (certified : Bool) (found : Option StationReturn) (code : List ℕ) (rev : ℕ) (slip : List ℕ) (counts : VoteCounts) (r : Result Reply Refusal) (p : StationReturn)
    → code ≡ station → (n : ℕ) → r ≡ Ok (Moved n) → move_change (confirm_checks limits certified found rev slip counts) found closed_return ≡ Ok (change.PutReturn p)
    → IsMade station (Confirm code rev slip counts) r found p
confirm-made station limits certified found code rev slip counts r p named n answered is =
    let move = moved-put (confirm_checks limits certified found rev slip counts) found closed_return p is in
    let old = move.old in
    let moves = move_checks certified found rev may_close in
    let more = same_checks found slip counts in
    let rest : first_refusal (moves ++ more) ≡ None = append-rest (counts_checks_at limits counts) (moves ++ more) move.passed in
    let started : first_refusal (move_checks certified (Some old) rev may_close) ≡ None = subst (λ f. first_refusal (move_checks certified f rev may_close) ≡ None) move.found_is (first_refusal-append_first moves more rest) in
    let compared : first_refusal (same_checks (Some old) slip counts) ≡ None = subst (λ f. first_refusal (same_checks f slip counts) ≡ None) move.found_is (append-rest moves more rest) in
    let same : is_return_of slip counts old ≡ true = passed-first (is_return_of slip counts old) (Differs old.rev) [] compared in
    let same_slip : old.slip ≡ slip = (bytes_eq-Decides old.slip slip).0 (first_so _ _ same) in
    let same_votes : old.counts ≡ counts = same-counts old.counts counts (second_so _ _ same) in
    confirmed old move.found_is (close-started certified old rev started) move.put_is (ap (is_second_entry (Confirm code rev slip counts)) answered)
    (ap Some named, ap Some (sym same_slip), ap Some (sym same_votes))

query-made : (station : List ℕ) (checks : List (Option Refusal)) (found : Option StationReturn) (ask : Ask) (note : List ℕ) (r : Result Reply Refusal) (p : StationReturn) → slip_named ask ≡ None
    → move_change checks found (queried_return note) ≡ Ok (change.PutReturn p) → IsMade station ask r found p
query-made station checks found ask note r p none is =
    queried (ap (λ (x : StationReturn). x.status) (moved-put checks found (queried_return note) p is).put_is) none

show-none : (refused : Option Refusal) (p : StationReturn) → refused_or refused (Ok change.Same) ≢ Ok (change.PutReturn p)
show-none None p is = cc
show-none (Some e) p is = cc

-- A request that acted on the station made something of its return.
pub record HasMade (station : List ℕ) (ask : Ask) (r : Result Reply Refusal) (found now : Option StationReturn) : Type 0 where
  pub made : StationReturn
  pub now_is : now ≡ Some made
  pub how : IsMade station ask r found made

module _ (setup : List Constituency) (station : List ℕ) (con : Constituency) (place : Station) (at : station_with station setup ≡ Some (con, place)) (double : con.entry ≡ Double) where
  limits-at : stations_of setup station ≡ Some (limits_of con place)
  limits-at = ap (option_map (λ (p : Constituency × Station). limits_of p.0 p.1)) at

  -- what is decided of a command that names the station
  decided-here : (s : State) (ask : Ask) → station_named ask ≡ Some station
      → change_in_state setup s ask ≡ return_change (Some (limits_of con place)) (is_certified setup s station) (fin.get s.returns station) ask
  decided-here s ask named =
      ap (change_at_station setup s ask) named ∙ ap (λ limits. return_change limits (is_certified setup s station) (fin.get s.returns station) ask) limits-at

  -- by the command
  how-made : (s : State) (ask : Ask) (r : Result Reply Refusal) (t : State) (p : StationReturn) → station_named ask ≡ Some station → is_act r ≡ true
      → IsAnswered setup s ask r t
      → change_in_state setup s ask ≡ Ok (change.PutReturn p)
      → return_change (Some (limits_of con place)) (is_certified setup s station) (fin.get s.returns station) ask ≡ Ok (change.PutReturn p)
      → IsMade station ask r (fin.get s.returns station) p
  how-made s ask r t p named act (inr is) put decision = let no : true ≡ false = sym act ∙ not_accepted-idle r is.0 in cc
  how-made s (Lodge code slip counts) r t p named act (inl is) put decision =
      let same : code ≡ station = cc in
      let answered = lodged-answer (reply_at_code (stations_of setup code) (fin.get s.returns code) slip counts) r is.0 act in
      lodge-made station (limits_of con place) (fin.get s.returns station) code slip counts r p same answered.0 answered.1 decision
  how-made s (Query code rev note) r t p named act (inl is) put decision =
      query-made station (query_checks (Some (limits_of con place)) (is_certified setup s station) (fin.get s.returns station) rev (string_bytes note)) (fin.get s.returns station) (Query code rev note) (string_bytes note) r p refl decision
  how-made s (Correct code rev slip counts) r t p named act (inl is) put decision =
      let same : code ≡ station = cc in
      let answered = moved-answer (change_in_state setup s (Correct code rev slip counts)) p r put is.0 in
      correct-made station (Some (limits_of con place)) (is_certified setup s station) (fin.get s.returns station) code rev slip counts r p same answered.0 answered.1 decision
  how-made s (Close code rev) r t p named act (inl is) put decision =
      absurd (close-none (limits_of con place) (is_certified setup s station) (fin.get s.returns station) rev p double decision)
  how-made s (Confirm code rev slip counts) r t p named act (inl is) put decision =
      let same : code ≡ station = cc in
      let answered = moved-answer (change_in_state setup s (Confirm code rev slip counts)) p r put is.0 in
      confirm-made station (Some (limits_of con place)) (is_certified setup s station) (fin.get s.returns station) code rev slip counts r p same answered.0 answered.1 decision
  how-made s (ShowReturn code) r t p named act (inl is) put decision =
      absurd (show-none (first_refusal (show_checks (Some (limits_of con place)) (fin.get s.returns station))) p decision)
  how-made s (Draw code edition order) r t p named act (inl is) put decision = cc
  how-made s (Certify code edition) r t p named act (inl is) put decision = cc
  how-made s (Reopen code edition note) r t p named act (inl is) put decision = cc
  how-made s (Vacate code list candidate note) r t p named act (inl is) put decision = cc
  how-made s (ShowCon code) r t p named act (inl is) put decision = cc
  how-made s ShowProgress r t p named act (inl is) put decision = cc

  -- a command that names a station names no constituency, so its step is one on a return
  no-con : (ask : Ask) → station_named ask ≡ Some station → con_named ask ≡ None
  no-con (Lodge code slip counts) named = refl
  no-con (Query code rev note) named = refl
  no-con (Correct code rev slip counts) named = refl
  no-con (Close code rev) named = refl
  no-con (Confirm code rev slip counts) named = refl
  no-con (ShowReturn code) named = refl
  no-con (Draw code edition order) named = cc
  no-con (Certify code edition) named = cc
  no-con (Reopen code edition note) named = cc
  no-con (Vacate code list candidate note) named = cc
  no-con (ShowCon code) named = cc
  no-con ShowProgress named = cc

  return-step : (s : State) (ask : Ask) (r : Result Reply Refusal) (t : State) → station_named ask ≡ Some station → is_act r ≡ true → IsAnswered setup s ask r t → IsReturnStepSeen setup s ask (reply_seen r) t
  return-step s ask r t named act (inl is) = subst (λ code. IsStepSeenAt code setup s ask (reply_seen r) t) (no-con ask named) is
  return-step s ask r t named act (inr is) = let no : true ≡ false = sym act ∙ not_accepted-idle r is.0 in cc

  pub has-made : (s : State) (ask : Ask) (r : Result Reply Refusal) (t : State) → station_named ask ≡ Some station → is_act r ≡ true → IsAnswered setup s ask r t
      → HasMade station ask r (fin.get s.returns station) (fin.get t.returns station)
  has-made s ask r t named act answered =
      let step = return-step s ask r t named act answered in
      let put = put-of (change_in_state setup s ask) (sym (is_act-return setup s ask r t step) ∙ act) in record {
        made = put.0;
        now_is =
            ap (λ (x : State). fin.get x.returns station) (step.1 ∙ ap (state_after setup s ask) put.1)
            ∙ ap (λ n. fin.get (with_return (after_put setup s ask) n put.0).returns station) named
            ∙ get-put (after_put setup s ask).returns station put.0;
        how = how-made s ask r t put.0 named act answered put.1 (sym (decided-here s ask named) ∙ put.1);
      }

-- ---- a request, by whether it acted on a station

-- it acted on the station, or it did not and left its return
pub data IsTurn (station : List ℕ) (ask : Ask) (r : Result Reply Refusal) (s t : State) : Type 0 where
  acted : station_named ask ≡ Some station → is_act r ≡ true → IsTurn station ask r s t
  left : ¬ ((station_named ask ≡ Some station) × (is_act r ≡ true)) → fin.get t.returns station ≡ fin.get s.returns station → IsTurn station ask r s t

pub turn : (setup : List Constituency) (station : List ℕ) (s : State) (ask : Ask) (r : Result Reply Refusal) (t : State) → IsAnswered setup s ask r t → IsTurn station ask r s t
turn setup station s ask r t answered = by (is_act r) refl
  where
    away : station_named ask ≢ Some station → IsTurn station ask r s t
    away apart = left (λ both. apart both.0) (answered-elsewhere setup s ask r t station apart answered)

    at_code : (code : List ℕ) (b : Bool) → bytes_eq code station ≡ b → station_named ask ≡ Some code → is_act r ≡ true → IsTurn station ask r s t
    at_code code true tied named act = acted (named ∙ ap Some ((bytes_eq-Decides code station).0 tied)) act
    at_code code false untied named act =
        away (λ same. let code_is : Some code ≡ Some station = sym named ∙ same in
        let one : code ≡ station = cc in
        let no : false ≡ true = sym untied ∙ (bytes_eq-Decides code station).1 one in
        cc)

    at : (named : Option (List ℕ)) → station_named ask ≡ named → is_act r ≡ true → IsTurn station ask r s t
    at None none act = away (λ same. let no : None ≡ Some station = sym none ∙ same in cc)
    at (Some code) named act = at_code code (bytes_eq code station) refl named act

    by : (b : Bool) → is_act r ≡ b → IsTurn station ask r s t
    by true act = at (station_named ask) refl act
    by false idle =
        left (λ both. let no : false ≡ true = sym idle ∙ both.1 in cc)
        (ap (λ (x : State). fin.get x.returns station) (answered-idle setup s ask r t answered idle))

-- ---- places in a list that begins one request earlier

pub later-brings : (is_kind : Ask → Result Reply Refusal → Bool) (station : List ℕ) (standing : StationReturn) (a : Ask) (asks : List Ask) (x : Result Reply Refusal) (rs : List (Result Reply Refusal)) (place : ℕ)
    → BringsAt is_kind station standing asks rs place → BringsAt is_kind station standing (a ∷ asks) (x ∷ rs) (suc place)
later-brings is_kind station standing a asks x rs place is =
    record { ask = is.ask; r = is.r; at = record { asked = is.at.asked; answered = is.at.answered }; kind = is.kind; brings = is.brings }

earlier-acts : (station : List ℕ) (a : Ask) (asks : List Ask) (x : Result Reply Refusal) (rs : List (Result Reply Refusal)) (place : ℕ)
    → ActsOn station (a ∷ asks) (x ∷ rs) (suc place) → ActsOn station asks rs place
earlier-acts station a asks x rs place is =
    record { ask = is.ask; r = is.r; at = record { asked = is.at.asked; answered = is.at.answered }; named = is.named; acted = is.acted }

pub first-acts : (station : List ℕ) (a : Ask) (asks : List Ask) (x : Result Reply Refusal) (rs : List (Result Reply Refusal))
    → ActsOn station (a ∷ asks) (x ∷ rs) 0 → (station_named a ≡ Some station) × (is_act x ≡ true)
first-acts station a asks x rs is =
    let asked : Some a ≡ Some is.ask = is.at.asked in
    let answered : Some x ≡ Some is.r = is.at.answered in
    let same : a ≡ is.ask = cc in
    let alike : x ≡ is.r = cc in
    (ap station_named same ∙ is.named, ap is_act alike ∙ is.acted)

-- where the first request does not act on the station, and none of some later ones does
pub none-acts : (station : List ℕ) (a : Ask) (asks : List Ask) (x : Result Reply Refusal) (rs : List (Result Reply Refusal))
    → ¬ ((station_named a ≡ Some station) × (is_act x ≡ true)) → ((place : ℕ) → ¬ ActsOn station asks rs place) → (place : ℕ) → ¬ ActsOn station (a ∷ asks) (x ∷ rs) place
none-acts station a asks x rs not none zero is = not (first-acts station a asks x rs is)
none-acts station a asks x rs not none (suc place) is = none place (earlier-acts station a asks x rs place is)

later-twice : (station : List ℕ) (standing : StationReturn) (a : Ask) (asks : List Ask) (x : Result Reply Refusal) (rs : List (Result Reply Refusal))
    → IsEnteredTwice asks rs station standing → IsEnteredTwice (a ∷ asks) (x ∷ rs) station standing
later-twice station standing a asks x rs is = record {
  first = suc is.first;
  second = suc is.second;
  apart = omega (arith, is.apart);
  first_entry = later-brings is_first_entry station standing a asks x rs is.first is.first_entry;
  second_entry = later-brings is_second_entry station standing a asks x rs is.second is.second_entry;
  no_other = no_other;
}
  where
    no_other : (place : ℕ) → suc is.first < place → place ≢ suc is.second → ¬ ActsOn station (a ∷ asks) (x ∷ rs) place
    no_other zero after other acts = absurd (omega (arith, after))
    no_other (suc place) after other acts =
        is.no_other place (omega (arith, after)) (λ same. other (ap suc same)) (earlier-acts station a asks x rs place acts)

-- the same slip and counts
pub brings-same : (station : List ℕ) (old standing : StationReturn) (ask : Ask) → old.slip ≡ standing.slip → old.counts ≡ standing.counts → Brings station old ask → Brings station standing ask
brings-same station old standing ask slip counts brings = (brings.0, brings.1 ∙ ap Some slip, brings.2 ∙ ap Some counts)

pub brings-first : (is_kind : Ask → Result Reply Refusal → Bool) (station : List ℕ) (standing : StationReturn) (a : Ask) (asks : List Ask) (x : Result Reply Refusal) (rs : List (Result Reply Refusal))
    → is_kind a x ≡ true → Brings station standing a → BringsAt is_kind station standing (a ∷ asks) (x ∷ rs) 0
brings-first is_kind station standing a asks x rs kind brings =
    record { ask = a; r = x; at = record { asked = refl; answered = refl }; kind = kind; brings = brings }

-- ---- where a closed return comes from

-- It was entered twice in the run; or before the run one was recorded that a request of the run
-- confirmed, alone; or before the run it was recorded itself, and nothing acted.
data IsFrom (station : List ℕ) (standing : StationReturn) (found : Option StationReturn) (asks : List Ask) (rs : List (Result Reply Refusal)) : Type 0 where
  twice : IsEnteredTwice asks rs station standing → IsFrom station standing found asks rs
  once : (old : StationReturn) → found ≡ Some old → may_close old.status ≡ true → old.slip ≡ standing.slip → old.counts ≡ standing.counts
      → (second : ℕ) → BringsAt is_second_entry station standing asks rs second → ((place : ℕ) → place ≢ second → ¬ ActsOn station asks rs place)
      → IsFrom station standing found asks rs
  stood : found ≡ Some standing → ((place : ℕ) → ¬ ActsOn station asks rs place) → IsFrom station standing found asks rs

module _ (setup : List Constituency) (station : List ℕ) (con : Constituency) (place : Station) (at : station_with station setup ≡ Some (con, place)) (double : con.entry ≡ Double) (standing : StationReturn) (closed : standing.status ≡ Closed) where
  -- one request earlier, where it acted and left one that was confirmed later
  from-once : (a : Ask) (x : Result Reply Refusal) (asks : List Ask) (rs : List (Result Reply Refusal)) (found now : Option StationReturn) (old : StationReturn)
      → HasMade station a x found now → now ≡ Some old → may_close old.status ≡ true → old.slip ≡ standing.slip → old.counts ≡ standing.counts
      → (second : ℕ) → BringsAt is_second_entry station standing asks rs second → ((place : ℕ) → place ≢ second → ¬ ActsOn station asks rs place)
      → IsFrom station standing found (a ∷ asks) (x ∷ rs)
  from-once a x asks rs found now old has now_is may slip counts second confirms alone = by has.how
    where
      same : has.made ≡ old
      same = let both : Some has.made ≡ Some old = sym has.now_is ∙ now_is in cc

      may_made : may_close has.made.status ≡ true
      may_made = ap (λ (m : StationReturn). may_close m.status) same ∙ may

      no_other : (place : ℕ) → 0 < place → place ≢ suc second → ¬ ActsOn station (a ∷ asks) (x ∷ rs) place
      no_other zero after other acts = absurd (omega (arith, after))
      no_other (suc place) after other acts = alone place (λ is. other (ap suc is)) (earlier-acts station a asks x rs place acts)

      by : IsMade station a x found has.made → IsFrom station standing found (a ∷ asks) (x ∷ rs)
      by (entered kind unclosed brings) =
          twice (record {
            first = 0;
            second = suc second;
            apart = omega arith;
            first_entry = brings-first is_first_entry station standing a asks x rs kind
                (brings-same station has.made standing a (ap (λ (m : StationReturn). m.slip) same ∙ slip) (ap (λ (m : StationReturn). m.counts) same ∙ counts) brings);
            second_entry = later-brings is_second_entry station standing a asks x rs second confirms;
            no_other = no_other;
          })
      by (queried is none) = let no : false ≡ true = sym (ap may_close is) ∙ may_made in cc
      by (confirmed older was started put kind brings) = let no : false ≡ true = sym (ap (λ (m : StationReturn). may_close m.status) put) ∙ may_made in cc

  -- one request earlier, where it acted and left the closed return
  from-stood : (a : Ask) (x : Result Reply Refusal) (asks : List Ask) (rs : List (Result Reply Refusal)) (found now : Option StationReturn)
      → HasMade station a x found now → now ≡ Some standing → ((place : ℕ) → ¬ ActsOn station asks rs place) → IsFrom station standing found (a ∷ asks) (x ∷ rs)
  from-stood a x asks rs found now has now_is idle = by has.how
    where
      same : has.made ≡ standing
      same = let both : Some has.made ≡ Some standing = sym has.now_is ∙ now_is in cc

      made_closed : has.made.status ≡ Closed
      made_closed = ap (λ (m : StationReturn). m.status) same ∙ closed

      alone : (place : ℕ) → place ≢ 0 → ¬ ActsOn station (a ∷ asks) (x ∷ rs) place
      alone zero other acts = other refl
      alone (suc place) other acts = idle place (earlier-acts station a asks x rs place acts)

      by : IsMade station a x found has.made → IsFrom station standing found (a ∷ asks) (x ∷ rs)
      by (entered kind unclosed brings) = let no : true ≡ false = sym (ap is_closed made_closed) ∙ unclosed in cc
      by (queried is none) = let no : Queried ≡ Closed = sym is ∙ made_closed in cc
      by (confirmed old was started put kind brings) =
          let slip : old.slip ≡ standing.slip = ap (λ (m : StationReturn). m.slip) (sym put ∙ same) in
          let counts : old.counts ≡ standing.counts = ap (λ (m : StationReturn). m.counts) (sym put ∙ same) in
          once old was started slip counts 0 (brings-first is_second_entry station standing a asks x rs kind (brings-same station old standing a slip counts brings)) alone

  from-run : (s t : State) (asks : List Ask) (rs : List (Result Reply Refusal)) → IsRun setup s asks rs t → fin.get t.returns station ≡ Some standing
      → IsFrom station standing (fin.get s.returns station) asks rs
  from-run s t [] [] is now = stood (ap (λ (x : State). fin.get x.returns station) (sym is) ∙ now) (λ place acts. let no : None ≡ Some acts.ask = acts.at.asked in cc)
  from-run s t [] (x ∷ rs) is now = absurd is
  from-run s t (a ∷ asks) [] is now = absurd is
  from-run s t (a ∷ asks) (x ∷ rs) is now = by (turn setup station s a x is.0 is.1) (from-run is.0 t asks rs is.2 now)
    where
      made : station_named a ≡ Some station → is_act x ≡ true → HasMade station a x (fin.get s.returns station) (fin.get is.0.returns station)
      made named act = has-made setup station con place at double s a x is.0 named act is.1

      by : IsTurn station a x s is.0 → IsFrom station standing (fin.get is.0.returns station) asks rs → IsFrom station standing (fin.get s.returns station) (a ∷ asks) (x ∷ rs)
      by turned (twice entries) = twice (later-twice station standing a asks x rs entries)
      by (left not same) (once old found may slip counts second confirms alone) =
          once old (sym same ∙ found) may slip counts (suc second) (later-brings is_second_entry station standing a asks x rs second confirms) apart
        where
          apart : (p : ℕ) → p ≢ suc second → ¬ ActsOn station (a ∷ asks) (x ∷ rs) p
          apart zero other acts = not (first-acts station a asks x rs acts)
          apart (suc p) other acts = alone p (λ e. other (ap suc e)) (earlier-acts station a asks x rs p acts)
      by (acted named act) (once old found may slip counts second confirms alone) =
          from-once a x asks rs (fin.get s.returns station) (fin.get is.0.returns station) old (made named act) found may slip counts second confirms alone
      by (left not same) (stood found idle) = stood (sym same ∙ found) (none-acts station a asks x rs not idle)
      by (acted named act) (stood found idle) =
          from-stood a x asks rs (fin.get s.returns station) (fin.get is.0.returns station) (made named act) found idle

-- ---- the laws

pub closed-twice : ClosedReturnsWereEnteredTwice
closed-twice setup t asks rs is station con place standing at double now closed =
    by (from-run setup station con place at double standing closed (opening setup) t asks rs is now)
  where
    none : fin.get (fin.empty {X = StationReturn} {R = code_cmp}) station ≡ None
    none = fin.get-empty code_cmp station

    by : IsFrom station standing (fin.get (fin.empty {X = StationReturn} {R = code_cmp}) station) asks rs → IsEnteredTwice asks rs station standing
    by (twice entries) = entries
    by (once old found may slip counts second confirms alone) = let no : None ≡ Some old = sym none ∙ found in cc
    by (stood found idle) = let no : None ≡ Some standing = sym none ∙ found in cc

-- each station is found by its code
found-more : (x : Station) (rest stations : List Station) → All (λ (y : Station). is_some (find (λ (z : Station). bytes_eq y.code z.code) rest) ≡ true) stations
    → All (λ (y : Station). is_some (find (λ (z : Station). bytes_eq y.code z.code) (x ∷ rest)) ≡ true) stations
found-more x rest [] all = All-nil (λ (y : Station). is_some (find (λ (z : Station). bytes_eq y.code z.code) (x ∷ rest)) ≡ true)
found-more x rest (y ∷ stations) all =
    All-cons (λ (y : Station). is_some (find (λ (z : Station). bytes_eq y.code z.code) (x ∷ rest)) ≡ true) y stations
    (go (bytes_eq y.code x.code) (All-head (λ (y : Station). is_some (find (λ (z : Station). bytes_eq y.code z.code) rest) ≡ true) y stations all))
    (found-more x rest stations (All-tail (λ (y : Station). is_some (find (λ (z : Station). bytes_eq y.code z.code) rest) ≡ true) y stations all))
  where
    go : (b : Bool) → is_some (find (λ (z : Station). bytes_eq y.code z.code) rest) ≡ true → is_some (cond b (Some x) (find (λ (z : Station). bytes_eq y.code z.code) rest)) ≡ true
    go true there = refl
    go false there = there

found-each : (stations : List Station) → All (λ (y : Station). is_some (find (λ (z : Station). bytes_eq y.code z.code) stations) ≡ true) stations
found-each [] = All-nil (λ (y : Station). is_some (find (λ (z : Station). bytes_eq y.code z.code) []) ≡ true)
found-each (x ∷ stations) =
    All-cons (λ (y : Station). is_some (find (λ (z : Station). bytes_eq y.code z.code) (x ∷ stations)) ≡ true) x stations
    (ap (λ b. is_some (cond b (Some x) (find (λ (z : Station). bytes_eq x.code z.code) stations))) ((bytes_eq-Decides x.code x.code).1 refl))
    (found-more x stations stations (found-each stations))

closed-status : (status : Status) → is_closed status ≡ true → status ≡ Closed
closed-status Received is = cc
closed-status Queried is = cc
closed-status Corrected is = cc
closed-status Closed is = refl

-- in a lawful state what holds of closed returns holds of each station that is certified
pub certified-each : (setup : List Constituency) (t : State) (IsSo : List ℕ → StationReturn → Type 0) → IsSetup setup → IsLawfulState setup t → ForClosedReturns setup t IsSo → ForCertifiedReturns setup t IsSo
certified-each setup t IsSo ok lawful so code con found double certified =
    each con.stations (all_closed-each t.returns con.stations ((lawful.cons code con found).seen.certified certified).0) (found-each con.stations)
  where
    Has : Station → Type 0
    Has = HasClosedReturn t IsSo

    IsClosedAt : Station → Type 0
    IsClosedAt x = closed_now (fin.get t.returns x.code) ≡ true

    IsFoundAt : Station → Type 0
    IsFoundAt x = is_some (station_in con x.code) ≡ true

    one : (x : Station) (now : Option StationReturn) (there : Option Station) → fin.get t.returns x.code ≡ now → closed_now now ≡ true → station_in con x.code ≡ there → is_some there ≡ true → Has x
    one x None there stands is_closed_now at some = cc
    one x (Some standing) None stands is_closed_now at some = cc
    one x (Some standing) (Some y) stands is_closed_now at some =
        let closed = closed-status standing.status is_closed_now in record {
          standing = standing;
          found = stands;
          closed = closed;
          so = so x.code con y standing (station_in-with setup code x.code con y ok found at) double stands closed;
        }

    each : (stations : List Station) → All IsClosedAt stations → All IsFoundAt stations → All Has stations
    each [] closed there = All-nil Has
    each (x ∷ stations) closed there =
        All-cons Has x stations
        (one x (fin.get t.returns x.code) (station_in con x.code) refl (All-head IsClosedAt x stations closed) refl (All-head IsFoundAt x stations there))
        (each stations (All-tail IsClosedAt x stations closed) (All-tail IsFoundAt x stations there))

pub certified-twice : CertifiedReturnsWereEnteredTwice
certified-twice setup t asks rs brings ok is =
    certified-each setup t (IsEnteredTwice asks rs) ok (run-lawful setup (opening setup) t asks rs brings ok is (opening-lawful setup ok)) (closed-twice setup t asks rs is)

-- ---- what is no second entry

-- both entries act
first-act : (ask : Ask) (r : Result Reply Refusal) → is_first_entry ask r ≡ true → is_act r ≡ true
first-act ask (Ok (Lodged rev)) is = refl
first-act ask (Ok (Moved rev)) is = refl
first-act ask (Ok (Edition edition)) is = refl
first-act ask (Ok (Vacated next)) is = refl
first-act (Lodge station slip counts) (Ok (Same rev)) is = cc
first-act (Lodge station slip counts) (Ok (Return standing)) is = cc
first-act (Lodge station slip counts) (Ok (Con view)) is = cc
first-act (Lodge station slip counts) (Ok (Progress rows)) is = cc
first-act (Lodge station slip counts) (Err e) is = cc
first-act (Correct station rev slip counts) (Ok (Same n)) is = cc
first-act (Correct station rev slip counts) (Ok (Return standing)) is = cc
first-act (Correct station rev slip counts) (Ok (Con view)) is = cc
first-act (Correct station rev slip counts) (Ok (Progress rows)) is = cc
first-act (Correct station rev slip counts) (Err e) is = cc
first-act (Confirm station rev slip counts) (Ok (Same n)) is = cc
first-act (Confirm station rev slip counts) (Ok (Return standing)) is = cc
first-act (Confirm station rev slip counts) (Ok (Con view)) is = cc
first-act (Confirm station rev slip counts) (Ok (Progress rows)) is = cc
first-act (Confirm station rev slip counts) (Err e) is = cc
first-act (Query station rev note) r is = cc
first-act (Close station rev) r is = cc
first-act (ShowReturn station) r is = cc
first-act (Draw con edition order) r is = cc
first-act (Certify con edition) r is = cc
first-act (Reopen con edition note) r is = cc
first-act (Vacate con list place note) r is = cc
first-act (ShowCon con) r is = cc
first-act ShowProgress r is = cc

second-act : (ask : Ask) (r : Result Reply Refusal) → is_second_entry ask r ≡ true → is_act r ≡ true
second-act (Confirm station rev slip counts) (Ok (Moved next)) is = refl
second-act (Confirm station rev slip counts) (Ok (Lodged n)) is = cc
second-act (Confirm station rev slip counts) (Ok (Same n)) is = cc
second-act (Confirm station rev slip counts) (Ok (Return standing)) is = cc
second-act (Confirm station rev slip counts) (Ok (Edition edition)) is = cc
second-act (Confirm station rev slip counts) (Ok (Vacated next)) is = cc
second-act (Confirm station rev slip counts) (Ok (Con view)) is = cc
second-act (Confirm station rev slip counts) (Ok (Progress rows)) is = cc
second-act (Confirm station rev slip counts) (Err e) is = cc
second-act (Lodge station slip counts) r is = cc
second-act (Correct station rev slip counts) r is = cc
second-act (Query station rev note) r is = cc
second-act (Close station rev) r is = cc
second-act (ShowReturn station) r is = cc
second-act (Draw con edition order) r is = cc
second-act (Certify con edition) r is = cc
second-act (Reopen con edition note) r is = cc
second-act (Vacate con list place note) r is = cc
second-act (ShowCon con) r is = cc
second-act ShowProgress r is = cc

brings-acts : (is_kind : Ask → Result Reply Refusal → Bool) (station : List ℕ) (standing : StationReturn) (asks : List Ask) (rs : List (Result Reply Refusal)) (place : ℕ)
    → ((ask : Ask) (r : Result Reply Refusal) → is_kind ask r ≡ true → is_act r ≡ true) → BringsAt is_kind station standing asks rs place → ActsOn station asks rs place
brings-acts is_kind station standing asks rs place act is =
    record { ask = is.ask; r = is.r; at = is.at; named = is.brings.0; acted = act is.ask is.r is.kind }

pub one-enters_nothing : OneRequestEntersNothingTwice
one-enters_nothing asks rs station standing alone is =
    let same : is.first ≡ is.second =
    alone is.first is.second (brings-acts is_first_entry station standing asks rs is.first first-act is.first_entry)
    (brings-acts is_second_entry station standing asks rs is.second second-act is.second_entry) in
    omega (arith, same, is.apart)
