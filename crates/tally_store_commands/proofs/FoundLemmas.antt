-- A command that moves a return, decided by what was found of its station and carried out.
use Rattle.std.proofs.Common.{◌≡◌, ◌≢◌, ◌≤◌, ◌⊎◌, ◌∙◌, ◌++◌, ◌∷◌, ℕ, List, [], Bool, true, false, length, Option, Some, None, Result, Ok, Err, IfOk, inl, inr, refl, sym, ap, subst}
use Rattle.std.specs.Prelude.{◌==◌, nat_le, not, string_bytes}
use Rattle.std.specs.FinMap.{get}
use Rattle.std.proofs.lemmas.Bool.{and_parts, eqb-true, not-true}
use Rattle.sqlite.specs.declared.error.Error.{Error}
use Rattle.sqlite.specs.State.{State as Seen, HasCleanDisk}
use Rattle.tally_setup.specs.Constituency.{Constituency}
use Rattle.tally_setup.specs.Limits.{IsSetup}
use Rattle.tally_setup.specs.Setup.{station_with}
use Rattle.tally_setup.specs.Text.{is_note}
use Rattle.tally_setup.specs.declared.constituency.Station.{Station}
use Rattle.tally_returns.specs.Checks.{check, first_refusal, refused_or}
use Rattle.tally_returns.specs.Counts.{all_votes, are_counts}
use Rattle.tally_returns.specs.Decide.{IsUnlessMemory, move_change, return_change, return_change_at, limits_of, put_next}
use Rattle.tally_returns.specs.Moves.{close_checks, closed_return, confirm_checks, correct_checks, corrected_return, counts_checks_at, entry_checks, last_revision, may_close, may_correct, may_query, move_checks, queried_return, query_checks, same_checks}
use Rattle.tally_returns.specs.Named.{station_named}
use Rattle.tally_returns.specs.Return.{StationReturn}
use Rattle.tally_returns.specs.State.{State, con_state}
use Rattle.tally_returns.specs.declared.ask.Ask.{Ask}
use Rattle.tally_returns.specs.declared.ask.Ask.TheVariants.{Lodge, Query, Correct, Close, Confirm, ShowReturn, Draw, Certify, Reopen, Vacate, ShowCon, ShowProgress}
use Rattle.tally_returns.specs.declared.change.Change.{Change}
use Rattle.tally_returns.specs.declared.change.Change.TheVariants.{PutReturn}
use Rattle.tally_returns.specs.declared.refusal.Refusal.{Refusal}
use Rattle.tally_returns.specs.declared.refusal.Refusal.TheVariants.{BadCounts, BadNote, Certified, Exhausted, Memory, NoReturn, NoStation, Stale, TooManyVotes, WrongStatus}
use Rattle.tally_returns.specs.declared.reply.Reply.{Reply}
use Rattle.tally_returns.specs.declared.reply.Reply.TheVariants.{Moved}
use Rattle.tally_returns.specs.declared.returns.Status.{Status}
use Rattle.tally_returns.specs.declared.returns.Status.TheVariants.{Received, Queried, Corrected, Closed}
use Rattle.tally_returns.proofs.ClosedLemmas.{station_with-con}
use Rattle.tally_returns.proofs.DecideLemmas.{first_refusal-append_first, passed-first, passed-rest}
use Rattle.tally_setup.proofs.NamedLemmas.{con-limits, station-found}
use Rattle.tally_machine_law.specs.Kinds.{IsReplyTo}
use Rattle.tally_machine_law.specs.LawfulState.{IsLawfulState}
use Rattle.tally_machine_law.specs.Step.{IsStep, state_after, after_put, after_return, con_of_station, change_in_state, move_reply, reply_seen, with_return, without_lot}
use Rattle.tally_machine_law.proofs.DecisionLemmas.{con_of-found, unknown-station}
use Rattle.tally_machine_law.proofs.ReturnStepLemmas.{append-rest}
use Rattle.tally_store_rows.specs.TablesOfState.{AreTables}
use Rattle.tally_store_entries.specs.internal.Constituencies.{FindsCertified}
use Rattle.tally_store_entries.specs.internal.Entries.{FindsReturn}
use Rattle.tally_keeper.specs.internal.Held.{moves_return}
use Rattle.tally_keeper.proofs.StepLemmas.{decided-found, memory-or}
use Rattle.tally_store_commands.specs.internal.Found.{CarriesOutFound, MovesTo, after_lot, after_move}
use Rattle.tally_store_commands.specs.internal.Requests.{IsCarriedOut, IsInState}
use Rattle.tally_store_commands.specs.internal.Seen.{IsStill}
use Rattle.tally_store_commands.proofs.ChangeLemmas.{stands}
use Rattle.tally_store_commands.proofs.LodgedLemmas.{found-is}

-- ---- what was decided

-- a constituency of the setup with a station has at most 60 lists
pub few-lists : (setup : List Constituency) (station : List ℕ) (con : Constituency) (place : Station) → IsSetup setup → station_with station setup ≡ Some (con, place) → length con.lists ≤ 60
few-lists setup station con place limits known = (con-limits setup con limits (station-found setup station con place known).0).lists

-- where the checks passed, a return was in a status from which the
-- command starts, and the constituency was not certified
record IsPassed (certified : Bool) (found : Option StationReturn) (may_start : Status → Bool) (checks : List (Option Refusal)) (next : StationReturn → StationReturn) (change : Change) : Type 0 where
  before : StationReturn
  found_is : found ≡ Some before
  change_is : change ≡ PutReturn (next before)
  started : may_start before.status ≡ true
  is_open : certified ≡ false
  none : first_refusal checks ≡ None

passed-start : (certified : Bool) (before : StationReturn) (rev : ℕ) (may_start : Status → Bool) → first_refusal (move_checks certified (Some before) rev may_start) ≡ None
    → (may_start before.status ≡ true) × (certified ≡ false)
passed-start certified before rev may_start none =
    let both = go (not certified) (before.rev == rev) (not (before.rev == last_revision)) (may_start before.status) none in
    (both.0, not-true certified both.1)
  where
    go : (opened same more start : Bool)
        → first_refusal (check opened Certified ∷ check same (Stale before.rev) ∷ check more Exhausted ∷ check start (WrongStatus before.status) ∷ []) ≡ None
        → (start ≡ true) × (opened ≡ true)
    go true true true true none = (refl, refl)
    go true true true false none = cc
    go true true false start none = cc
    go true false more start none = cc
    go false same more start none = cc

passed-move : (certified : Bool) (found : Option StationReturn) (rev : ℕ) (may_start : Status → Bool) (checks : List (Option Refusal)) (next : StationReturn → StationReturn) (change : Change)
    → (first_refusal checks ≡ None → first_refusal (move_checks certified found rev may_start) ≡ None) → move_change checks found next ≡ Ok change
    → IsPassed certified found may_start checks next change
passed-move certified found rev may_start checks next change rest is = go (first_refusal checks) found refl refl is
  where
    go : (refused : Option Refusal) (f : Option StationReturn) → first_refusal checks ≡ refused → found ≡ f → refused_or refused (Ok (put_next f next)) ≡ Ok change
        → IsPassed certified found may_start checks next change
    go (Some e) f none some ok = cc
    go None None none some ok =
        let moves : Some NoReturn ≡ None = subst (λ f. first_refusal (move_checks certified f rev may_start) ≡ None) some (rest none) in cc
    go None (Some before) none some ok =
        let start = passed-start certified before rev may_start (subst (λ f. first_refusal (move_checks certified f rev may_start) ≡ None) some (rest none)) in
        let put : PutReturn (next before) ≡ change = cc in
        record { before = before; found_is = some; change_is = sym put; started = start.0; is_open = start.1; none = none }

-- What a command that moves a return changes: the one that was found to another.
pub record IsPut (con : Constituency) (certified : Bool) (found : Option StationReturn) (ask : Ask) (change : Change) : Type 0 where
  pub before : StationReturn
  pub standing : StationReturn
  pub found_is : found ≡ Some before
  pub change_is : change ≡ PutReturn standing
  pub is_open : certified ≡ false
  pub moves : MovesTo con ask before standing

starts-corrected : (status : Status) → may_correct status ≡ true → status ≡ Queried
starts-corrected Received is = cc
starts-corrected Queried is = refl
starts-corrected Corrected is = cc
starts-corrected Closed is = cc

starts-closed : (status : Status) → may_close status ≡ true → status ≢ Closed
starts-closed Received is same = cc
starts-closed Queried is same = cc
starts-closed Corrected is same = cc
starts-closed Closed is same = cc

pub put-decided : (con : Constituency) (place : Station) (certified : Bool) (found : Option StationReturn) (ask : Ask) (change : Change) → moves_return ask ≡ true
    → return_change_at con place certified found ask ≡ Ok change → IsPut con certified found ask change
put-decided con place certified found (Query code rev note) change moves is =
    let checks = query_checks (Some (limits_of con place)) certified found rev (string_bytes note) in
    let p = passed-move certified found rev may_query checks (queried_return (string_bytes note)) change
    (λ none. passed-rest (is_note (string_bytes note)) BadNote (move_checks certified found rev may_query) none) is in record {
      before = p.before;
      standing = queried_return (string_bytes note) p.before;
      found_is = p.found_is;
      change_is = p.change_is;
      is_open = p.is_open;
      moves = (refl, refl);
    }
put-decided con place certified found (Correct code rev slip counts) change moves is =
    let limits = limits_of con place in
    let checks = correct_checks (Some limits) certified found rev counts in
    let p = passed-move certified found rev may_correct checks (corrected_return slip counts) change
    (append-rest (counts_checks_at (Some limits) counts) (move_checks certified found rev may_correct)) is in
    let fit : are_counts limits.lists counts ≡ true = passed-first (are_counts limits.lists counts) BadCounts (check (nat_le (all_votes counts) limits.entitled) TooManyVotes ∷ move_checks certified found rev may_correct) p.none in
    record {
      before = p.before;
      standing = corrected_return slip counts p.before;
      found_is = p.found_is;
      change_is = p.change_is;
      is_open = p.is_open;
      moves = (starts-corrected p.before.status p.started, refl, eqb-true (length counts.votes) (length con.lists) (and_parts _ _ (and_parts _ _ (and_parts _ _ fit).0).0).0);
    }
put-decided con place certified found (Close code rev) change moves is =
    let checks = close_checks (Some (limits_of con place)) certified found rev in
    let p = passed-move certified found rev may_close checks closed_return change
    (first_refusal-append_first (move_checks certified found rev may_close) (entry_checks con.entry)) is in record {
      before = p.before;
      standing = closed_return p.before;
      found_is = p.found_is;
      change_is = p.change_is;
      is_open = p.is_open;
      moves = (starts-closed p.before.status p.started, refl, refl);
    }
put-decided con place certified found (Confirm code rev slip counts) change moves is =
    let limits = limits_of con place in
    let checks = confirm_checks (Some limits) certified found rev slip counts in
    let moving = move_checks certified found rev may_close in
    let more = same_checks found slip counts in
    let p = passed-move certified found rev may_close checks closed_return change
    (λ none. first_refusal-append_first moving more (append-rest (counts_checks_at (Some limits) counts) (moving ++ more) none)) is in record {
      before = p.before;
      standing = closed_return p.before;
      found_is = p.found_is;
      change_is = p.change_is;
      is_open = p.is_open;
      moves = (starts-closed p.before.status p.started, refl, refl);
    }
put-decided con place certified found (Lodge code slip counts) change moves is = cc
put-decided con place certified found (ShowReturn code) change moves is = cc
put-decided con place certified found (Draw code edition order) change moves is = cc
put-decided con place certified found (Certify code edition) change moves is = cc
put-decided con place certified found (Reopen code edition note) change moves is = cc
put-decided con place certified found (Vacate code list number note) change moves is = cc
put-decided con place certified found (ShowCon code) change moves is = cc
put-decided con place certified found ShowProgress change moves is = cc

-- no other return is put
pub put-only : (con : Constituency) (certified : Bool) (found : Option StationReturn) (ask : Ask) (change : Change) (before standing : StationReturn) → IsPut con certified found ask change
    → found ≡ Some before → change ≡ PutReturn standing → MovesTo con ask before standing
put-only con certified found ask change before standing put some is =
    let was : Some put.before ≡ Some before = sym put.found_is ∙ some in
    let is_before : put.before ≡ before = cc in
    let now : PutReturn put.standing ≡ PutReturn standing = sym put.change_is ∙ is in
    let is_now : put.standing ≡ standing = cc in
    subst (λ r. MovesTo con ask r standing) is_before (subst (λ r. MovesTo con ask put.before r) is_now put.moves)

-- ---- the step

-- it is answered with the new revision
pub moved-kind : (setup : List Constituency) (ask : Ask) (rev : ℕ) → moves_return ask ≡ true → IsReplyTo setup ask (Moved rev)
moved-kind setup (Query code now note) rev moves = tt
moved-kind setup (Correct code now slip counts) rev moves = tt
moved-kind setup (Close code now) rev moves = tt
moved-kind setup (Confirm code now slip counts) rev moves = tt
moved-kind setup (Lodge code slip counts) rev moves = cc
moved-kind setup (ShowReturn code) rev moves = cc
moved-kind setup (Draw code edition order) rev moves = cc
moved-kind setup (Certify code edition) rev moves = cc
moved-kind setup (Reopen code edition note) rev moves = cc
moved-kind setup (Vacate code list number note) rev moves = cc
moved-kind setup (ShowCon code) rev moves = cc
moved-kind setup ShowProgress rev moves = cc

moving-step : (setup : List Constituency) (s : State) (ask : Ask) (r : Result Reply Refusal) (t : State) → moves_return ask ≡ true → reply_seen r ≡ move_reply (change_in_state setup s ask)
    → t ≡ after_return setup s ask → IsStep setup s ask r t
moving-step setup s (Query code rev note) r t moves is to = (is, to)
moving-step setup s (Correct code rev slip counts) r t moves is to = (is, to)
moving-step setup s (Close code rev) r t moves is to = (is, to)
moving-step setup s (Confirm code rev slip counts) r t moves is to = (is, to)
moving-step setup s (Lodge code slip counts) r t moves is to = cc
moving-step setup s (ShowReturn code) r t moves is to = cc
moving-step setup s (Draw code edition order) r t moves is to = cc
moving-step setup s (Certify code edition) r t moves is to = cc
moving-step setup s (Reopen code edition note) r t moves is to = cc
moving-step setup s (Vacate code list number note) r t moves is to = cc
moving-step setup s (ShowCon code) r t moves is to = cc
moving-step setup s ShowProgress r t moves is to = cc

-- with the lot that goes
lot-put : (setup : List Constituency) (s : State) (ask : Ask) (station : List ℕ) (con : Constituency) (place : Station) → station_named ask ≡ Some station
    → station_with station setup ≡ Some (con, place) → after_put setup s ask ≡ after_lot con ask s
lot-put setup s (Query code rev note) station con place named known =
    let same : code ≡ station = cc in
    ap (without_lot s) (ap (con_of_station setup) same ∙ con_of-found setup station con place known)
lot-put setup s other station con place named known = refl

-- what was found is what the state says
pub record IsFound (setup : List Constituency) (s : State) (station : List ℕ) (con : Constituency) (place : Station) (certified : Bool) (found : Option StationReturn) : Type 0 where
  pub known : station_with station setup ≡ Some (con, place)
  pub certified_is : certified ≡ (con_state s con.code).certified
  pub found_is : found ≡ get s.returns station

pub found-decided : (setup : List Constituency) (s : State) (ask : Ask) (station : List ℕ) (con : Constituency) (place : Station) (certified : Bool) (found : Option StationReturn)
    → station_named ask ≡ Some station → IsFound setup s station con place certified found → change_in_state setup s ask ≡ return_change_at con place certified found ask
found-decided setup s ask station con place certified found named is =
    decided-found setup s ask station con place named is.known
    ∙ ap (λ b. return_change (Some (limits_of con place)) b (get s.returns station) ask) (sym is.certified_is)
    ∙ ap (λ f. return_change (Some (limits_of con place)) certified f ask) (sym is.found_is)

-- a command that was refused changes nothing
pub move-refused : (setup : List Constituency) (text : List ℕ) (s : State) (ask : Ask) (station : List ℕ) (con : Constituency) (place : Station) (certified : Bool) (found : Option StationReturn) (e : Refusal) (now : Seen)
    → station_named ask ≡ Some station → moves_return ask ≡ true → IsFound setup s station con place certified found → IsUnlessMemory (Err e) (return_change_at con place certified found ask)
    → IsInState setup text s now → IsCarriedOut setup text s ask (Err e) now
move-refused setup text s ask station con place certified found e now named moves seen_as is here = go (memory-or e)
  where
    go : (e ≡ Memory) ⊎ (e ≢ Memory) → IsCarriedOut setup text s ask (Err e) now
    go (inl memory) = record { state = s; answered = inr (inl (ap Err memory), refl); in_state = here }
    go (inr other) =
        let decided : change_in_state setup s ask ≡ Err e = found-decided setup s ask station con place certified found named seen_as ∙ is other in
        record { state = s; answered = inl (moving-step setup s ask (Err e) s moves (ap move_reply (sym decided)) (ap (state_after setup s ask) (sym decided))); in_state = here }

-- such as one that names no station
pub move-nowhere : (setup : List Constituency) (text : List ℕ) (s : State) (ask : Ask) (station : List ℕ) (now : Seen) → station_named ask ≡ Some station → station_with station setup ≡ None
    → IsInState setup text s now → IsCarriedOut setup text s ask (Err NoStation) now
move-nowhere setup text s ask station now named none here = record { state = s; answered = inl (unknown-station setup s station ask named none); in_state = here }

-- a command that moved a return
pub move-carried : (setup : List Constituency) (text : List ℕ) (s : State) (ask : Ask) (station : List ℕ) (con : Constituency) (place : Station) (certified : Bool) (found : Option StationReturn) (standing : StationReturn) (now : Seen)
    → station_named ask ≡ Some station → moves_return ask ≡ true → IsFound setup s station con place certified found → return_change_at con place certified found ask ≡ Ok (PutReturn standing)
    → IsInState setup text (after_move con station ask standing s) now → IsCarriedOut setup text s ask (Ok (Moved standing.rev)) now
move-carried setup text s ask station con place certified found standing now named moves seen_as is here =
    let decided : change_in_state setup s ask ≡ Ok (PutReturn standing) = found-decided setup s ask station con place certified found named seen_as ∙ is in
    let to : after_move con station ask standing s ≡ after_return setup s ask =
    ap (λ t. with_return t (Some station) standing) (sym (lot-put setup s ask station con place named seen_as.known))
    ∙ ap (λ n. with_return (after_put setup s ask) n standing) (sym named)
    ∙ ap (state_after setup s ask) (sym decided) in
    record {
      state = after_move con station ask standing s;
      answered = inl (moving-step setup s ask (Ok (Moved standing.rev)) (after_move con station ask standing s) moves (ap move_reply (sym decided)) to);
      in_state = here;
    }

-- ---- what was found in the tables

-- what is carried out by what was found is carried out by the tables
pub found-carries : (setup : List Constituency) (con : Constituency) (place : Station) (station key : List ℕ) (certified : Bool) (found : Option StationReturn) (ask : Ask) (old mid last new : Seen) (r : Result (Result Reply Refusal) Error)
    → HasCleanDisk new → IsSetup setup → station_with station setup ≡ Some (con, place) → key ≡ con.code → IsStill old mid → IsStill mid last
    → FindsCertified key old certified → FindsReturn setup station mid found → CarriesOutFound setup con station certified found ask last new r
    → IfOk r (λ a. (text : List ℕ) (s : State) → IsLawfulState setup s → AreTables setup text s old.now.trees → IsCarriedOut setup text s ask a new)
found-carries setup con place station key certified found ask old mid last new (Err e) clean limits known key_is one two flag finds carries = tt
found-carries setup con place station key certified found ask old mid last new (Ok a) clean limits known key_is one two flag finds carries = λ text s lawful tables.
    let middle : AreTables setup text s mid.now.trees = subst (λ d. AreTables setup text s d.trees) (sym one.same) tables in
    let own = station_with-con setup station con place limits known in
    let held = subst (λ k. get s.cons k ≡ Some (con_state s con.code)) (sym key_is) (stands setup s con lawful own) in
    carries clean two.inside text s lawful (flag s.cons (con_state s con.code) held tables.cons) (found-is setup text s station mid found limits lawful middle finds)
    (subst (λ d. AreTables setup text s d.trees) (sym two.same) middle)
