-- What is decided of a command on a return, as a keeper in memory looks it up.
use Rattle.std.proofs.Common.{◌≡◌, ◌≢◌, ◌⊎◌, ◌∷◌, ◌∙◌, ℕ, List, [], Bool, true, false, Option, Some, None, Result, Ok, Err, refl, sym, ap, subst, inl, inr, arith, Bor, Global, String}
use Rattle.std.specs.Prelude.{nat_le, option_map, if◌then◌else◌}
use Rattle.std.specs.Option.{ForSome, option_copied}
use Rattle.std.specs.FinMap as fin
use Rattle.std.proofs.lemmas.Bool.{leb-true}
use Rattle.tally_setup.specs.Code.{is_code}
use Rattle.tally_setup.specs.Constituency.{Constituency}
use Rattle.tally_setup.specs.Setup.{constituency_with, station_with}
use Rattle.tally_setup.specs.declared.constituency.Station.{Station}
use Rattle.tally_returns.specs.Checks.{check, first_refusal, refused_or}
use Rattle.tally_returns.specs.Counts.{VoteCounts, all_votes, are_counts}
use Rattle.tally_returns.specs.Decide.{IsUnlessMemory, return_change, limits_of}
use Rattle.tally_returns.specs.Lawful.{IsLawful}
use Rattle.tally_machine_law.specs.LawfulState.{IsLawfulState}
use Rattle.tally_returns.specs.Lodge.{StationLimits, Stations, reply_after_checks, counts_checks, is_return_of, reply_at_code, lodge_answer}
use Rattle.tally_returns.specs.Named.{station_named}
use Rattle.tally_machine_law.specs.Decisions.{answer_to_change}
use Rattle.tally_machine_law.specs.Step.{Answer, move_reply, state_after, after_put, con_of_station, change_in_state, is_certified, with_return, without_lot}
use Rattle.tally_returns.specs.Return.{StationReturn, Returns, first_return}
use Rattle.tally_returns.specs.State.{State, con_state, stations_of}
use Rattle.tally_returns.specs.View.{View}
use Rattle.tally_returns.specs.declared.ask.Ask.{Ask}
use Rattle.tally_returns.specs.declared.ask.Ask.TheVariants.{Lodge, Query, Correct, Close, Confirm, ShowReturn, Draw, Certify, Reopen, Vacate, ShowCon, ShowProgress}
use Rattle.tally_returns.specs.declared.change.Change.{Change}
use Rattle.tally_returns.specs.declared.change.Change.TheVariants as change
use Rattle.tally_returns.specs.declared.refusal.Refusal.{Refusal}
use Rattle.tally_returns.specs.declared.refusal.Refusal.TheVariants.{NoStation, BadCounts, BadNote, TooManyVotes, Differs, NoReturn, Certified, Stale, Exhausted, WrongStatus, Memory, Store, NoConstituency, NoCandidate, NotCertified, NotAllClosed, NoEligible, LotStands, LotNotNeeded, LotWrongGroup, LotMissing, AlreadyGone, NotHolder, NotConfirmed}
use Rattle.tally_returns.specs.declared.reply.LodgeReply.TheVariants as reply
use Rattle.tally_returns.specs.declared.reply.Reply.{Reply}
use Rattle.tally_returns.specs.declared.reply.Reply.TheVariants.{Moved}
use Rattle.tally_returns.proofs.ClosedLemmas.{station_with-con}
use Rattle.tally_returns.proofs.DecideLemmas.{passed-first, passed-rest}
use Rattle.tally_keeper.specs.Kept.{Kept, state_in, view_in, with_no_lot}
use Rattle.tally_keeper.specs.internal.Held.{IsAnsweredInMemory, IsHeld, CarriesOutLodge, IsMoved, is_query, moves_return, with_state}
use Rattle.tally_machine_law.proofs.DecisionLemmas.{certified-found, changed-step, con_of-found, decided-named}
use Rattle.tally_keeper.proofs.HeldLemmas.{lodge-step}

-- ---- what is decided at a station

-- a lawful state has a lawful return or none at a station
pub lawful-at : (setup : List Constituency) (s : State) (station : List ℕ) (limits : StationLimits) → IsLawfulState setup s → stations_of setup station ≡ Some limits
    → ForSome (fin.get s.returns station) (IsLawful limits)
lawful-at setup s station limits lawful known = λ standing some.
    let at = lawful.stations station standing some in
    let same : at.0 ≡ limits = let e : Some at.0 ≡ Some limits = sym at.1 ∙ known in cc in
    subst (λ l. IsLawful l standing) same at.2

-- a station that was looked up, and what the setup says of it
pub station-known : (setup : List Constituency) (station : List ℕ) (found : Option (Bor Constituency × Bor Station)) (con : Bor Constituency) (place : Bor Station)
    → option_map (λ (p : Bor Constituency × Bor Station). (p.0.now, p.1.now)) found ≡ station_with station setup → found ≡ Some (con, place)
    → station_with station setup ≡ Some (con.now, place.now)
station-known setup station found con place look is = sym look ∙ ap (option_map (λ (p : Bor Constituency × Bor Station). (p.0.now, p.1.now))) is

pub limits-known : (setup : List Constituency) (station : List ℕ) (con : Constituency) (place : Station) → station_with station setup ≡ Some (con, place)
    → stations_of setup station ≡ Some (limits_of con place)
limits-known setup station con place is = ap (option_map (λ (p : Constituency × Station). limits_of p.0 p.1)) is

-- what is decided at the station that was looked up
pub decided-found : (setup : List Constituency) (s : State) (ask : Ask) (station : List ℕ) (con : Constituency) (place : Station) → station_named ask ≡ Some station
    → station_with station setup ≡ Some (con, place) → change_in_state setup s ask ≡ return_change (Some (limits_of con place)) (con_state s con.code).certified (fin.get s.returns station) ask
decided-found setup s ask station con place named is =
    decided-named setup s ask station named
    ∙ ap (λ limits. return_change limits (is_certified setup s station) (fin.get s.returns station) ask) (limits-known setup station con place is)
    ∙ ap (λ b. return_change (Some (limits_of con place)) b (fin.get s.returns station) ask) (certified-found setup s station con place is)

-- a refusal is out of memory or another
pub memory-or : (e : Refusal) → (e ≡ Memory) ⊎ (e ≢ Memory)
memory-or NoStation = inr (λ (same : NoStation ≡ Memory). cc)
memory-or BadCounts = inr (λ (same : BadCounts ≡ Memory). cc)
memory-or BadNote = inr (λ (same : BadNote ≡ Memory). cc)
memory-or TooManyVotes = inr (λ (same : TooManyVotes ≡ Memory). cc)
memory-or (Differs rev) = inr (λ (same : Differs rev ≡ Memory). cc)
memory-or NoReturn = inr (λ (same : NoReturn ≡ Memory). cc)
memory-or Certified = inr (λ (same : Certified ≡ Memory). cc)
memory-or (Stale now) = inr (λ (same : Stale now ≡ Memory). cc)
memory-or Exhausted = inr (λ (same : Exhausted ≡ Memory). cc)
memory-or (WrongStatus status) = inr (λ (same : WrongStatus status ≡ Memory). cc)
memory-or NoConstituency = inr (λ (same : NoConstituency ≡ Memory). cc)
memory-or NoCandidate = inr (λ (same : NoCandidate ≡ Memory). cc)
memory-or NotCertified = inr (λ (same : NotCertified ≡ Memory). cc)
memory-or (NotAllClosed left) = inr (λ (same : NotAllClosed left ≡ Memory). cc)
memory-or NoEligible = inr (λ (same : NoEligible ≡ Memory). cc)
memory-or LotStands = inr (λ (same : LotStands ≡ Memory). cc)
memory-or LotNotNeeded = inr (λ (same : LotNotNeeded ≡ Memory). cc)
memory-or (LotWrongGroup group) = inr (λ (same : LotWrongGroup group ≡ Memory). cc)
memory-or (LotMissing group seats) = inr (λ (same : LotMissing group seats ≡ Memory). cc)
memory-or AlreadyGone = inr (λ (same : AlreadyGone ≡ Memory). cc)
memory-or NotHolder = inr (λ (same : NotHolder ≡ Memory). cc)
memory-or NotConfirmed = inr (λ (same : NotConfirmed ≡ Memory). cc)
memory-or Memory = inl refl
memory-or Store = inr (λ (same : Store ≡ Memory). cc)

-- ---- commands that move a return

-- What a keeper looked up of the station that a command names: its
-- place, whether its constituency is certified, and its return.
pub record IsLookedUp (k : Kept) (station : List ℕ) (con : Constituency) (place : Station) (certified : Bool) (found : Option StationReturn) : Type 0 where
  pub place_is : station_with station k.setup ≡ Some (con, place)
  pub certified_is : certified ≡ (con_state (state_in k) con.code).certified
  pub found_is : found ≡ fin.get k.returns station

-- the constituency of a station is kept
pub station-own : (k : Kept) (station : List ℕ) (con : Constituency) (place : Station) → IsHeld k → station_with station k.setup ≡ Some (con, place) → constituency_with con.code k.setup ≡ Some con
station-own k station con place held is = station_with-con k.setup station con place held.limits is

-- and something is seen of it
pub view-found : (k : Kept) (code : List ℕ) (con : Constituency) (found : Option (Bor View)) (view : Bor View) → constituency_with code k.setup ≡ Some con
    → option_copied found ≡ option_map (view_in k) (constituency_with code k.setup) → found ≡ Some view → view.now ≡ view_in k con
view-found k code con found view is seen some =
    let both : Some view.now ≡ Some (view_in k con) = sym (ap option_copied some) ∙ seen ∙ ap (option_map (view_in k)) is in cc

pub view-none : (k : Kept) (code : List ℕ) (con : Constituency) (found : Option (Bor View)) → constituency_with code k.setup ≡ Some con
    → option_copied found ≡ option_map (view_in k) (constituency_with code k.setup) → found ≡ None → ⊥
view-none k code con found is seen none =
    let both : None ≡ Some (view_in k con) = sym (ap option_copied none) ∙ seen ∙ ap (option_map (view_in k)) is in cc

pub looked-up : (k : Kept) (station : List ℕ) (con : Constituency) (place : Station) (code : List ℕ) (found : Option (Bor View)) (view : Bor View) (certified : Bool) (returns : Option StationReturn)
    → IsHeld k → station_with station k.setup ≡ Some (con, place) → code ≡ con.code → option_copied found ≡ option_map (view_in k) (constituency_with code k.setup) → found ≡ Some view
    → certified ≡ view.now.certified → returns ≡ fin.get k.returns station → IsLookedUp k station con place certified returns
looked-up k station con place code found view certified returns held is code_is seen some flag stands =
    let own = ap (λ q. constituency_with q k.setup) code_is ∙ station-own k station con place held is in record {
      place_is = is;
      certified_is = flag ∙ ap (λ (v : View). v.certified) (view-found k code con found view own seen some);
      found_is = stands;
    }

-- what is decided by what was looked up
looked_up-decided : (k : Kept) (ask : Ask) (station : List ℕ) (con : Constituency) (place : Station) (certified : Bool) (found : Option StationReturn) → IsLookedUp k station con place certified found
    → station_named ask ≡ Some station → change_in_state k.setup (state_in k) ask ≡ return_change (Some (limits_of con place)) certified found ask
looked_up-decided k ask station con place certified found is named =
    decided-found k.setup (state_in k) ask station con place named is.place_is
    ∙ ap (λ b. return_change (Some (limits_of con place)) b (fin.get k.returns station) ask) (sym is.certified_is)
    ∙ ap (λ f. return_change (Some (limits_of con place)) certified f ask) (sym is.found_is)

-- the return that was looked up is lawful
pub looked_up-lawful : (k : Kept) (station : List ℕ) (con : Constituency) (place : Station) (found : Option StationReturn) → IsHeld k → station_with station k.setup ≡ Some (con, place)
    → found ≡ fin.get k.returns station → ForSome found (IsLawful (limits_of con place))
looked_up-lawful k station con place found held is stands =
    subst (λ f. ForSome f (IsLawful (limits_of con place))) (sym stands)
    (lawful-at k.setup (state_in k) station (limits_of con place) held.lawful (limits-known k.setup station con place is))

-- a command on a return that was refused
moved-err : (k : Kept) (ask : Ask) (e : Refusal) → change_in_state k.setup (state_in k) ask ≡ Err e → IsMoved k ask (Err e) k
moved-err k ask e is = inl (sym (ap move_reply is), ap (λ d. with_state k (state_after k.setup (state_in k) ask d)) (sym is))

pub moved-refused : (k : Kept) (ask : Ask) (station : List ℕ) (con : Constituency) (place : Station) (certified : Bool) (found : Option StationReturn) (e : Refusal)
    → IsLookedUp k station con place certified found → station_named ask ≡ Some station → IsUnlessMemory (Err e) (return_change (Some (limits_of con place)) certified found ask) → IsMoved k ask (Err e) k
moved-refused k ask station con place certified found e looked named is = go (memory-or e)
  where
    go : (e ≡ Memory) ⊎ (e ≢ Memory) → IsMoved k ask (Err e) k
    go (inl memory) = inr (ap Err memory, refl)
    go (inr other) = moved-err k ask e (looked_up-decided k ask station con place certified found looked named ∙ is other)

-- a command that moves a return changes nothing else
reported-put : (ask : Ask) (found : Option StationReturn) (d : Change) (a : Answer) → moves_return ask ≡ true → answer_to_change ask found d ≡ Some a → ((r : StationReturn) → d ≢ change.PutReturn r) → ⊥
reported-put ask found (change.PutReturn r) a moves is never = never r refl
reported-put (Query code rev note) found d a moves is never = cc
reported-put (Correct code rev slip counts) found d a moves is never = cc
reported-put (Close code rev) found d a moves is never = cc
reported-put (Confirm code rev slip counts) found d a moves is never = cc
reported-put ask found d a moves is never = cc

pub moves-put : (k : Kept) (ask : Ask) (station : List ℕ) (con : Constituency) (place : Station) (certified : Bool) (found : Option StationReturn) (other : Change)
    → IsLookedUp k station con place certified found → station_named ask ≡ Some station → moves_return ask ≡ true → return_change (Some (limits_of con place)) certified found ask ≡ Ok other
    → ((r : StationReturn) → other ≢ change.PutReturn r) → ⊥
moves-put k ask station con place certified found other looked named moves is never =
    let by = changed-step k.setup (state_in k) ask station other named (looked_up-decided k ask station con place certified found looked named ∙ is) in
    reported-put ask (fin.get k.returns station) other by.0 moves by.1 never

-- a return that is put
abbrev pub with_put : Kept → List ℕ → StationReturn → Kept
with_put k station r = record k { returns = fin.insert k.returns station r }

moved-put : (k new : Kept) (ask : Ask) (station : List ℕ) (con : Constituency) (place : Station) (certified : Bool) (found : Option StationReturn) (r : StationReturn)
    → IsLookedUp k station con place certified found → station_named ask ≡ Some station → return_change (Some (limits_of con place)) certified found ask ≡ Ok (change.PutReturn r)
    → new ≡ with_state k (with_return (after_put k.setup (state_in k) ask) (Some station) r) → IsMoved k ask (Ok (Moved r.rev)) new
moved-put k new ask station con place certified found r looked named is now =
    let put = looked_up-decided k ask station con place certified found looked named ∙ is in
    inl (
      sym (ap move_reply put),
      now
          ∙ ap (λ n. with_state k (with_return (after_put k.setup (state_in k) ask) n r)) (sym named)
          ∙ ap (λ d. with_state k (state_after k.setup (state_in k) ask d)) (sym put),
    )

pub not_query : (ask : Ask) → ((code : List ℕ) (rev : ℕ) (note : String Global) → ask ≢ Query code rev note) → is_query ask ≡ false
not_query (Query code rev note) never = absurd (never code rev note refl)
not_query other never = refl

-- a query takes the lot with it
query-put : (k : Kept) (ask : Ask) (station : List ℕ) (con : Constituency) (place : Station) → station_named ask ≡ Some station → station_with station k.setup ≡ Some (con, place) → is_query ask ≡ true
    → after_put k.setup (state_in k) ask ≡ without_lot (state_in k) (Some con.code)
query-put k (Query code rev note) station con place named is query =
    let same : code ≡ station = cc in
    ap (without_lot (state_in k)) (ap (con_of_station k.setup) same ∙ con_of-found k.setup station con place is)
query-put k (Lodge code slip counts) station con place named is query = cc
query-put k (Correct code rev slip counts) station con place named is query = cc
query-put k (Close code rev) station con place named is query = cc
query-put k (Confirm code rev slip counts) station con place named is query = cc
query-put k (ShowReturn code) station con place named is query = cc
query-put k (Draw code edition order) station con place named is query = cc
query-put k (Certify code edition) station con place named is query = cc
query-put k (Reopen code edition note) station con place named is query = cc
query-put k (Vacate code list number note) station con place named is query = cc
query-put k (ShowCon code) station con place named is query = cc
query-put k ShowProgress station con place named is query = cc

other-put : (k : Kept) (ask : Ask) → is_query ask ≡ false → after_put k.setup (state_in k) ask ≡ state_in k
other-put k (Query code rev note) query = cc
other-put k other query = refl

-- a query that moved a return, with which the lot went
moved-query : (k new : Kept) (ask : Ask) (station : List ℕ) (con : Constituency) (place : Station) (certified : Bool) (found : Option StationReturn) (r : StationReturn)
    → IsLookedUp k station con place certified found → station_named ask ≡ Some station → return_change (Some (limits_of con place)) certified found ask ≡ Ok (change.PutReturn r)
    → is_query ask ≡ true → new ≡ with_no_lot (with_put k station r) con.code → IsMoved k ask (Ok (Moved r.rev)) new
moved-query k new ask station con place certified found r looked named is query now =
    moved-put k new ask station con place certified found r looked named is
    (now ∙ ap (λ s. with_state k (with_return s (Some station) r)) (sym (query-put k ask station con place named looked.place_is query)))

-- another command that moved a return
moved-kept : (k new : Kept) (ask : Ask) (station : List ℕ) (con : Constituency) (place : Station) (certified : Bool) (found : Option StationReturn) (r : StationReturn)
    → IsLookedUp k station con place certified found → station_named ask ≡ Some station → return_change (Some (limits_of con place)) certified found ask ≡ Ok (change.PutReturn r)
    → is_query ask ≡ false → new ≡ with_put k station r → IsMoved k ask (Ok (Moved r.rev)) new
moved-kept k new ask station con place certified found r looked named is query now =
    moved-put k new ask station con place certified found r looked named is (now ∙ ap (λ s. with_state k (with_return s (Some station) r)) (sym (other-put k ask query)))

-- a command that moved a return
pub moved-on : (k new : Kept) (ask : Ask) (station : List ℕ) (con : Constituency) (place : Station) (certified : Bool) (found : Option StationReturn) (r : StationReturn)
    → IsLookedUp k station con place certified found → station_named ask ≡ Some station → return_change (Some (limits_of con place)) certified found ask ≡ Ok (change.PutReturn r)
    → (is_query ask ≡ true → new ≡ with_no_lot (with_put k station r) con.code) → (is_query ask ≡ false → new ≡ with_put k station r) → IsMoved k ask (Ok (Moved r.rev)) new
moved-on k new ask station con place certified found r looked named is query other = go (is_query ask) refl
  where
    go : (asked : Bool) → is_query ask ≡ asked → IsMoved k ask (Ok (Moved r.rev)) new
    go true asked = moved-query k new ask station con place certified found r looked named is asked (query asked)
    go false asked = moved-kept k new ask station con place certified found r looked named is asked (other asked)

-- ---- a Lodge

-- a return that is lodged is lawful
pub first-lawful : (stations : Stations) (m : Returns) (station slip : List ℕ) (counts : VoteCounts) (rev : ℕ) → is_code slip ≡ true → lodge_answer stations m station slip counts ≡ Ok (reply.Lodged rev)
    → (limits : StationLimits) × (stations station ≡ Some limits) × IsLawful limits (first_return slip counts)
first-lawful stations m station slip counts rev code is = go (stations station) refl is
  where
    again : (same : Bool) (now : ℕ) (e : Refusal) → (if same then Ok (reply.Same now) else Err e) ≢ Ok (reply.Lodged rev)
    again true now e ok = cc
    again false now e ok = cc

    at : (limits : StationLimits) (refused : Option Refusal) (found : Option StationReturn) → first_refusal (counts_checks limits counts) ≡ refused
        → refused_or refused (reply_after_checks found slip counts) ≡ Ok (reply.Lodged rev) → IsLawful limits (first_return slip counts)
    at limits (Some e) found none ok = cc
    at limits None (Some standing) none ok = absurd (again (is_return_of slip counts standing) standing.rev (Differs standing.rev) ok)
    at limits None None none ok =
        let votes = check (nat_le (all_votes counts) limits.entitled) TooManyVotes ∷ [] in record {
          first = omega arith;
          last = omega arith;
          slip = code;
          note = refl;
          counts = passed-first (are_counts limits.lists counts) BadCounts votes none;
          votes = leb-true (all_votes counts) limits.entitled (passed-first (nat_le (all_votes counts) limits.entitled) TooManyVotes [] (passed-rest (are_counts limits.lists counts) BadCounts votes none));
        }

    go : (known : Option StationLimits) → stations station ≡ known → reply_at_code known (fin.get m station) slip counts ≡ Ok (reply.Lodged rev)
        → (limits : StationLimits) × (stations station ≡ Some limits) × IsLawful limits (first_return slip counts)
    go None there ok = cc
    go (Some limits) there ok = (limits, there, at limits (first_refusal (counts_checks limits counts)) (fin.get m station) refl ok)

pub lodged-setup : (k new : Kept) (station slip : List ℕ) (counts : VoteCounts) (r : Result Reply Refusal) → CarriesOutLodge k station slip counts r new → new.setup ≡ k.setup
lodged-setup k new station slip counts r (inl done) = ap (λ (x : Kept). x.setup) done.1
lodged-setup k new station slip counts r (inr not_accepted) = ap (λ (x : Kept). x.setup) not_accepted.1

-- a Lodge is answered as the office answers it
pub lodged-answered : (k new : Kept) (ask : Ask) (station slip : List ℕ) (counts : VoteCounts) (r : Result Reply Refusal)
    → ask ≡ Lodge station slip counts → CarriesOutLodge k station slip counts r new → IsAnsweredInMemory k.setup (state_in k) ask r (state_in new)
lodged-answered k new ask station slip counts r is h = subst (λ a. IsAnsweredInMemory k.setup (state_in k) a r (state_in new)) (sym is) (go h)
  where
    go : CarriesOutLodge k station slip counts r new → IsAnsweredInMemory k.setup (state_in k) (Lodge station slip counts) r (state_in new)
    go (inl done) = inl (done.0, ap state_in done.1 ∙ sym (lodge-step k.setup (state_in k) station slip counts))
    go (inr not_accepted) = inr (not_accepted.0, ap state_in not_accepted.1)
