-- A return that was looked up or put in the tables of a lawful state.
use Rattle.std.proofs.Common.{◌≡◌, ◌≢◌, ◌≤◌, ◌++◌, ◌∷◌, ◌∙◌, ℕ, List, [], Bool, true, false, cond, length, map, Option, Some, None, Result, Ok, Err, inl, refl, sym, ap, subst, arith}
use Rattle.std.specs.Prelude.{IfSome, is_some, nat_le, not, option_map}
use Rattle.std.specs.Cmp.Lexicographic.{nat_list_cmp_total}
use Rattle.std.specs.FinMap.{get, get-insert, insert}
use Rattle.std.specs.Option.{option_map_or}
use Rattle.std.specs.Ordering.{eq_by_cmp}
use Rattle.std.proofs.lemmas.Bool.{and_parts, eqb-true}
use Rattle.sqlite.specs.State.{State as Seen, HasCleanDisk, IsUnchanged}
use Rattle.tally_store_schema.specs.Rows.{AreRowsOf}
use Rattle.tally_setup.specs.Code.{code_cmp}
use Rattle.tally_setup.specs.Constituency.{Constituency, entitled}
use Rattle.tally_setup.specs.Limits.{IsSetup}
use Rattle.tally_setup.specs.Setup.{constituency_with, station_with}
use Rattle.tally_setup.specs.declared.constituency.Entry.TheVariants.{Single}
use Rattle.tally_setup.specs.declared.constituency.Station.{Station}
use Rattle.tally_law.specs.Rules.{poll_of, rule_of}
use Rattle.tally_law.specs.LotNeed.{IsAllotmentUnderLot}
use Rattle.tally_returns.specs.Checks.{check, first_refusal, refused_or}
use Rattle.tally_returns.specs.Counts.{VoteCounts, all_votes, are_counts}
use Rattle.tally_returns.specs.Decide.{limits_of, show_checks}
use Rattle.tally_returns.specs.Lawful.{IsLawfulAt}
use Rattle.tally_returns.specs.Lodge.{StationLimits, reply_after_checks, after_lodge, counts_checks, reply_at_station, reply_at_code, limits_for, lodge_answer}
use Rattle.tally_returns.specs.Return.{StationReturn, Returns, first_return}
use Rattle.tally_returns.specs.State.{ConState, State, con_state, stations_of}
use Rattle.tally_returns.specs.View.{blank_of, closed_counts, counts_if_closed, spoiled_of, view_with, votes_of_lists}
use Rattle.tally_returns.specs.declared.ask.Ask.TheVariants.{ShowReturn}
use Rattle.tally_returns.specs.declared.change.Change.TheVariants.{Same as Unchanged}
use Rattle.tally_returns.specs.declared.refusal.Refusal.{Refusal}
use Rattle.tally_returns.specs.declared.refusal.Refusal.TheVariants.{BadCounts, NoReturn, NoStation, TooManyVotes}
use Rattle.tally_returns.specs.declared.reply.LodgeReply.{LodgeReply}
use Rattle.tally_returns.specs.declared.reply.LodgeReply.TheVariants.{Lodged, Same}
use Rattle.tally_returns.specs.declared.reply.Reply.{Reply}
use Rattle.tally_returns.proofs.ClosedLemmas.{tied-same}
use Rattle.tally_returns.proofs.DecideLemmas.{passed-first}
use Rattle.tally_setup.proofs.NamedLemmas.{con-limits, station-found}
use Rattle.tally_machine_law.specs.LawfulState.{IsLawfulState}
use Rattle.tally_machine_law.specs.Outcome.{HasSeats}
use Rattle.tally_machine_law.specs.Step.{Answer, state_after, after_return, answer, return_reply, return_shown, reply_seen}
use Rattle.tally_store_schema.specs.Office.{IsInside, tree_of}
use Rattle.tally_store_schema.specs.declared.table.KeyedTable.TheVariants.{Cons, Lots, Seats, Gone, Totals, Past}
use Rattle.tally_store_rows.specs.Cells.{con_rows, gone_rows, item_row, items_of, lot_rows, past_rows, seat_rows, total_rows, totals_of}
use Rattle.tally_store_rows.specs.TablesOfState.{AreTables}
use Rattle.tally_store_entries.specs.internal.Entries.{AddsReturn, FindsReturn, PutsReturn}
use Rattle.tally_store_entries.proofs.FindLemmas.{inside_still}
use Rattle.tally_keeper.proofs.LodgeLemmas.{lodged-none}
use Rattle.tally_store_commands.specs.internal.Lodging.{IsLodgeAnswer}
use Rattle.tally_store_commands.specs.internal.Requests.{IsCarriedOut, IsInState}
use Rattle.tally_store_commands.specs.internal.Lodging.{IsLodged}

-- ---- closed counts where a return is put whose counts are closed as those before it were

found-closed : (returns : Returns) (station : List ℕ) (r : StationReturn) (q : List ℕ) → counts_if_closed (Some r) ≡ counts_if_closed (get returns station)
    → counts_if_closed (get (insert returns station r) q) ≡ counts_if_closed (get returns q)
found-closed returns station r q same = ap counts_if_closed (get-insert nat_list_cmp_total returns station r q) ∙ go (eq_by_cmp code_cmp q station) refl
  where
    go : (b : Bool) → eq_by_cmp code_cmp q station ≡ b → counts_if_closed (cond b (Some r) (get returns q)) ≡ counts_if_closed (get returns q)
    go true tied = same ∙ ap (λ k. counts_if_closed (get returns k)) (sym (tied-same q station tied))
    go false apart = refl

pub closed-put : (returns : Returns) (station : List ℕ) (r : StationReturn) (stations : List Station) → counts_if_closed (Some r) ≡ counts_if_closed (get returns station)
    → closed_counts (insert returns station r) stations ≡ closed_counts returns stations
closed-put returns station r [] same = refl
closed-put returns station r (x ∷ stations) same =
    ap (λ counts. counts ++ closed_counts (insert returns station r) stations) (found-closed returns station r x.code same)
    ∙ ap (λ counts. counts_if_closed (get returns x.code) ++ counts) (closed-put returns station r stations same)

-- the sums of each constituency stay
pub totals-put : (setup : List Constituency) (returns : Returns) (station : List ℕ) (r : StationReturn) (code : List ℕ) → counts_if_closed (Some r) ≡ counts_if_closed (get returns station)
    → totals_of setup (insert returns station r) code ≡ totals_of setup returns code
totals-put setup returns station r code same = go (constituency_with code setup)
  where
    sums : Constituency → List VoteCounts → VoteCounts
    sums con counts = record { votes = votes_of_lists (length con.lists) counts; blank = blank_of counts; spoiled = spoiled_of counts }

    go : (found : Option Constituency) → option_map_or (λ con. sums con (closed_counts (insert returns station r) con.stations)) found (record { votes = []; blank = 0; spoiled = 0 })
        ≡ option_map_or (λ con. sums con (closed_counts returns con.stations)) found (record { votes = []; blank = 0; spoiled = 0 })
    go None = refl
    go (Some con) = ap (sums con) (closed-put returns station r con.stations same)

-- and so do the seats
pub seats-put : (con : Constituency) (c : ConState) (old new : Returns) (seats : List ℕ) (b : Bool) → closed_counts new con.stations ≡ closed_counts old con.stations
    → HasSeats con (view_with con c old seats) b → HasSeats con (view_with con c new seats) b
seats-put con c old new seats true same has =
    subst (λ counts. IsAllotmentUnderLot (rule_of con.profile) (poll_of con.profile (votes_of_lists (length con.lists) counts) (blank_of counts)) c.lot con.seats seats) (sym same) has
seats-put con c old new seats false same has = has

-- ---- the tables where such a return is put

pub return-put : (setup : List Constituency) (text : List ℕ) (s : State) (station : List ℕ) (r : StationReturn) (old new : Seen) → counts_if_closed (Some r) ≡ counts_if_closed (get s.returns station)
    → AreTables setup text s old.now.trees → PutsReturn setup s.returns station r old new → AreTables setup text (record s { returns = insert s.returns station r }) new.now.trees
return-put setup text s station r old new same were put = record {
  given = were.given;
  allotted = λ code con found. seats-put con (con_state s con.code) s.returns (insert s.returns station r) (were.given con.code) (con_state s con.code).certified (closed-put s.returns station r con.stations same) (were.allotted code con found);
  setup_is = put.setup_is ∙ were.setup_is;
  returns = put.returns_are.heads;
  counts = put.returns_are.counts;
  cons = subst (AreRowsOf con_rows s.cons) (sym (put.others Cons (λ e. omega arith) (λ e. omega arith))) were.cons;
  lots = subst (AreRowsOf lot_rows s.cons) (sym (put.others Lots (λ e. omega arith) (λ e. omega arith))) were.lots;
  seats = subst (AreRowsOf (seat_rows were.given) s.cons) (sym (put.others Seats (λ e. omega arith) (λ e. omega arith))) were.seats;
  gone = subst (AreRowsOf gone_rows s.cons) (sym (put.others Gone (λ e. omega arith) (λ e. omega arith))) were.gone;
  totals =
      subst (λ rows_of. AreRowsOf rows_of s.cons (new.now.trees (tree_of Totals))) (sym sums)
      (subst (AreRowsOf (total_rows setup s.returns) s.cons) (sym (put.others Totals (λ e. omega arith) (λ e. omega arith))) were.totals);
  past = subst (AreRowsOf past_rows s.cons) (sym (put.others Past (λ e. omega arith) (λ e. omega arith))) were.past;
}
  where
    sums : total_rows setup (insert s.returns station r) ≡ total_rows setup s.returns
    sums = λ i e. map (item_row e.0) (items_of (totals-put setup s.returns station r e.0 same i))

-- ---- a return that is looked up

-- a lawful return is for at most 60 lists
few-votes : (setup : List Constituency) (station : List ℕ) (standing : StationReturn) → IsSetup setup → IsLawfulAt setup station standing → length standing.counts.votes ≤ 60
few-votes setup station standing limits lawful = go (station_with station setup) refl lawful.1
  where
    lists : length standing.counts.votes ≡ lawful.0.lists
    lists = eqb-true (length standing.counts.votes) lawful.0.lists (and_parts _ _ (and_parts _ _ (and_parts _ _ lawful.2.counts).0).0).0

    go : (found : Option (Constituency × Station)) → station_with station setup ≡ found → option_map (λ (place : Constituency × Station). limits_of place.0 place.1) found ≡ Some lawful.0
        → length standing.counts.votes ≤ 60
    go None at some = let e = some in cc
    go (Some place) at some =
        let same : limits_of place.0 place.1 ≡ lawful.0 = cc in
        let many : length place.0.lists ≡ lawful.0.lists = ap (λ (l : StationLimits). l.lists) same in
        let few = (con-limits setup place.0 limits (station-found setup station place.0 place.1 at).0).lists in
        omega (arith, lists, many, few)

-- what is found in the tables of a lawful state is its return
pub found-is : (setup : List Constituency) (text : List ℕ) (s : State) (station : List ℕ) (old : Seen) (found : Option StationReturn) → IsSetup setup → IsLawfulState setup s
    → AreTables setup text s old.now.trees → FindsReturn setup station old found → found ≡ get s.returns station
found-is setup text s station old found limits lawful tables finds =
    finds s.returns (record { heads = tables.returns; counts = tables.counts }) (each (get s.returns station) refl)
  where
    each : (o : Option StationReturn) → get s.returns station ≡ o → IfSome o (λ standing. IsLawfulAt setup station standing × (length standing.counts.votes ≤ 60))
    each None is = tt
    each (Some standing) is = let lawful_at = lawful.stations station standing is in (lawful_at, few-votes setup station standing limits lawful_at)

-- a look-up leaves the tables
pub still : (setup : List Constituency) (text : List ℕ) (s : State) (old new : Seen) → IsUnchanged old new → IsInside old → AreTables setup text s old.now.trees → IsInState setup text s new
still setup text s old new same inside tables = record {
  inside = inside_still old new same inside;
  tables = subst (λ d. AreTables setup text s d.trees) (sym same.0.now_is) tables;
}

-- ---- a Lodge

-- what is answered at a station of the setup
pub answer-at : (setup : List Constituency) (returns : Returns) (station slip : List ℕ) (counts : VoteCounts) (con : Constituency) (place : Station) → station_with station setup ≡ Some (con, place)
    → reply_at_station (limits_of con place) (get returns station) slip counts ≡ lodge_answer (stations_of setup) returns station slip counts
answer-at setup returns station slip counts con place is =
    ap (λ found. reply_at_code (option_map (λ (p : Constituency × Station). limits_of p.0 p.1) found) (get returns station) slip counts) (sym is)

-- and at a code that is no station
pub answer-nowhere : (setup : List Constituency) (returns : Returns) (station slip : List ℕ) (counts : VoteCounts) → station_with station setup ≡ None → Err NoStation ≡ lodge_answer (stations_of setup) returns station slip counts
answer-nowhere setup returns station slip counts is =
    ap (λ found. reply_at_code (option_map (λ (p : Constituency × Station). limits_of p.0 p.1) found) (get returns station) slip counts) (sym is)

-- what was decided of what was found is what is answered
pub decided-is : (setup : List Constituency) (text : List ℕ) (s : State) (station slip : List ℕ) (counts : VoteCounts) (con : Constituency) (place : Station) (lists votes : ℕ) (old : Seen) (found copied : Option StationReturn) (r : Result LodgeReply Refusal)
    → IsSetup setup → IsLawfulState setup s → AreTables setup text s old.now.trees → station_with station setup ≡ Some (con, place) → lists ≡ length con.lists → votes ≡ entitled place → FindsReturn setup station old found
    → copied ≡ found → r ≡ reply_at_station (limits_for lists votes Single) copied slip counts → r ≡ lodge_answer (stations_of setup) s.returns station slip counts
decided-is setup text s station slip counts con place lists votes old found copied r limits lawful tables known many few finds same is =
    is
    ∙ ap (λ f. reply_at_station (limits_for lists votes Single) f slip counts) same
    ∙ ap (λ n. reply_at_station (limits_for n votes Single) found slip counts) many
    ∙ ap (λ n. reply_at_station (limits_for (length con.lists) n Single) found slip counts) few
    ∙ ap (λ f. reply_at_station (limits_of con place) f slip counts) (found-is setup text s station old found limits lawful tables finds)
    ∙ answer-at setup s.returns station slip counts con place known

-- a return that is lodged is for at most 60 lists
pub lodged-few : (limits : StationLimits) (found : Option StationReturn) (slip : List ℕ) (counts : VoteCounts) (rev : ℕ) → reply_at_station limits found slip counts ≡ Ok (Lodged rev) → limits.lists ≤ 60
    → length counts.votes ≤ 60
lodged-few limits found slip counts rev is few = go (first_refusal (counts_checks limits counts)) refl is
  where
    go : (refused : Option Refusal) → first_refusal (counts_checks limits counts) ≡ refused → refused_or refused (reply_after_checks found slip counts) ≡ Ok (Lodged rev) → length counts.votes ≤ 60
    go (Some e) at ok = cc
    go None at ok =
        let fit : are_counts limits.lists counts ≡ true = passed-first (are_counts limits.lists counts) BadCounts (check (nat_le (all_votes counts) limits.entitled) TooManyVotes ∷ []) at in
        let lists = eqb-true (length counts.votes) limits.lists (and_parts _ _ (and_parts _ _ (and_parts _ _ fit).0).0).0 in
        omega (arith, lists, few)

-- and so of its answer
pub reply-few : (lists entitled : ℕ) (found : Option StationReturn) (slip : List ℕ) (counts : VoteCounts) (r : Result LodgeReply Refusal) (rev : ℕ) → r ≡ reply_at_station (limits_for lists entitled Single) found slip counts → lists ≤ 60
    → r ≡ Ok (Lodged rev) → length counts.votes ≤ 60
reply-few lists entitled found slip counts r rev is few lodged = lodged-few (limits_for lists entitled Single) found slip counts rev (sym is ∙ lodged) few

-- a Lodge that put no return
pub lodged-nothing : (setup : List Constituency) (text : List ℕ) (s : State) (station slip : List ℕ) (counts : VoteCounts) (r : Result LodgeReply Refusal) (new : Seen)
    → r ≡ lodge_answer (stations_of setup) s.returns station slip counts → ((rev : ℕ) → r ≢ Ok (Lodged rev)) → IsInState setup text s new → IsLodged setup text s station slip counts r new
lodged-nothing setup text s station slip counts r new is never here = record {
  answered = is;
  in_state = subst (λ returns. IsInState setup text (record s { returns = returns }) new) (go r never ∙ ap (after_lodge s.returns station slip counts) is) here;
}
  where
    go : (a : Result LodgeReply Refusal) → ((rev : ℕ) → a ≢ Ok (Lodged rev)) → s.returns ≡ after_lodge s.returns station slip counts a
    go (Ok (Lodged rev)) never = absurd (never rev refl)
    go (Ok (Same rev)) never = refl
    go (Err e) never = refl

-- such as one that found its return, or was refused
pub lodged-same : (setup : List Constituency) (text : List ℕ) (s : State) (station slip : List ℕ) (counts : VoteCounts) (r : Result LodgeReply Refusal) (rev : ℕ) (old new : Seen)
    → IsLodgeAnswer setup station slip counts old r → r ≡ Ok (Same rev) → IsUnchanged old new → IsInside old → IsLawfulState setup s → AreTables setup text s old.now.trees
    → IsLodged setup text s station slip counts r new
lodged-same setup text s station slip counts r rev old new answers is same inside lawful tables =
    lodged-nothing setup text s station slip counts r new (answers text s lawful tables) (λ first lodged. let e : ◌≡◌ {A = Result LodgeReply Refusal} (Ok (Same rev)) (Ok (Lodged first)) = sym is ∙ lodged in cc)
    (still setup text s old new same inside tables)

pub lodged-refused : (setup : List Constituency) (text : List ℕ) (s : State) (station slip : List ℕ) (counts : VoteCounts) (r : Result LodgeReply Refusal) (refusal : Refusal) (old new : Seen)
    → IsLodgeAnswer setup station slip counts old r → r ≡ Err refusal → IsUnchanged old new → IsInside old → IsLawfulState setup s → AreTables setup text s old.now.trees
    → IsLodged setup text s station slip counts r new
lodged-refused setup text s station slip counts r refusal old new answers is same inside lawful tables =
    lodged-nothing setup text s station slip counts r new (answers text s lawful tables) (λ first lodged. let e : ◌≡◌ {A = Result LodgeReply Refusal} (Err refusal) (Ok (Lodged first)) = sym is ∙ lodged in cc)
    (still setup text s old new same inside tables)

-- a Lodge that put one
pub lodged-first : (setup : List Constituency) (text : List ℕ) (s : State) (station slip : List ℕ) (counts : VoteCounts) (con : Constituency) (place : Station) (r : Result LodgeReply Refusal) (rev : ℕ) (mid new : Seen)
    → HasCleanDisk new → station_with station setup ≡ Some (con, place) → r ≡ lodge_answer (stations_of setup) s.returns station slip counts → r ≡ Ok (Lodged rev)
    → IsInState setup text s mid → AddsReturn con.code station (first_return slip counts) mid new (Ok tt) → IsLodged setup text s station slip counts r new
lodged-first setup text s station slip counts con place r rev mid new clean found is lodged here adds = record {
  answered = is;
  in_state = subst (λ returns. IsInState setup text (record s { returns = returns }) new) (ap (after_lodge s.returns station slip counts) (sym lodged ∙ is)) (record {
    inside = put.inside;
    tables = return-put setup text s station (first_return slip counts) mid new (ap counts_if_closed (sym none)) here.tables put;
  });
}
  where
    none : get s.returns station ≡ None
    none = lodged-none (stations_of setup) s.returns station slip counts rev (sym is ∙ lodged)

    put : PutsReturn setup s.returns station (first_return slip counts) mid new
    put =
        adds clean here.inside setup s.returns (ap (λ found. option_map_or (λ (p : Constituency × Station). p.0.code) found []) found) none
        (record { heads = here.tables.returns; counts = here.tables.counts })

-- ---- a return that is shown

-- whether something was found
pub mapped-none : {X Y : Type 0} (f : X → Y) (found : Option X) (seen : Option Y) (none : Bool) → option_map f found ≡ seen → is_some found ≡ not none → none ≡ true → seen ≡ None
mapped-none f None seen none is some none_is = sym is
mapped-none f (Some x) seen none is some none_is = let e : true ≡ false = some ∙ ap not none_is in cc

pub mapped-some : {X Y : Type 0} (f : X → Y) (found : Option X) (seen : Option Y) (none : Bool) → option_map f found ≡ seen → is_some found ≡ not none → none ≡ false → (y : Y) × (seen ≡ Some y)
mapped-some f None seen none is some none_is = let e : false ≡ true = some ∙ ap not none_is in cc
mapped-some f (Some x) seen none is some none_is = (f x, sym is)

-- nothing is changed
pub shown-stays : (setup : List Constituency) (s : State) (station : List ℕ) → s ≡ after_return setup s (ShowReturn station)
shown-stays setup s station = go (first_refusal (show_checks (stations_of setup station) (get s.returns station)))
  where
    go : (refused : Option Refusal) → s ≡ state_after setup s (ShowReturn station) (refused_or refused (Ok Unchanged))
    go None = refl
    go (Some e) = refl

pub shown-carried : (setup : List Constituency) (text : List ℕ) (s : State) (station : List ℕ) (r : Result Reply Refusal) (new : Seen) → reply_seen r ≡ answer setup s (ShowReturn station)
    → IsInState setup text s new → IsCarriedOut setup text s (ShowReturn station) r new
shown-carried setup text s station r new is here = record {
  state = s;
  answered = inl (is, shown-stays setup s station);
  in_state = here;
}

-- what is shown at a code that may be no station, with the return that it has
abbrev shown_at : Option (Constituency × Station) → Option StationReturn → Result Answer Refusal
shown_at place found = refused_or (first_refusal (show_checks (option_map (λ (p : Constituency × Station). limits_of p.0 p.1) place) found)) (return_reply found)

pub shown-nowhere : (setup : List Constituency) (s : State) (station : List ℕ) → station_with station setup ≡ None → reply_seen (Err NoStation) ≡ answer setup s (ShowReturn station)
shown-nowhere setup s station is = ap (λ place. shown_at place (get s.returns station)) (sym is)

pub shown-none : (setup : List Constituency) (s : State) (station : List ℕ) (place : Constituency × Station) → station_with station setup ≡ Some place → None ≡ get s.returns station
    → reply_seen (Err NoReturn) ≡ answer setup s (ShowReturn station)
shown-none setup s station place is none = ap (shown_at (Some place)) none ∙ ap (λ p. shown_at p (get s.returns station)) (sym is)

pub shown-some : (setup : List Constituency) (s : State) (station : List ℕ) (place : Constituency × Station) (standing : StationReturn) → station_with station setup ≡ Some place
    → Some standing ≡ get s.returns station → Ok (return_shown standing) ≡ answer setup s (ShowReturn station)
shown-some setup s station place standing is some = ap (shown_at (Some place)) some ∙ ap (λ p. shown_at p (get s.returns station)) (sym is)
