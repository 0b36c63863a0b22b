-- What is known of constituencies is true after a request.
use Rattle.std.proofs.Common.{◌≡◌, ◌≢◌, ◌≤◌, ◌+◌, ◌∙◌, inl, inr, ℕ, Bool, true, false, cond, List, length, Option, None, Some, IsSome, Result, Ok, Err, refl, sym, ap, subst, arith}
use Rattle.std.specs.Prelude.{is_ok, option_map, OnOk}
use Rattle.std.specs.Option.{option_map_or}
use Rattle.std.specs.BTreeMap as tree
use Rattle.std.specs.BTreeMap.{BTreeMap, WritesThrough}
use Rattle.std.specs.Cmp.Lexicographic.{nat_list_cmp_total}
use Rattle.std.specs.FinMap.{get, get-insert, insert}
use Rattle.std.specs.Ordering.{eq_by_cmp}
use Rattle.std.proofs.lemmas.List.Sums.{count_by-le-length}
use Rattle.tally_setup.specs.Code.{code_cmp}
use Rattle.tally_setup.specs.Constituency.{Constituency}
use Rattle.tally_setup.specs.Limits.{IsSetup}
use Rattle.tally_setup.specs.Setup.{constituency_with, station_with}
use Rattle.tally_setup.specs.declared.constituency.Station.{Station}
use Rattle.tally_returns.specs.Counts.{VoteCounts}
use Rattle.tally_returns.specs.Lodge.{after_lodge as returns_after_lodge, reply_at_code, lodge_answer}
use Rattle.tally_returns.specs.Decide.{return_change_at, limits_of}
use Rattle.tally_returns.specs.Named.{con_named, station_named}
use Rattle.tally_returns.specs.Progress.{is_received, is_queried, is_corrected, is_closed, count_with_status}
use Rattle.tally_returns.specs.Return.{Returns, StationReturn, first_return}
use Rattle.tally_returns.specs.State.{State, con_state, stations_of}
use Rattle.tally_returns.specs.View.{View, view_of}
use Rattle.tally_returns.specs.declared.ask.Ask.{Ask}
use Rattle.tally_returns.specs.declared.ask.Ask.TheVariants.{Lodge, Query, Correct, Close, Confirm, ShowReturn, Draw, Certify, Reopen, Vacate, ShowCon, ShowProgress}
use Rattle.tally_returns.specs.declared.change.Change.{Change}
use Rattle.tally_returns.specs.declared.change.Change.TheVariants.{Same, PutReturn, SetLot, SetCertified, SetReopened, SetGone}
use Rattle.tally_returns.specs.declared.refusal.Refusal.{Refusal}
use Rattle.tally_returns.specs.declared.refusal.Refusal.TheVariants.{NoStation}
use Rattle.tally_returns.specs.declared.reply.LodgeReply.{LodgeReply}
use Rattle.tally_returns.specs.declared.reply.LodgeReply.TheVariants as lodge
use Rattle.tally_returns.specs.declared.reply.Reply.{Reply}
use Rattle.tally_returns.specs.declared.returns.Status.{Status}
use Rattle.tally_returns.specs.declared.returns.Status.TheVariants.{Received}
use Rattle.tally_returns.proofs.ClosedLemmas.{put-elsewhere, same-tied, station-elsewhere, station_with-con, stations_in-same, tied-same}
use Rattle.tally_setup.proofs.NamedLemmas.{Has, con-limits, station-found, stations-differ}
use Rattle.tally_keeper.proofs.SumLemmas.{one_if, stations_in-total}
use Rattle.tally_keeper.proofs.TreeLemmas.{get-tree, tree-insert}
use Rattle.tally_keeper.specs.internal.Held.{moves_return}
use Rattle.tally_returns_rows.specs.Import.{RowAnswer, after_row as returns_after_row, row_answer}
use Rattle.tally_returns_rows.specs.declared.import.Row.{Row}
use Rattle.tally_returns_rows.specs.declared.import.Row.TheVariants as row
use Rattle.tally_keeper.proofs.HeldLemmas.{lodge-step}
use Rattle.tally_keeper.proofs.LodgeLemmas.{lodged-none}
use Rattle.tally_machine_law.specs.Step.{Answer, ConChange, IsAnswered, IsConStepSeen, IsNotAccepted, IsStep, IsStepSeenAt, state_after, after_change, after_put, after_return, certified_with, con_of_station, change_in_state, gone_for_good, lodge_reply, lot_set, move_reply, no_change, open_again, reply_seen, with_return, without_lot}
use Rattle.tally_store_rows.specs.Views.{statuses_of}
use Rattle.tally_store_rows.specs.declared.views.Statuses.{Statuses}
use Rattle.tally_store_entries.specs.internal.Constituencies.{IsKnown}
use Rattle.tally_store_entries.specs.internal.Statuses.{statuses_in}
use Rattle.tally_store_commands.specs.internal.Found.{MovesTo}
use Rattle.tally_store_commands.specs.internal.Known.{AreKnown, ForgetsNone, Known, known_of}
use Rattle.tally_store_commands.specs.internal.Counting.{after_command, known_after_lodge, known_after_lodge_in, known_after_move, known_after_row, after_status, has_status, one_less_if, one_more_if, status_after, with_statuses_changed, with_known, with_move}
use Rattle.tally_store_commands.proofs.FoundLemmas.{IsFound, IsPut, found-decided, put-decided}
use Rattle.tally_store_commands.proofs.LodgedLemmas.{shown-stays}
use Rattle.tally_store_commands.proofs.TotalLemmas.{total-replaced}

-- ---- what is known of one constituency

pub written : (t u : BTreeMap (List ℕ) Statuses) (k : List ℕ) (v : Statuses) (f : Statuses → Statuses) (w : Statuses) → Some v ≡ tree.get code_cmp t k → w ≡ f v
    → WritesThrough code_cmp (code_cmp k) t w u → known_of u ≡ with_known (known_of t) k f
written t u k v f w there is writes =
    tree-insert t u k w (writes.3 (subst IsSome there refl)) ∙ ap (insert (known_of t) k) is ∙ sym (ap (with_statuses_changed (known_of t) k f) (get-tree t k ∙ sym there))

pub not_written : (t u : BTreeMap (List ℕ) Statuses) (k : List ℕ) (f : Statuses → Statuses) → None ≡ tree.get code_cmp t k → u ≡ t → known_of u ≡ with_known (known_of t) k f
not_written t u k f none same = ap known_of same ∙ sym (ap (with_statuses_changed (known_of t) k f) (get-tree t k ∙ sym none))

get-with_known : (known : Known) (k : List ℕ) (f : Statuses → Statuses) (q : List ℕ) → get (with_known known k f) q ≡ cond (eq_by_cmp code_cmp q k) (option_map f (get known q)) (get known q)
get-with_known known k f q = by_found (get known k) refl
  where
    some : (v : Statuses) (b : Bool) → eq_by_cmp code_cmp q k ≡ b → get known k ≡ Some v → cond b (Some (f v)) (get known q) ≡ cond b (option_map f (get known q)) (get known q)
    some v true tied there = sym (ap (option_map f) (ap (get known) (tied-same q k tied) ∙ there))
    some v false apart there = refl

    none : (b : Bool) → eq_by_cmp code_cmp q k ≡ b → get known k ≡ None → get known q ≡ cond b (option_map f (get known q)) (get known q)
    none true tied there = let at : get known q ≡ None = ap (get known) (tied-same q k tied) ∙ there in at ∙ sym (ap (option_map f) at)
    none false apart there = refl

    by_found : (found : Option Statuses) → get known k ≡ found → get (with_statuses_changed known k f found) q ≡ cond (eq_by_cmp code_cmp q k) (option_map f (get known q)) (get known q)
    by_found None there = none (eq_by_cmp code_cmp q k) refl there
    by_found (Some v) there = get-insert nat_list_cmp_total known k (f v) q ∙ some v (eq_by_cmp code_cmp q k) refl there

-- ---- what was known of is known of still

forgets-put : (known : Known) (k : List ℕ) (v : Statuses) → ForgetsNone known (insert known k v)
forgets-put known k v q had = subst IsSome (sym (get-insert nat_list_cmp_total known k v q)) (go (eq_by_cmp code_cmp q k))
  where
    go : (b : Bool) → IsSome (cond b (Some v) (get known q))
    go true = refl
    go false = had

pub forgets-remembered : (known after : Known) (k : List ℕ) (v : Statuses) → after ≡ insert known k v → ForgetsNone known after
forgets-remembered known after k v put = subst (ForgetsNone known) (sym put) (forgets-put known k v)

forgets-moved : (known : Known) (k : List ℕ) (f : Statuses → Statuses) → ForgetsNone known (with_known known k f)
forgets-moved known k f q had = subst IsSome (sym (get-with_known known k f q)) (go (eq_by_cmp code_cmp q k) (get known q) had)
  where
    go : (b : Bool) (o : Option Statuses) → IsSome o → IsSome (cond b (option_map f o) o)
    go true None had = had
    go true (Some v) had = refl
    go false o had = had

pub forgets-then : (a b c : Known) → ForgetsNone a b → ForgetsNone b c → ForgetsNone a c
forgets-then a b c one two code had = two code (one code had)

forgets-after_lodge : (setup : List Constituency) (station : List ℕ) (r : Result LodgeReply Refusal) (known : Known) → ForgetsNone known (known_after_lodge setup station r known)
forgets-after_lodge setup station (Ok (lodge.Lodged rev)) known = go (con_of_station setup station)
  where
    go : (con : Option (List ℕ)) → ForgetsNone known (known_after_lodge_in con known)
    go None = λ code had. had
    go (Some con) = forgets-moved known con (with_move None Received)
forgets-after_lodge setup station (Ok (lodge.Same rev)) known = λ code had. had
forgets-after_lodge setup station (Err e) known = λ code had. had

pub forgets-lodged : (setup : List Constituency) (station : List ℕ) (r : Result LodgeReply Refusal) (known after : Known) → after ≡ known_after_lodge setup station r known → ForgetsNone known after
forgets-lodged setup station r known after is = subst (ForgetsNone known) (sym is) (forgets-after_lodge setup station r known)

forgets-after_row : (setup : List Constituency) (r : Row) (answer : RowAnswer) (known : Known) → ForgetsNone known (known_after_row setup r answer known)
forgets-after_row setup r None known = λ code had. had
forgets-after_row setup (row.Lodge (Lodge station slip counts)) (Some answer) known = forgets-after_lodge setup station answer known
forgets-after_row setup other (Some answer) known = λ code had. had

pub forgets-row : (setup : List Constituency) (r : Row) (answer : RowAnswer) (known after : Known) → after ≡ known_after_row setup r answer known → ForgetsNone known after
forgets-row setup r answer known after is = subst (ForgetsNone known) (sym is) (forgets-after_row setup r answer known)

pub forgets-commanded : (con : List ℕ) (command : Ask) (before : Option Status) (accepted : Bool) (known after : Known) → after ≡ after_command con command before accepted known → ForgetsNone known after
forgets-commanded con command before accepted known after is = subst (ForgetsNone known) (sym is) (go accepted (status_after command))
  where
    go : (b : Bool) (standing : Option Status) → ForgetsNone known (cond b (after_status con before standing known) known)
    go true None = λ code had. had
    go true (Some standing) = forgets-moved known con (with_move before standing)
    go false standing = λ code had. had

pub forgets-answered : {X E : Type 0} (r : Result X E) (known after : Known) → ForgetsNone known after → OnOk r (ForgetsNone known after)
forgets-answered (Ok x) known after h = h
forgets-answered (Err e) known after h = tt

same_con : (setup : List Constituency) (one other : Constituency) → constituency_with one.code setup ≡ Some one → constituency_with other.code setup ≡ Some other → other.code ≡ one.code → other ≡ one
same_con setup one other there here same =
    let both : Some other ≡ Some one = sym here ∙ ap (λ code. constituency_with code setup) same ∙ there in (let e = both in cc)

-- where it was found, it is known
pub known-remembered : (setup : List Constituency) (returns : Returns) (known after : Known) (con : Constituency) (code : List ℕ) (statuses : Statuses) → constituency_with con.code setup ≡ Some con → code ≡ con.code
    → statuses ≡ statuses_in returns con.stations → AreKnown setup returns known → after ≡ insert known code statuses → AreKnown setup returns after
known-remembered setup returns known after con code statuses there own is held put other here =
    subst (IsKnown other returns) (sym (ap (λ m. get m other.code) put ∙ get-insert nat_list_cmp_total known code statuses other.code)) (go (eq_by_cmp code_cmp other.code code) refl)
  where
    go : (b : Bool) → eq_by_cmp code_cmp other.code code ≡ b → IsKnown other returns (cond b (Some statuses) (get known other.code))
    go true tied =
        let same : other ≡ con = same_con setup con other there here (tied-same other.code code tied ∙ own) in
        subst (λ (c : Constituency). statuses ≡ statuses_in returns c.stations) (sym same) is
    go false apart = held other here

-- the numbers of what is seen
pub seen-statuses : (con : Constituency) (s : State) (statuses : Statuses) (view : View) → statuses ≡ statuses_of view → view ≡ view_of con s view.seats → statuses ≡ statuses_in s.returns con.stations
seen-statuses con s statuses view is seen_as = is ∙ ap statuses_of seen_as

-- ---- a return that moves

shifted : (was is : Bool) (old new : ℕ) → new + cond was 1 0 ≡ old + cond is 1 0 → new ≤ 20000 → new ≡ one_less_if was (one_more_if is old)
shifted true true old new sum few = omega (arith, sum, few)
shifted true false old new sum few = omega (arith, sum, few)
shifted false true old new sum few = omega (arith, sum, few)
shifted false false old new sum few = omega (arith, sum, few)

status_of_return : (is_status : Status → Bool) (found : Option StationReturn) → option_map_or (λ (standing : StationReturn). is_status standing.status) found false ≡ has_status is_status (option_map (λ (standing : StationReturn). standing.status) found)
status_of_return is_status None = refl
status_of_return is_status (Some standing) = refl

module _ (setup : List Constituency) (returns : Returns) (station : List ℕ) (con : Constituency) (place : Station) (standing : StationReturn) (before : Option Status) (limits : IsSetup setup) (at : station_with station setup ≡ Some (con, place)) (was : before ≡ option_map (λ (r : StationReturn). r.status) (get returns station)) where
  number-moved : (is_status : Status → Bool) → count_with_status is_status (insert returns station standing) con.stations ≡ one_less_if (has_status is_status before) (one_more_if (is_status standing.status) (count_with_status is_status returns con.stations))
  number-moved is_status =
      shifted (has_status is_status before) (is_status standing.status) (count_with_status is_status returns con.stations) (count_with_status is_status (insert returns station standing) con.stations)
      (subst (λ b. count_with_status is_status (insert returns station standing) con.stations + cond b 1 0 ≡ count_with_status is_status returns con.stations + cond (is_status standing.status) 1 0)
      (status_of_return is_status (get returns station) ∙ ap (has_status is_status) (sym was)) sum) most
    where
      found : Has con setup × Has place con.stations × (station ≡ place.code)
      found = station-found setup station con place at

      sum : count_with_status is_status (insert returns station standing) con.stations + one_if is_status (get returns station) ≡ count_with_status is_status returns con.stations + one_if is_status (Some standing)
      sum =
          ap (λ n. n + one_if is_status (get returns station)) (stations_in-total is_status (insert returns station standing) con.stations)
          ∙ total-replaced (one_if is_status) returns station (get returns station) standing con.stations place refl (stations-differ setup con limits found.0) found.1 found.2
          ∙ ap (λ n. n + one_if is_status (Some standing)) (sym (stations_in-total is_status returns con.stations))

      most : count_with_status is_status (insert returns station standing) con.stations ≤ 20000
      most =
          let all : count_with_status is_status (insert returns station standing) con.stations ≤ length con.stations =
          count_by-le-length (λ (x : Station). option_map_or (λ (r : StationReturn). is_status r.status) (get (insert returns station standing) x.code) false) con.stations in
          let few = (con-limits setup con limits found.0).stations in
          omega (arith, all, few)

  statuses-moved : statuses_in (insert returns station standing) con.stations ≡ with_move before standing.status (statuses_in returns con.stations)
  statuses-moved = λ i. record {
    stations = length con.stations;
    received = number-moved is_received i;
    queried = number-moved is_queried i;
    corrected = number-moved is_corrected i;
    closed = number-moved is_closed i;
  }

  statuses-apart : (other : Constituency) → constituency_with other.code setup ≡ Some other → other.code ≢ con.code → statuses_in (insert returns station standing) other.stations ≡ statuses_in returns other.stations
  statuses-apart other there apart =
      let same : (is_status : Status → Bool) → count_with_status is_status (insert returns station standing) other.stations ≡ count_with_status is_status returns other.stations =
      λ is_status. stations_in-same is_status (insert returns station standing) returns other.stations
      (put-elsewhere returns station standing other.stations (station-elsewhere setup other.code station con other place limits at there apart)) in
      λ i. record {
        stations = length other.stations;
        received = same is_received i;
        queried = same is_queried i;
        corrected = same is_corrected i;
        closed = same is_closed i;
      }

  -- what was known is known of the returns with this one
  pub known-moved : (known : Known) → AreKnown setup returns known → AreKnown setup (insert returns station standing) (known_after_move con.code before standing.status known)
  known-moved known held other here =
      subst (IsKnown other (insert returns station standing)) (sym (get-with_known known con.code (with_move before standing.status) other.code)) (go (eq_by_cmp code_cmp other.code con.code) refl)
    where
      moved : (o : Option Statuses) → other ≡ con → IsKnown other returns o → IsKnown other (insert returns station standing) (option_map (with_move before standing.status) o)
      moved None same is = tt
      moved (Some statuses) same is =
          ap (with_move before standing.status) is
          ∙ subst (λ (c : Constituency). with_move before standing.status (statuses_in returns c.stations) ≡ statuses_in (insert returns station standing) c.stations) (sym same) (sym statuses-moved)

      kept : (o : Option Statuses) → other.code ≢ con.code → IsKnown other returns o → IsKnown other (insert returns station standing) o
      kept None apart is = tt
      kept (Some statuses) apart is = is ∙ sym (statuses-apart other here apart)

      go : (b : Bool) → eq_by_cmp code_cmp other.code con.code ≡ b → IsKnown other (insert returns station standing) (cond b (option_map (with_move before standing.status) (get known other.code)) (get known other.code))
      go true tied = moved (get known other.code) (same_con setup con other (station_with-con setup station con place limits at) here (tied-same other.code con.code tied)) (held other here)
      go false untied =
          kept (get known other.code) (λ same. let tied : eq_by_cmp code_cmp other.code con.code ≡ true = same-tied other.code con.code same in (let e : true ≡ false = sym tied ∙ untied in cc)) (held other here)

-- ---- a Lodge

pub known-lodged : (setup : List Constituency) (returns : Returns) (station slip : List ℕ) (counts : VoteCounts) (r : Result LodgeReply Refusal) (known : Known) → IsSetup setup
    → r ≡ lodge_answer (stations_of setup) returns station slip counts → AreKnown setup returns known → AreKnown setup (returns_after_lodge returns station slip counts r) (known_after_lodge setup station r known)
known-lodged setup returns station slip counts (Ok (lodge.Lodged rev)) known limits is held = go (station_with station setup) refl is
  where
    none : get returns station ≡ None
    none = lodged-none (stations_of setup) returns station slip counts rev (sym is)

    go : (found : Option (Constituency × Station)) → station_with station setup ≡ found → Ok (lodge.Lodged rev) ≡ reply_at_code (option_map (λ (p : Constituency × Station). limits_of p.0 p.1) found) (get returns station) slip counts
        → AreKnown setup (insert returns station (first_return slip counts)) (known_after_lodge_in (con_of_station setup station) known)
    go None there bad = let e : ◌≡◌ {A = Result LodgeReply Refusal} (Ok (lodge.Lodged rev)) (Err NoStation) = bad in cc
    go (Some found) there good =
        subst (λ code. AreKnown setup (insert returns station (first_return slip counts)) (known_after_lodge_in code known)) (sym (ap (option_map (λ (p : Constituency × Station). p.0.code)) there))
        (known-moved setup returns station found.0 found.1 (first_return slip counts) None limits there (sym (ap (option_map (λ (r : StationReturn). r.status)) none)) known held)
known-lodged setup returns station slip counts (Ok (lodge.Same rev)) known limits is held = held
known-lodged setup returns station slip counts (Err e) known limits is held = held

-- where a return was lodged in this constituency
pub lodge-counted : (setup : List Constituency) (station code : List ℕ) (con : Constituency) (place : Station) (reply : LodgeReply) (rev : ℕ) (known after : Known) → station_with station setup ≡ Some (con, place) → code ≡ con.code
    → reply ≡ lodge.Lodged rev → after ≡ known_after_move code None Received known → after ≡ known_after_lodge setup station (Ok reply) known
lodge-counted setup station code con place reply rev known after at own is put =
    put ∙ ap (λ k. known_after_move k None Received known) own
    ∙ sym (ap (λ k. known_after_lodge_in k known) (ap (option_map (λ (p : Constituency × Station). p.0.code)) at))
    ∙ sym (ap (λ r. known_after_lodge setup station (Ok r) known) is)

-- a row
pub known-row : (setup : List Constituency) (returns : Returns) (r : Row) (answer : RowAnswer) (known : Known) → IsSetup setup → row_answer (stations_of setup) returns r ≡ answer → AreKnown setup returns known
    → AreKnown setup (returns_after_row (stations_of setup) returns r) (known_after_row setup r answer known)
known-row setup returns (row.Lodge (Lodge station slip counts)) answer known limits is held =
    subst (λ a. AreKnown setup (returns_after_row (stations_of setup) returns (row.Lodge (Lodge station slip counts))) (known_after_row setup (row.Lodge (Lodge station slip counts)) a known)) is
    (known-lodged setup returns station slip counts (lodge_answer (stations_of setup) returns station slip counts) known limits refl held)
known-row setup returns other answer known limits is held = subst (λ a. AreKnown setup returns (known_after_row setup other a known)) is held

-- a request that was not accepted was refused
not-accepted : (r : Result Reply Refusal) → IsNotAccepted r → (e : Refusal) × (r ≡ Err e)
not-accepted r (inl is) = (_, is)
not-accepted r (inr is) = (_, is)

pub lodged-known : (setup : List Constituency) (s t : State) (station slip : List ℕ) (counts : VoteCounts) (r : Result LodgeReply Refusal) (a : Result Reply Refusal) (known after : Known) → IsSetup setup
    → r ≡ lodge_answer (stations_of setup) s.returns station slip counts → reply_seen a ≡ lodge_reply r → after ≡ known_after_lodge setup station r known → AreKnown setup s.returns known
    → IsAnswered setup s (Lodge station slip counts) a t → AreKnown setup t.returns after
lodged-known setup s t station slip counts r a known after limits is shown put held (inl step) =
    let next : t.returns ≡ returns_after_lodge s.returns station slip counts r =
    ap (λ (x : State). x.returns) (step.1 ∙ lodge-step setup s station slip counts) ∙ ap (returns_after_lodge s.returns station slip counts) (sym is) in
    subst (λ (returns : Returns). AreKnown setup returns after) (sym next) (subst (AreKnown setup (returns_after_lodge s.returns station slip counts r)) (sym put) (known-lodged setup s.returns station slip counts r known limits is held))
lodged-known setup s t station slip counts r a known after limits is shown put held (inr not) =
    subst (λ (x : State). AreKnown setup x.returns after) (sym not.1) (go r (ap reply_seen (sym (not-accepted a not.0).1) ∙ shown) put)
  where
    go : (r : Result LodgeReply Refusal) → reply_seen (Err (not-accepted a not.0).0) ≡ lodge_reply r → after ≡ known_after_lodge setup station r known → AreKnown setup s.returns after
    go (Ok (lodge.Lodged rev)) bad put = cc
    go (Ok (lodge.Same rev)) bad put = cc
    go (Err e) good put = subst (AreKnown setup s.returns) (sym put) held

-- ---- a command that moves a return

stepped : (setup : List Constituency) (s : State) (ask : Ask) (r : Result Reply Refusal) (t : State) → moves_return ask ≡ true → IsStep setup s ask r t → (reply_seen r ≡ move_reply (change_in_state setup s ask)) × (t ≡ after_return setup s ask)
stepped setup s (Query code rev note) r t moves step = step
stepped setup s (Correct code rev slip counts) r t moves step = step
stepped setup s (Close code rev) r t moves step = step
stepped setup s (Confirm code rev slip counts) r t moves step = step
stepped setup s (Lodge code slip counts) r t moves step = cc
stepped setup s (ShowReturn code) r t moves step = cc
stepped setup s (Draw code edition order) r t moves step = cc
stepped setup s (Certify code edition) r t moves step = cc
stepped setup s (Reopen code edition note) r t moves step = cc
stepped setup s (Vacate code list number note) r t moves step = cc
stepped setup s (ShowCon code) r t moves step = cc
stepped setup s ShowProgress r t moves step = cc

status-moved : (con : Constituency) (ask : Ask) (before standing : StationReturn) → MovesTo con ask before standing → status_after ask ≡ Some standing.status
status-moved con (Query code rev note) before standing moves = ap Some (sym moves.0)
status-moved con (Correct code rev slip counts) before standing moves = ap Some (sym moves.1)
status-moved con (Close code rev) before standing moves = ap Some (sym moves.1)
status-moved con (Confirm code rev slip counts) before standing moves = ap Some (sym moves.1)
status-moved con (Lodge code slip counts) before standing moves = absurd moves
status-moved con (ShowReturn code) before standing moves = absurd moves
status-moved con (Draw code edition order) before standing moves = absurd moves
status-moved con (Certify code edition) before standing moves = absurd moves
status-moved con (Reopen code edition note) before standing moves = absurd moves
status-moved con (Vacate code list number note) before standing moves = absurd moves
status-moved con (ShowCon code) before standing moves = absurd moves
status-moved con ShowProgress before standing moves = absurd moves

lot-returns : (s : State) (con : Option (List ℕ)) → (without_lot s con).returns ≡ s.returns
lot-returns s None = refl
lot-returns s (Some code) = refl

put-returns : (setup : List Constituency) (s : State) (ask : Ask) → (after_put setup s ask).returns ≡ s.returns
put-returns setup s (Query code rev note) = lot-returns s (con_of_station setup code)
put-returns setup s other = refl

pub command-known : (setup : List Constituency) (s t : State) (ask : Ask) (station code : List ℕ) (con : Constituency) (place : Station) (found : Option StationReturn) (before : Option Status) (r : Result Reply Refusal) (known next : Known) → IsSetup setup
    → station_named ask ≡ Some station → moves_return ask ≡ true → station_with station setup ≡ Some (con, place) → code ≡ con.code → found ≡ get s.returns station → before ≡ option_map (λ (x : StationReturn). x.status) found
    → next ≡ after_command code ask before (is_ok r) known → AreKnown setup s.returns known → IsAnswered setup s ask r t → AreKnown setup t.returns next
command-known setup s t ask station code con place found before r known next limits named moves at own found_is was put held (inl step) =
    go (change_in_state setup s ask) r refl (stepped setup s ask r t moves step).0 ((stepped setup s ask r t moves step).1) put
  where
    certified : Bool
    certified = (con_state s con.code).certified

    same : (r : Result Reply Refusal) → t ≡ s → AreKnown setup t.returns known
    same r is = subst (λ (x : State). AreKnown setup x.returns known) (sym is) held

    go : (d : Result Change Refusal) (r : Result Reply Refusal) → change_in_state setup s ask ≡ d → reply_seen r ≡ move_reply d → t ≡ state_after setup s ask (change_in_state setup s ask) → next ≡ after_command code ask before (is_ok r) known → AreKnown setup t.returns next
    go (Ok (PutReturn standing)) (Ok reply) is shown to put =
        let is_found : IsFound setup s station con place certified found = record { known = at; certified_is = refl; found_is = found_is } in
        let decided : return_change_at con place certified found ask ≡ Ok (PutReturn standing) = sym (found-decided setup s ask station con place certified found named is_found) ∙ is in
        let done : IsPut con certified found ask (PutReturn standing) = put-decided con place certified found ask (PutReturn standing) moves decided in
        let standing_is : done.standing ≡ standing = let e : PutReturn standing ≡ PutReturn done.standing = done.change_is in cc in
        let status : status_after ask ≡ Some standing.status = status-moved con ask done.before done.standing done.moves ∙ ap (λ (x : StationReturn). Some x.status) standing_is in
        let returns : t.returns ≡ insert s.returns station standing =
        ap (λ (x : State). x.returns) (to ∙ ap (state_after setup s ask) is)
        ∙ ap (λ n. (with_return (after_put setup s ask) n standing).returns) named
        ∙ ap (λ (m : Returns). insert m station standing) (put-returns setup s ask) in
        let counted : next ≡ known_after_move con.code before standing.status known = put ∙ ap (λ o. after_status code before o known) status ∙ ap (λ k. known_after_move k before standing.status known) own in
        subst (λ (m : Returns). AreKnown setup m next) (sym returns)
        (subst (AreKnown setup (insert s.returns station standing)) (sym counted)
        (known-moved setup s.returns station con place standing before limits at (was ∙ ap (option_map (λ (x : StationReturn). x.status)) found_is) known held))
    go (Ok (PutReturn standing)) (Err e) is shown to put = cc
    go (Ok Same) (Ok reply) is shown to put = cc
    go (Ok Same) (Err e) is shown to put = subst (AreKnown setup t.returns) (sym put) (same (Err e) (to ∙ ap (state_after setup s ask) is))
    go (Ok (SetLot places)) (Ok reply) is shown to put = cc
    go (Ok (SetLot places)) (Err e) is shown to put = subst (AreKnown setup t.returns) (sym put) (same (Err e) (to ∙ ap (state_after setup s ask) is))
    go (Ok (SetCertified seats)) (Ok reply) is shown to put = cc
    go (Ok (SetCertified seats)) (Err e) is shown to put = subst (AreKnown setup t.returns) (sym put) (same (Err e) (to ∙ ap (state_after setup s ask) is))
    go (Ok (SetReopened note past)) (Ok reply) is shown to put = cc
    go (Ok (SetReopened note past)) (Err e) is shown to put = subst (AreKnown setup t.returns) (sym put) (same (Err e) (to ∙ ap (state_after setup s ask) is))
    go (Ok (SetGone gone up)) (Ok reply) is shown to put = cc
    go (Ok (SetGone gone up)) (Err e) is shown to put = subst (AreKnown setup t.returns) (sym put) (same (Err e) (to ∙ ap (state_after setup s ask) is))
    go (Err refusal) (Ok reply) is shown to put = cc
    go (Err refusal) (Err e) is shown to put = subst (AreKnown setup t.returns) (sym put) (same (Err e) (to ∙ ap (state_after setup s ask) is))
command-known setup s t ask station code con place found before r known next limits named moves at own found_is was put held (inr not) =
    let refused = not-accepted r not.0 in
    subst (λ (x : State). AreKnown setup x.returns next) (sym not.1) (subst (AreKnown setup s.returns) (sym (put ∙ ap (λ a. after_command code ask before (is_ok a) known) refused.1)) held)

-- one that names no station changes nothing
pub nowhere-known : (setup : List Constituency) (s t : State) (ask : Ask) (e : Refusal) (known : Known) → moves_return ask ≡ true → AreKnown setup s.returns known → IsAnswered setup s ask (Err e) t → AreKnown setup t.returns known
nowhere-known setup s t ask e known moves held (inl step) =
    let both = stepped setup s ask (Err e) t moves step in
    go (change_in_state setup s ask) refl both.0 both.1
  where
    go : (d : Result Change Refusal) → change_in_state setup s ask ≡ d → reply_seen (Err e) ≡ move_reply d → t ≡ state_after setup s ask (change_in_state setup s ask) → AreKnown setup t.returns known
    go (Ok (PutReturn standing)) is shown to = cc
    go (Ok Same) is shown to = subst (λ (x : State). AreKnown setup x.returns known) (sym (to ∙ ap (state_after setup s ask) is)) held
    go (Ok (SetLot places)) is shown to = subst (λ (x : State). AreKnown setup x.returns known) (sym (to ∙ ap (state_after setup s ask) is)) held
    go (Ok (SetCertified seats)) is shown to = subst (λ (x : State). AreKnown setup x.returns known) (sym (to ∙ ap (state_after setup s ask) is)) held
    go (Ok (SetReopened note past)) is shown to = subst (λ (x : State). AreKnown setup x.returns known) (sym (to ∙ ap (state_after setup s ask) is)) held
    go (Ok (SetGone gone up)) is shown to = subst (λ (x : State). AreKnown setup x.returns known) (sym (to ∙ ap (state_after setup s ask) is)) held
    go (Err refusal) is shown to = subst (λ (x : State). AreKnown setup x.returns known) (sym (to ∙ ap (state_after setup s ask) is)) held
nowhere-known setup s t ask e known moves held (inr not) = subst (λ (x : State). AreKnown setup x.returns known) (sym not.1) held

-- ---- requests that leave the returns

change-returns : (s : State) (code : List ℕ) (decided : Result ConChange Refusal) → (after_change s code decided).returns ≡ s.returns
change-returns s code (Ok no_change) = refl
change-returns s code (Ok (lot_set places)) = refl
change-returns s code (Ok (certified_with seats)) = refl
change-returns s code (Ok (open_again note past)) = refl
change-returns s code (Ok (gone_for_good candidate next)) = refl
change-returns s code (Err refusal) = refl

con-step-returns : (found : Option Constituency) (s t : State) (ask : Ask) (a : Result Answer Refusal) → IsConStepSeen found s ask a t → t.returns ≡ s.returns
con-step-returns None s t ask a step = ap (λ (x : State). x.returns) step.1
con-step-returns (Some con) s t ask a step = ap (λ (x : State). x.returns) step.5 ∙ change-returns s con.code step.1

-- one on a constituency
pub con-returns : (setup : List Constituency) (s t : State) (ask : Ask) (code : List ℕ) (r : Result Reply Refusal) → con_named ask ≡ Some code → IsAnswered setup s ask r t → t.returns ≡ s.returns
con-returns setup s t ask code r named (inl step) =
    con-step-returns (constituency_with code setup) s t ask (reply_seen r) (subst (λ n. IsStepSeenAt n setup s ask (reply_seen r) t) named step)
con-returns setup s t ask code r named (inr not) = ap (λ (x : State). x.returns) not.1

-- one that shows how far constituencies have come, or the return of a station
pub progress-returns : (setup : List Constituency) (s t : State) (r : Result Reply Refusal) → IsAnswered setup s ShowProgress r t → t.returns ≡ s.returns
progress-returns setup s t r (inl step) = ap (λ (x : State). x.returns) step.1
progress-returns setup s t r (inr not) = ap (λ (x : State). x.returns) not.1

pub shown-returns : (setup : List Constituency) (s t : State) (station : List ℕ) (r : Result Reply Refusal) → IsAnswered setup s (ShowReturn station) r t → t.returns ≡ s.returns
shown-returns setup s t station r (inl step) = ap (λ (x : State). x.returns) (step.1 ∙ sym (shown-stays setup s station))
shown-returns setup s t station r (inr not) = ap (λ (x : State). x.returns) not.1
