-- What is held of each constituency stays what is seen of it, where a return is put or taken out.
use Rattle.std.proofs.Common.{◌≡◌, ◌≢◌, ◌≤◌, ◌<◌, ◌∷◌, ◌∙◌, ◌⊎◌, ℕ, List, [], Bool, true, false, cond, length, Option, Some, None, inl, inr, refl, sym, ap, subst, arith}
use Rattle.std.specs.Prelude.{option_map, is_some, slice_index, sum, sum_by}
use Rattle.std.specs.Cmp.Lexicographic.{nat_list_cmp_total}
use Rattle.std.specs.FinMap.{get, insert, remove, get-insert, get-remove}
use Rattle.std.specs.Option.{ForSome}
use Rattle.std.specs.Ordering.{eq_by_cmp}
use Rattle.std.specs.Str.{bytes_eq}
use Rattle.std.proofs.lemmas.List.Sums.{get_or-le-sum_by}
use Rattle.tally_setup.specs.Code.{code_cmp}
use Rattle.tally_setup.specs.Constituency.{Constituency, entitled}
use Rattle.tally_setup.specs.Limits.{IsSetup}
use Rattle.tally_setup.specs.Setup.{constituency_with, station_with}
use Rattle.tally_setup.specs.declared.constituency.Station.{Station}
use Rattle.tally_returns.specs.Counts.{VoteCounts, all_votes}
use Rattle.tally_returns.specs.Decide.{limits_of}
use Rattle.tally_returns.specs.Lawful.{IsLawful}
use Rattle.tally_returns.specs.Lodge.{StationLimits}
use Rattle.tally_returns.specs.Progress.{is_closed}
use Rattle.tally_returns.specs.Return.{StationReturn, Returns}
use Rattle.tally_returns.specs.State.{stations_of}
use Rattle.tally_returns.specs.View.{View, view_with}
use Rattle.tally_returns.proofs.CountsLemmas.{length-counts}
use Rattle.tally_keeper.specs.internal.Rows.{AreLawfulReturns, IsTallied, Views, con_of, cons_of, seats_of, with_view, without_former}
use Rattle.tally_keeper.specs.internal.Sums.{CanCount, with_counts, with_return_counted, with_status}
use Rattle.tally_setup.proofs.NamedLemmas.{Apart, Has, code_of_station, con-found, con-limits, con-only, has_or_apart, not_apart, station-found, station-only, stations-differ}
use Rattle.tally_keeper.proofs.SumLemmas.{AreFew, IsMoved, IsPut, at_place, can-count, if_closed, is_moved-put, is_moved-taken, total, total-apart, view-moved, view-same}
use Rattle.tally_keeper.proofs.TreeLemmas.{cons_of-kept, get-with_view, same_code, same_maps, seats_of-kept, tied_itself}

-- a return that is counted changes nothing else of a view
pub counted-con : (standing : StationReturn) (add : Bool) (v : View) → con_of (with_return_counted v standing add) ≡ con_of v
counted-con standing add v = by_closed (is_closed standing.status)
  where
    by_closed : (b : Bool) → con_of (cond b (with_counts (with_status v standing.status add) standing.counts add) (with_status v standing.status add)) ≡ con_of v
    by_closed true = refl
    by_closed false = refl

abbrev seats_in_view : View → List ℕ
seats_in_view v = v.seats

pub counted-seats : (standing : StationReturn) (add : Bool) (v : View) → (with_return_counted v standing add).seats ≡ v.seats
counted-seats standing add v = by_closed (is_closed standing.status)
  where
    by_closed : (b : Bool) → seats_in_view (cond b (with_counts (with_status v standing.status add) standing.counts add) (with_status v standing.status add)) ≡ v.seats
    by_closed true = refl
    by_closed false = refl

-- ---- returns by station

pub put-in : (m : Returns) (code : List ℕ) (standing : StationReturn) → IsPut (remove m code) (insert m code standing) code standing
put-in m code standing = record {
  none = get-remove nat_list_cmp_total m code code ∙ ap (λ b. cond b None (get m code)) (tied_itself code);
  some = get-insert nat_list_cmp_total m code standing code ∙ ap (λ b. cond b (Some standing) (get m code)) (tied_itself code);
  others = λ q apart. others q (eq_by_cmp code_cmp q code) refl apart;
}
  where
    others : (q : List ℕ) (b : Bool) → eq_by_cmp code_cmp q code ≡ b → bytes_eq code q ≡ false → get (insert m code standing) q ≡ get (remove m code) q
    others q true tied apart = absurd (not_apart q code (same_code q code tied) apart)
    others q false tied apart =
        get-insert nat_list_cmp_total m code standing q ∙ ap (λ b. cond b (Some standing) (get m q)) tied
        ∙ sym (get-remove nat_list_cmp_total m code q ∙ ap (λ b. cond b None (get m q)) tied)

pub taken-out : (m : Returns) (code : List ℕ) (standing : StationReturn) → get m code ≡ Some standing → IsPut (remove m code) m code standing
taken-out m code standing there = record {
  none = get-remove nat_list_cmp_total m code code ∙ ap (λ b. cond b None (get m code)) (tied_itself code);
  some = there;
  others = λ q apart. others q (eq_by_cmp code_cmp q code) refl apart;
}
  where
    others : (q : List ℕ) (b : Bool) → eq_by_cmp code_cmp q code ≡ b → bytes_eq code q ≡ false → get m q ≡ get (remove m code) q
    others q true tied apart = absurd (not_apart q code (same_code q code tied) apart)
    others q false tied apart = sym (get-remove nat_list_cmp_total m code q ∙ ap (λ b. cond b None (get m q)) tied)

pub removed-none : (m : Returns) (code : List ℕ) → get m code ≡ None → remove m code ≡ m
removed-none m code none = same_maps (remove m code) m (λ q. get-remove nat_list_cmp_total m code q ∙ by_tie q (eq_by_cmp code_cmp q code) refl)
  where
    by_tie : (q : List ℕ) (b : Bool) → eq_by_cmp code_cmp q code ≡ b → cond b None (get m q) ≡ get m q
    by_tie q true tied = sym (ap (get m) (same_code q code tied) ∙ none)
    by_tie q false tied = refl

pub lawful-insert : (setup : List Constituency) (m : Returns) (code : List ℕ) (standing : StationReturn) (limits : StationLimits)
    → AreLawfulReturns setup m → stations_of setup code ≡ Some limits → IsLawful limits standing → AreLawfulReturns setup (insert m code standing)
lawful-insert setup m code standing limits lawful known is =
    λ q r there. by_tie q r (eq_by_cmp code_cmp q code) refl (sym (get-insert nat_list_cmp_total m code standing q) ∙ there)
  where
    by_tie : (q : List ℕ) (r : StationReturn) (b : Bool) → eq_by_cmp code_cmp q code ≡ b → cond b (Some standing) (get m q) ≡ Some r
        → (found : StationLimits) × (stations_of setup q ≡ Some found) × IsLawful found r
    by_tie q r true tied some =
        let same : standing ≡ r = cc in
        (limits, ap (stations_of setup) (same_code q code tied) ∙ known, subst (IsLawful limits) same is)
    by_tie q r false tied some = lawful q r some

pub lawful-remove : (setup : List Constituency) (m : Returns) (code : List ℕ) → AreLawfulReturns setup m → AreLawfulReturns setup (remove m code)
lawful-remove setup m code lawful =
    λ q r there. by_tie q r (eq_by_cmp code_cmp q code) (sym (get-remove nat_list_cmp_total m code q) ∙ there)
  where
    by_tie : (q : List ℕ) (r : StationReturn) (b : Bool) → cond b None (get m q) ≡ Some r → (found : StationLimits) × (stations_of setup q ≡ Some found) × IsLawful found r
    by_tie q r true some = absurd cc
    by_tie q r false some = lawful q r some

-- ---- bounds

-- what a setup says of a station
pub limits-at : (setup : List Constituency) (code : List ℕ) (con : Constituency) (station : Station) → station_with code setup ≡ Some (con, station) → stations_of setup code ≡ Some (limits_of con station)
limits-at setup code con station is = ap (option_map (λ (place : Constituency × Station). limits_of place.0 place.1)) is

-- a lawful return has few votes of each kind
lawful-few : (con : Constituency) (station : Station) (f : VoteCounts → ℕ) (found : Option StationReturn)
    → ((counts : VoteCounts) → length counts.votes ≡ length con.lists → f counts ≤ all_votes counts)
    → ForSome found (IsLawful (limits_of con station)) → if_closed f found ≤ entitled station
lawful-few con station f None within lawful = omega arith
lawful-few con station f (Some standing) within lawful = by_closed (is_closed standing.status)
  where
    is : IsLawful (limits_of con station) standing
    is = lawful standing refl

    by_closed : (b : Bool) → sum_by f (cond b (standing.counts ∷ []) []) ≤ entitled station
    by_closed true =
        let votes : f standing.counts ≤ all_votes standing.counts = within standing.counts (length-counts (length con.lists) standing.counts is.counts) in
        let all : all_votes standing.counts ≤ entitled station = is.votes in
        omega (arith, votes, all)
    by_closed false = omega arith

pub are-few : (setup : List Constituency) (con : Constituency) (m : Returns) (f : VoteCounts → ℕ) → IsSetup setup → Has con setup → AreLawfulReturns setup m
    → ((counts : VoteCounts) → length counts.votes ≡ length con.lists → f counts ≤ all_votes counts) → AreFew con.stations m f
are-few setup con m f limits has lawful within = λ station stands.
    lawful-few con station f (get m station.code) within
    (λ standing there.
    let found = lawful station.code standing there in
    let known : stations_of setup station.code ≡ Some (limits_of con station) = limits-at setup station.code con station (station-only setup con station limits has stands) in
    let same : found.0 ≡ limits_of con station = cc in
    subst (λ (l : StationLimits). IsLawful l standing) same found.2)

place-within : (con : Constituency) (place : ℕ) → place < length con.lists → (counts : VoteCounts) → length counts.votes ≡ length con.lists → at_place place counts ≤ all_votes counts
place-within con place less counts same =
    let one : slice_index counts.votes place ≤ sum counts.votes = get_or-le-sum_by (λ (n : ℕ). n) counts.votes place 0 (omega (arith, less, same)) in
    omega (arith, one)

-- ---- one return more or one fewer

-- a station of a code is in no constituency but its own
pub elsewhere : (setup : List Constituency) (con other : Constituency) (station : Station) (code : List ℕ) → IsSetup setup → Has con setup → Has station con.stations → code ≡ station.code
    → Has other setup → other.code ≢ con.code → Apart code_of_station code other.stations
elsewhere setup con other station code limits has stands is found differ = go (has_or_apart code_of_station code other.stations)
  where
    go : ((s : Station) × Has s other.stations × (code ≡ s.code)) ⊎ Apart code_of_station code other.stations → Apart code_of_station code other.stations
    go (inl there) =
        let here = ap (λ q. station_with q setup) is ∙ station-only setup con station limits has stands in
        let too = ap (λ q. station_with q setup) there.2 ∙ station-only setup other there.0 limits found there.1 in
        let same : (other, there.0) ≡ (con, station) = cc in
        absurd (differ (ap (λ (p : Constituency × Station). p.0.code) same))
    go (inr apart) = apart

-- what is held of the constituency can be moved
pub can-moved : (setup : List Constituency) (con : Constituency) (old new : Returns) (views : Views) (standing : StationReturn) (add : Bool)
    → IsSetup setup → Has con setup → IsTallied setup old views → AreLawfulReturns setup new → IsMoved con.stations old new standing add → length standing.counts.votes ≡ length con.lists
    → ForSome (get views con.code) (λ view. CanCount view standing add)
can-moved setup con old new views standing add limits has tallied lawful moves lists = λ view there.
    let seen = tallied.seen con.code view there in
    let found : constituency_with con.code setup ≡ Some con = con-only setup con limits has in
    let same : seen.0 ≡ con = cc in
    let is : view ≡ view_with con (con_of view) old view.seats = subst (λ (c : Constituency). view ≡ view_with c (con_of view) old view.seats) same seen.2 in
    subst (λ (v : View). CanCount v standing add) (sym is)
    (can-count con (con_of view) old new view.seats standing add moves (con-limits setup con limits has).stations (con-limits setup con limits has).entitled lists
    (λ place less. are-few setup con new (at_place place) limits has lawful (place-within con place less))
    (are-few setup con new (λ (n : VoteCounts). n.blank) limits has lawful (λ counts _. omega arith))
    (are-few setup con new (λ (n : VoteCounts). n.spoiled) limits has lawful (λ counts _. omega arith)))

-- what is held of each constituency, after one of them was moved
pub tallied-moved : (setup : List Constituency) (con : Constituency) (old new : Returns) (views : Views) (standing : StationReturn) (add : Bool)
    → IsSetup setup → Has con setup → IsTallied setup old views → AreLawfulReturns setup new → IsMoved con.stations old new standing add
    → ((other : Constituency) → Has other setup → other.code ≢ con.code → (g : Option StationReturn → ℕ) → total g old other.stations ≡ total g new other.stations)
    → IsTallied setup new (with_view views con.code (λ view. with_return_counted view standing add))
tallied-moved setup con old new views standing add limits has tallied lawful moves others = record {
  lawful = lawful;
  seen = λ code view there. by_tie code view (eq_by_cmp code_cmp code con.code) refl (sym (get-with_view views con.code count code) ∙ there);
  known = λ code. ap is_some (get-with_view views con.code count code) ∙ either (eq_by_cmp code_cmp code con.code) (get views code) ∙ tallied.known code;
}
  where
    count : View → View
    count view = with_return_counted view standing add

    either : (b : Bool) (found : Option View) → is_some (cond b (option_map count found) found) ≡ is_some found
    either true None = refl
    either true (Some view) = refl
    either false found = refl

    at : (code : List ℕ) (view : View) → code ≡ con.code → (found : Option View) → get views code ≡ found → option_map count found ≡ Some view
        → (c : Constituency) × (constituency_with code setup ≡ Some c) × (view ≡ view_with c (con_of view) new view.seats)
    at code view is None there some = absurd cc
    at code view is (Some before) there some =
        let seen = tallied.seen code before there in
        let found : constituency_with code setup ≡ Some con = ap (λ q. constituency_with q setup) is ∙ con-only setup con limits has in
        let same : seen.0 ≡ con = cc in
        let was : before ≡ view_with con (con_of before) old before.seats = subst (λ (c : Constituency). before ≡ view_with c (con_of before) old before.seats) same seen.2 in
        let now : count before ≡ view = cc in
        let moved : count before ≡ view_with con (con_of before) new before.seats = ap count was ∙ view-moved con (con_of before) old new before.seats standing add moves in (
          con,
          found,
          subst (λ (v : View). v ≡ view_with con (con_of v) new v.seats) now
              (moved ∙ (λ i. view_with con (sym (counted-con standing add before) i) new (sym (counted-seats standing add before) i))),
        )

    by_tie : (code : List ℕ) (view : View) (b : Bool) → eq_by_cmp code_cmp code con.code ≡ b → cond b (option_map count (get views code)) (get views code) ≡ Some view
        → (c : Constituency) × (constituency_with code setup ≡ Some c) × (view ≡ view_with c (con_of view) new view.seats)
    by_tie code view true tied some = at code view (same_code code con.code tied) (get views code) refl some
    by_tie code view false tied some =
        let seen = tallied.seen code view some in
        let found = con-found setup code seen.0 seen.1 in
        let differ : seen.0.code ≢ con.code = λ is.
        let e : false ≡ true = sym tied ∙ ap (λ q. eq_by_cmp code_cmp q con.code) (found.0 ∙ is) ∙ tied_itself con.code in absurd cc in
        (seen.0, seen.1, seen.2 ∙ view-same seen.0 (con_of view) old new view.seats (others seen.0 found.1 differ))

-- ---- a return is put or taken out

-- the return that was recorded can be counted no longer
pub former-can : (setup : List Constituency) (m : Returns) (views : Views) (code : List ℕ) (con : Constituency) (station : Station) → IsSetup setup → IsTallied setup m views
    → station_with code setup ≡ Some (con, station) → (former : Option StationReturn) → former ≡ get m code
    → ForSome former (λ standing. ForSome (get views con.code) (λ view. CanCount view standing false))
former-can setup m views code con station limits tallied is former there = λ standing some.
    let found = station-found setup code con station is in
    let stood : get m code ≡ Some standing = sym there ∙ some in
    let put = taken-out m code standing stood in
    let law = tallied.lawful code standing stood in
    let known : stations_of setup code ≡ Some (limits_of con station) = limits-at setup code con station is in
    let same : law.0 ≡ limits_of con station = cc in
    can-moved setup con m (remove m code) views standing false limits found.0 tallied (lawful-remove setup m code tallied.lawful)
    (is_moved-taken (remove m code) m code standing con.stations station put (stations-differ setup con limits found.0) found.1 found.2)
    (length-counts (length con.lists) standing.counts (subst (λ (l : StationLimits). IsLawful l standing) same law.2).counts)

pub tallied-former : (setup : List Constituency) (m : Returns) (views : Views) (code : List ℕ) (con : Constituency) (station : Station) → IsSetup setup → IsTallied setup m views
    → station_with code setup ≡ Some (con, station) → (former : Option StationReturn) → former ≡ get m code
    → IsTallied setup (remove m code) (without_former views con.code former)
tallied-former setup m views code con station limits tallied is None there = subst (λ n. IsTallied setup n views) (sym (removed-none m code (sym there))) tallied
tallied-former setup m views code con station limits tallied is (Some standing) there =
    let found = station-found setup code con station is in
    let put = taken-out m code standing (sym there) in
    tallied-moved setup con m (remove m code) views standing false limits found.0 tallied (lawful-remove setup m code tallied.lawful)
    (is_moved-taken (remove m code) m code standing con.stations station put (stations-differ setup con limits found.0) found.1 found.2)
    (λ other has differ g. total-apart g (remove m code) m code standing other.stations put (elsewhere setup con other station code limits found.0 found.1 found.2 has differ))

-- a return that is put can be counted
pub put-can : (setup : List Constituency) (m : Returns) (views : Views) (code : List ℕ) (con : Constituency) (station : Station) (standing : StationReturn) → IsSetup setup
    → AreLawfulReturns setup m → IsTallied setup (remove m code) views → station_with code setup ≡ Some (con, station) → IsLawful (limits_of con station) standing
    → ForSome (get views con.code) (λ view. CanCount view standing true)
put-can setup m views code con station standing limits lawful tallied is law =
    let found = station-found setup code con station is in
    can-moved setup con (remove m code) (insert m code standing) views standing true limits found.0 tallied
    (lawful-insert setup m code standing (limits_of con station) lawful (limits-at setup code con station is) law)
    (is_moved-put (remove m code) (insert m code standing) code standing con.stations station (put-in m code standing) (stations-differ setup con limits found.0) found.1 found.2)
    (length-counts (length con.lists) standing.counts law.counts)

pub tallied-put : (setup : List Constituency) (m : Returns) (views : Views) (code : List ℕ) (con : Constituency) (station : Station) (standing : StationReturn) → IsSetup setup
    → AreLawfulReturns setup m → IsTallied setup (remove m code) views → station_with code setup ≡ Some (con, station) → IsLawful (limits_of con station) standing
    → IsTallied setup (insert m code standing) (with_view views con.code (λ view. with_return_counted view standing true))
tallied-put setup m views code con station standing limits lawful tallied is law =
    let found = station-found setup code con station is in
    let put = put-in m code standing in
    tallied-moved setup con (remove m code) (insert m code standing) views standing true limits found.0 tallied
    (lawful-insert setup m code standing (limits_of con station) lawful (limits-at setup code con station is) law)
    (is_moved-put (remove m code) (insert m code standing) code standing con.stations station put (stations-differ setup con limits found.0) found.1 found.2)
    (λ other has differ g. sym (total-apart g (remove m code) (insert m code standing) code standing other.stations put (elsewhere setup con other station code limits found.0 found.1 found.2 has differ)))

-- what each constituency has come to, and its seats, stay
pub former-cons : (views : Views) (code : List ℕ) (former : Option StationReturn) → cons_of (without_former views code former) ≡ cons_of views
former-cons views code None = refl
former-cons views code (Some standing) = cons_of-kept views code (λ view. with_return_counted view standing false) (counted-con standing false)

pub former-seats : (views : Views) (code : List ℕ) (former : Option StationReturn) → seats_of (without_former views code former) ≡ seats_of views
former-seats views code None = refl
former-seats views code (Some standing) = seats_of-kept views code (λ view. with_return_counted view standing false) (counted-seats standing false)

-- a code that names no station has no return
pub no_station-none : (setup : List Constituency) (m : Returns) (code : List ℕ) → AreLawfulReturns setup m → station_with code setup ≡ None → get m code ≡ None
no_station-none setup m code lawful none = by_found (get m code) refl
  where
    by_found : (found : Option StationReturn) → get m code ≡ found → found ≡ None
    by_found None there = refl
    by_found (Some standing) there =
        let law = lawful code standing there in
        let no : stations_of setup code ≡ None = ap (option_map (λ (place : Constituency × Station). limits_of place.0 place.1)) none in
        let e : Some law.0 ≡ None = sym law.1 ∙ no in absurd cc
