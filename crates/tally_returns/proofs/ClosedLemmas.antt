-- What a code names in a setup, and what is seen of a constituency by the returns of its stations.
use Rattle.std.proofs.Common.{◌≡◌, ◌≢◌, ◌+◌, ◌++◌, ◌∷◌, ◌⊎◌, ◌∙◌, ℕ, suc, List, [], length, map, Bool, true, false, cond, Option, Some, None, refl, sym, ap, subst, inl, inr, arith}
use Rattle.std.specs.Prelude.{All, AllPairs}
use Rattle.std.specs.FinMap as fin
use Rattle.std.specs.Option.{option_map_or}
use Rattle.std.specs.List.{find}
use Rattle.std.specs.Str.{bytes_eq}
use Rattle.std.specs.Cmp.{Equal-is, eq_by_cmp_equiv}
use Rattle.std.specs.Cmp.Lexicographic.{nat_list_cmp_total}
use Rattle.std.specs.Ordering.{eq_by_cmp}
use Rattle.std.proofs.lemmas.List.Elements.{All-nil, All-cons, All-head, All-tail}
use Rattle.std.proofs.lemmas.List.Sums.{sum_by-cons, count_by-le-length}
use Rattle.std.proofs.lemmas.Slice.Eq.{bytes_eq-Decides}
use Rattle.tally_setup.specs.Code.{code_cmp}
use Rattle.tally_setup.specs.Codes.{AreDistinct}
use Rattle.tally_setup.specs.Constituency.{Constituency}
use Rattle.tally_setup.specs.Limits.{IsSetup}
use Rattle.tally_setup.specs.Setup.{all_stations, all_station_codes, constituency_codes, constituency_with, station_with}
use Rattle.tally_setup.specs.declared.constituency.Station.{Station}
use Rattle.tally_returns.specs.Decide.{station_in}
use Rattle.tally_returns.specs.Progress.{is_received, is_queried, is_corrected, is_closed, count_with_status}
use Rattle.tally_returns.specs.Return.{StationReturn, Returns}
use Rattle.tally_returns.specs.State.{ConState}
use Rattle.tally_returns.specs.View.{View, blank_of, closed_counts, counts_if_closed, gone_candidates, past_records, spoiled_of, view_with, votes_of_lists}
use Rattle.tally_returns.specs.Counts.{VoteCounts}
use Rattle.tally_returns.specs.declared.returns.Status.{Status}
use Rattle.tally_returns.proofs.StateLemmas.{either-in, place_with, places, station_of}

-- ---- keys of a map by code

-- keys that tie are the same
pub tied-same : (q code : List ℕ) → eq_by_cmp code_cmp q code ≡ true → q ≡ code
tied-same q code tied = fin.slice_cmp-IsAntisymmetric fin.nat_cmp-IsAntisymmetric q code ((Equal-is (code_cmp q code)).0 tied)

pub same-tied : (q code : List ℕ) → q ≡ code → eq_by_cmp code_cmp q code ≡ true
same-tied q code same = ap (eq_by_cmp code_cmp q) (sym same) ∙ (eq_by_cmp_equiv nat_list_cmp_total).refl q

pub apart-untied : (q code : List ℕ) → q ≢ code → eq_by_cmp code_cmp q code ≡ false
apart-untied q code apart = go (eq_by_cmp code_cmp q code) refl
  where
    go : (b : Bool) → eq_by_cmp code_cmp q code ≡ b → b ≡ false
    go true tied = absurd (apart (tied-same q code tied))
    go false untied = refl

-- what was put at a key, and at another one what was there
pub get-put : {X : Type 0} (m : fin.FinMap code_cmp X) (code : List ℕ) (x : X) → fin.get (fin.insert m code x) code ≡ Some x
get-put m code x = fin.get-insert nat_list_cmp_total m code x code ∙ ap (λ b. cond b (Some x) (fin.get m code)) (same-tied code code refl)

pub get-kept : {X : Type 0} (m : fin.FinMap code_cmp X) (code : List ℕ) (x : X) (q : List ℕ) → q ≢ code → fin.get (fin.insert m code x) q ≡ fin.get m q
get-kept m code x q apart = fin.get-insert nat_list_cmp_total m code x q ∙ ap (λ b. cond b (Some x) (fin.get m q)) (apart-untied q code apart)

-- ---- what is found in a list

-- what is found passes the test
pub found-passes : {X : Type 0} (p : X → Bool) (xs : List X) (y : X) → find p xs ≡ Some y → p y ≡ true
found-passes {X} p [] y is = cc
found-passes {X} p (x ∷ xs) y is = go (p x) refl is (found-passes p xs y)
  where
    go : (b : Bool) → p x ≡ b → cond b (Some x) (find p xs) ≡ Some y → (find p xs ≡ Some y → p y ≡ true) → p y ≡ true
    go true passes some later = let same : x ≡ y = cc in subst (λ (z : X). p z ≡ true) same passes
    go false fails some later = later some

-- what holds of each holds of the one that is found
pub found-All : {X : Type 0} (P : X → Type 0) (p : X → Bool) (xs : List X) (y : X) → All P xs → find p xs ≡ Some y → P y
found-All {X} P p [] y all is = cc
found-All {X} P p (x ∷ xs) y all is = go (p x) is (found-All P p xs y (All-tail P x xs all))
  where
    go : (b : Bool) → cond b (Some x) (find p xs) ≡ Some y → (find p xs ≡ Some y → P y) → P y
    go true some later = let same : x ≡ y = cc in subst P same (All-head P x xs all)
    go false some later = later some

All-mapped : {X Y : Type 0} (P : Y → Type 0) (f : X → Y) (xs : List X) → All P (map f xs) → All (λ x. P (f x)) xs
All-mapped P f [] all = All-nil (λ x. P (f x))
All-mapped P f (x ∷ xs) all = All-cons (λ y. P (f y)) x xs (All-head P (f x) (map f xs) all) (All-mapped P f xs (All-tail P (f x) (map f xs) all))

pairs-first : {X : Type 0} (R : X → X → Type 0) (x : X) (xs : List X) → AllPairs R (x ∷ xs) → All (R x) xs
pairs-first R x xs pairs k d within = pairs 0 (suc k) d (omega arith) (omega arith)

pairs-rest : {X : Type 0} (R : X → X → Type 0) (x : X) (xs : List X) → AllPairs R (x ∷ xs) → AllPairs R xs
pairs-rest R x xs pairs i j d below within = pairs (suc i) (suc j) d (omega arith) (omega arith)

-- where codes differ, the one found after the first is found in the whole
behind-found : {X : Type 0} (f : X → List ℕ) (code : List ℕ) (x : X) (xs : List X) (y : X) → AreDistinct (map f (x ∷ xs))
    → find (λ z. bytes_eq code (f z)) xs ≡ Some y → find (λ z. bytes_eq code (f z)) (x ∷ xs) ≡ Some y
behind-found f code x xs y distinct is = go (bytes_eq code (f x)) refl
  where
    apart : f x ≢ f y
    apart = found-All (λ z. f x ≢ f z) (λ z. bytes_eq code (f z)) xs y (All-mapped (λ b. f x ≢ b) f xs (pairs-first (λ a b. a ≢ b) (f x) (map f xs) distinct)) is

    there : code ≡ f y
    there = (bytes_eq-Decides code (f y)).0 (found-passes (λ z. bytes_eq code (f z)) xs y is)

    go : (b : Bool) → bytes_eq code (f x) ≡ b → cond b (Some x) (find (λ z. bytes_eq code (f z)) xs) ≡ Some y
    go true tied = absurd (apart (sym ((bytes_eq-Decides code (f x)).0 tied) ∙ there))
    go false untied = is

-- ---- constituencies and stations by code

-- the constituency of a code has that code
pub constituency_with-code : (setup : List Constituency) (code : List ℕ) (con : Constituency) → constituency_with code setup ≡ Some con → con.code ≡ code
constituency_with-code setup code con is = sym ((bytes_eq-Decides code con.code).0 (found-passes (λ (c : Constituency). bytes_eq code c.code) setup con is))

-- and is the one of that code
pub constituency_with-own : (setup : List Constituency) (code : List ℕ) (con : Constituency) → constituency_with code setup ≡ Some con → constituency_with con.code setup ≡ Some con
constituency_with-own setup code con is = subst (λ q. constituency_with q setup ≡ Some con) (sym (constituency_with-code setup code con is)) is

own-con : (setup : List Constituency) (code : List ℕ) (con : Constituency) (station : Station) → AreDistinct (constituency_codes setup)
    → station_with code setup ≡ Some (con, station) → constituency_with con.code setup ≡ Some con
own-con [] code con station distinct is = cc
own-con (c ∷ setup) code con station distinct is =
    go (either-in code con c station c.stations (all_stations setup) is)
    (own-con setup code con station (pairs-rest (λ a b. a ≢ b) c.code (constituency_codes setup) distinct))
  where
    go : ((c ≡ con) × (station_in c code ≡ Some station)) ⊎ (station_with code setup ≡ Some (con, station))
        → (station_with code setup ≡ Some (con, station) → constituency_with con.code setup ≡ Some con) → constituency_with con.code (c ∷ setup) ≡ Some con
    go (inl here) later =
        ap (λ b. cond b (Some c) (constituency_with con.code setup)) ((bytes_eq-Decides con.code c.code).1 (ap (λ (x : Constituency). x.code) (sym here.0))) ∙ ap Some here.0
    go (inr behind) later = behind-found (λ (x : Constituency). x.code) con.code c setup con distinct (later behind)

-- the constituency of a station is the one of its code
pub station_with-con : (setup : List Constituency) (code : List ℕ) (con : Constituency) (station : Station) → IsSetup setup
    → station_with code setup ≡ Some (con, station) → constituency_with con.code setup ≡ Some con
station_with-con setup code con station is_setup = own-con setup code con station is_setup.codes

abbrev place_code : Constituency × Station → List ℕ
place_code place = place.1.code

-- a station found in a constituency is found there first, where others come after it
first-in : (code : List ℕ) (c : Constituency) (station : Station) (stations : List Station) (more : List (Constituency × Station))
    → station_of code stations ≡ Some station → place_with code (places c stations ++ more) ≡ Some (c, station)
first-in code c station [] more is = cc
first-in code c station (x ∷ stations) more is = go (bytes_eq code x.code) is (first-in code c station stations more)
  where
    go : (b : Bool) → cond b (Some x) (station_of code stations) ≡ Some station
        → (station_of code stations ≡ Some station → place_with code (places c stations ++ more) ≡ Some (c, station))
        → cond b (Some (c, x)) (place_with code (places c stations ++ more)) ≡ Some (c, station)
    go true some later = let same : x ≡ station = cc in ap (λ (y : Station). Some (c, y)) same
    go false some later = later some

-- a place found after the stations of a constituency is found in the whole, where codes differ
behind-in : (code : List ℕ) (c : Constituency) (stations : List Station) (more : List (Constituency × Station)) (place : Constituency × Station)
    → AreDistinct (map place_code (places c stations ++ more)) → place_with code more ≡ Some place → place_with code (places c stations ++ more) ≡ Some place
behind-in code c [] more place distinct is = is
behind-in code c (x ∷ stations) more place distinct is =
    behind-found place_code code (c, x) (places c stations ++ more) place distinct
    (behind-in code c stations more place (pairs-rest (λ a b. a ≢ b) x.code (map place_code (places c stations ++ more)) distinct) is)

rest-distinct : (c : Constituency) (stations : List Station) (more : List (Constituency × Station)) → AreDistinct (map place_code (places c stations ++ more)) → AreDistinct (map place_code more)
rest-distinct c [] more distinct = distinct
rest-distinct c (x ∷ stations) more distinct = rest-distinct c stations more (pairs-rest (λ a b. a ≢ b) x.code (map place_code (places c stations ++ more)) distinct)

in-con : (setup : List Constituency) (q code : List ℕ) (con : Constituency) (station : Station) → AreDistinct (all_station_codes setup)
    → constituency_with q setup ≡ Some con → station_in con code ≡ Some station → station_with code setup ≡ Some (con, station)
in-con [] q code con station distinct found is = cc
in-con (c ∷ setup) q code con station distinct found is = go (bytes_eq q c.code) found (in-con setup q code con station (rest-distinct c c.stations (all_stations setup) distinct))
  where
    go : (b : Bool) → cond b (Some c) (constituency_with q setup) ≡ Some con
        → (constituency_with q setup ≡ Some con → station_in con code ≡ Some station → station_with code setup ≡ Some (con, station))
        → station_with code (c ∷ setup) ≡ Some (con, station)
    go true some later =
        let same : con ≡ c = cc in
        let here : station_in c code ≡ Some station = subst (λ (x : Constituency). station_in x code ≡ Some station) same is in
        first-in code c station c.stations (all_stations setup) here ∙ ap (λ (x : Constituency). Some (x, station)) (sym same)
    go false some later = behind-in code c c.stations (all_stations setup) (con, station) distinct (later some is)

-- a station of a constituency of the setup is found in the setup
pub station_in-with : (setup : List Constituency) (q code : List ℕ) (con : Constituency) (station : Station) → IsSetup setup
    → constituency_with q setup ≡ Some con → station_in con code ≡ Some station → station_with code setup ≡ Some (con, station)
station_in-with setup q code con station is_setup = in-con setup q code con station is_setup.station_codes

-- a station of one constituency is none of another
pub station-elsewhere : (setup : List Constituency) (q code : List ℕ) (con other : Constituency) (station : Station) → IsSetup setup
    → station_with code setup ≡ Some (con, station) → constituency_with q setup ≡ Some other → other.code ≢ con.code → station_in other code ≡ None
station-elsewhere setup q code con other station is_setup is found apart = go (station_in other code) refl
  where
    go : (o : Option Station) → station_in other code ≡ o → o ≡ None
    go None there = refl
    go (Some x) there =
        let again : Some (other, x) ≡ Some (con, station) = sym (station_in-with setup q code other x is_setup found there) ∙ is in
        let same : (other, x) ≡ (con, station) = cc in
        absurd (apart (ap (λ (p : Constituency × Station). p.0.code) same))

-- ---- returns of stations

-- two maps have the same return at a station
abbrev pub IsSameAt : Returns → Returns → Station → Type 0
IsSameAt a b station = fin.get a station.code ≡ fin.get b station.code

-- a return that is put at another code leaves the returns of these stations
pub put-elsewhere : (returns : Returns) (code : List ℕ) (r : StationReturn) (stations : List Station) → find (λ (x : Station). bytes_eq code x.code) stations ≡ None
    → All (IsSameAt (fin.insert returns code r) returns) stations
put-elsewhere returns code r [] none = All-nil (IsSameAt (fin.insert returns code r) returns)
put-elsewhere returns code r (x ∷ stations) none = go (bytes_eq code x.code) refl none (put-elsewhere returns code r stations)
  where
    go : (b : Bool) → bytes_eq code x.code ≡ b → cond b (Some x) (station_of code stations) ≡ None
        → (station_of code stations ≡ None → All (IsSameAt (fin.insert returns code r) returns) stations) → All (IsSameAt (fin.insert returns code r) returns) (x ∷ stations)
    go true tied some later = cc
    go false untied some later =
        All-cons (IsSameAt (fin.insert returns code r) returns) x stations
        (get-kept returns code r x.code (λ same. let tied : bytes_eq code x.code ≡ true = (bytes_eq-Decides code x.code).1 (sym same) in cc))
        (later some)

-- whether a return is closed
abbrev pub closed_now : Option StationReturn → Bool
closed_now found = option_map_or (λ (standing : StationReturn). is_closed standing.status) found false

-- whether the return is of such a status
abbrev is_in : (Status → Bool) → Returns → Station → Bool
is_in is_status returns station = option_map_or (λ (standing : StationReturn). is_status standing.status) (fin.get returns station.code) false

-- where the returns of stations are the same, as many are of a status
pub stations_in-same : (is_status : Status → Bool) (a b : Returns) (stations : List Station) → All (IsSameAt a b) stations → count_with_status is_status a stations ≡ count_with_status is_status b stations
stations_in-same is_status a b [] all = refl
stations_in-same is_status a b (x ∷ stations) all =
    sum_by-cons (λ (y : Station). cond (is_in is_status a y) 1 0) x stations
    ∙ ap (λ found. cond (option_map_or (λ (standing : StationReturn). is_status standing.status) found false) 1 0 + count_with_status is_status a stations) (All-head (IsSameAt a b) x stations all)
    ∙ ap (λ n. cond (is_in is_status b x) 1 0 + n) (stations_in-same is_status a b stations (All-tail (IsSameAt a b) x stations all))
    ∙ sym (sum_by-cons (λ (y : Station). cond (is_in is_status b y) 1 0) x stations)

-- and their closed counts are the same
pub closed_counts-same : (a b : Returns) (stations : List Station) → All (IsSameAt a b) stations → closed_counts a stations ≡ closed_counts b stations
closed_counts-same a b [] all = refl
closed_counts-same a b (x ∷ stations) all =
    ap (λ found. counts_if_closed found ++ closed_counts a stations) (All-head (IsSameAt a b) x stations all)
    ∙ ap (λ counts. counts_if_closed (fin.get b x.code) ++ counts) (closed_counts-same a b stations (All-tail (IsSameAt a b) x stations all))

-- what is seen of a constituency, by how many of its returns are in
-- each status and by the counts of the closed ones
abbrev seen : Constituency → ConState → List ℕ → ℕ → ℕ → ℕ → ℕ → List VoteCounts → View
seen con c seats received queried corrected closed counts = record {
  edition = c.edition;
  certified = c.certified;
  note = c.note;
  lot = c.lot;
  stations = length con.stations;
  received = received;
  queried = queried;
  corrected = corrected;
  closed = closed;
  votes = votes_of_lists (length con.lists) counts;
  blank = blank_of counts;
  spoiled = spoiled_of counts;
  seats = seats;
  gone = gone_candidates c.gone;
  past = past_records c.past;
}

-- where the returns of its stations are the same, the same is seen of a constituency
pub view_with-same : (con : Constituency) (c : ConState) (a b : Returns) (seats : List ℕ) → All (IsSameAt a b) con.stations → view_with con c a seats ≡ view_with con c b seats
view_with-same con c a b seats all =
    let in_status = λ (is_status : Status → Bool) (returns : Returns). count_with_status is_status returns con.stations in
    ap (λ n. seen con c seats n (in_status is_queried a) (in_status is_corrected a) (in_status is_closed a) (closed_counts a con.stations)) (stations_in-same is_received a b con.stations all)
    ∙ ap (λ n. seen con c seats (in_status is_received b) n (in_status is_corrected a) (in_status is_closed a) (closed_counts a con.stations)) (stations_in-same is_queried a b con.stations all)
    ∙ ap (λ n. seen con c seats (in_status is_received b) (in_status is_queried b) n (in_status is_closed a) (closed_counts a con.stations)) (stations_in-same is_corrected a b con.stations all)
    ∙ ap (λ n. seen con c seats (in_status is_received b) (in_status is_queried b) (in_status is_corrected b) n (closed_counts a con.stations)) (stations_in-same is_closed a b con.stations all)
    ∙ ap (λ counts. seen con c seats (in_status is_received b) (in_status is_queried b) (in_status is_corrected b) (in_status is_closed b) counts) (closed_counts-same a b con.stations all)

-- all stations are counted only where each has a closed return
pub all_closed-each : (returns : Returns) (stations : List Station) → count_with_status is_closed returns stations ≡ length stations → All (λ (x : Station). closed_now (fin.get returns x.code) ≡ true) stations
all_closed-each returns [] all = All-nil (λ (x : Station). closed_now (fin.get returns x.code) ≡ true)
all_closed-each returns (x ∷ stations) all =
    go (closed_now (fin.get returns x.code)) refl (sym (sum_by-cons (λ (y : Station). cond (closed_now (fin.get returns y.code)) 1 0) x stations) ∙ all) (all_closed-each returns stations)
  where
    go : (b : Bool) → closed_now (fin.get returns x.code) ≡ b → cond b 1 0 + count_with_status is_closed returns stations ≡ suc (length stations)
        → (count_with_status is_closed returns stations ≡ length stations → All (λ (y : Station). closed_now (fin.get returns y.code) ≡ true) stations)
        → All (λ (y : Station). closed_now (fin.get returns y.code) ≡ true) (x ∷ stations)
    go true closed count later = All-cons (λ (y : Station). closed_now (fin.get returns y.code) ≡ true) x stations closed (later (omega (arith, count)))
    go false not_closed count later = absurd (omega (arith, count, count_by-le-length (λ (y : Station). closed_now (fin.get returns y.code)) stations))

-- where all stations are counted, the return of each is closed
pub all_closed-at : (con : Constituency) (returns : Returns) (code : List ℕ) (station : Station) → count_with_status is_closed returns con.stations ≡ length con.stations
    → station_in con code ≡ Some station → closed_now (fin.get returns code) ≡ true
all_closed-at con returns code station all is =
    let same : code ≡ station.code = (bytes_eq-Decides code station.code).0 (found-passes (λ (x : Station). bytes_eq code x.code) con.stations station is) in
    subst (λ q. closed_now (fin.get returns q) ≡ true) (sym same)
    (found-All (λ (x : Station). closed_now (fin.get returns x.code) ≡ true) (λ (x : Station). bytes_eq code x.code) con.stations station (all_closed-each returns con.stations all) is)
