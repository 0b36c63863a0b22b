-- Sums over stations that are moved by one return.
use Rattle.std.proofs.Common.{◌≡◌, ◌≤◌, ◌<◌, ◌+◌, ◌*◌, ◌∷◌, ◌∙◌, ℕ, List, [], Bool, true, false, cond, length, map, Option, Some, None, inl, inr, refl, sym, ap, subst, arith}
use Rattle.std.specs.Prelude.{slice_index, sum_by}
use Rattle.std.specs.List.{range_with_len}
use Rattle.std.specs.Option.{option_map_or}
use Rattle.std.specs.FinMap.{get}
use Rattle.std.specs.Str.{bytes_eq}
use Rattle.std.proofs.lemmas.List.{ext_get_or}
use Rattle.std.proofs.lemmas.List.FromFn.{get_or-map-range_with_len, length-map-range_with_len}
use Rattle.std.proofs.lemmas.List.Sums.{count_by-le-length, sum_by-append, sum_by-cons}
use Rattle.tally_setup.specs.Constituency.{Constituency, entitled}
use Rattle.tally_setup.specs.declared.constituency.Station.{Station}
use Rattle.tally_returns.specs.Counts.{VoteCounts}
use Rattle.tally_returns.specs.Progress.{is_received, is_queried, is_corrected, is_closed, count_with_status}
use Rattle.tally_returns.specs.Return.{StationReturn, Returns}
use Rattle.tally_returns.specs.State.{ConState}
use Rattle.tally_returns.specs.View.{View, view_with, counts_if_closed, closed_counts, votes_at, votes_of_lists}
use Rattle.tally_returns.specs.declared.returns.Status.{Status}
use Rattle.tally_keeper.specs.MovedSum.{moved_sum, CanMove}
use Rattle.tally_keeper.specs.internal.Sums.{CanMoveOne, CanMoveCounts, CanCount, moved_count, with_status, with_counts, with_return_counted}
use Rattle.tally_setup.proofs.NamedLemmas.{Has, Apart, Differ, apart-has, bytes_flipped, code_of_station}

-- a list that has at each place what a function gives
pub mapped-is : (xs : List ℕ) (f : ℕ → ℕ) (n : ℕ) → length xs ≡ n → ((k : ℕ) → k < n → slice_index xs k ≡ f k) → xs ≡ map f (range_with_len 0 n)
mapped-is xs f n long each =
    ext_get_or 0 xs (map f (range_with_len 0 n)) (long ∙ sym (length-map-range_with_len f 0 n))
    (λ k less. let within : k < n = omega (arith, less, long) in each k within ∙ sym (get_or-map-range_with_len f 0 n k k 0 within (omega arith)))

pub mapped-same : (f g : ℕ → ℕ) (n : ℕ) → ((k : ℕ) → k < n → f k ≡ g k) → map f (range_with_len 0 n) ≡ map g (range_with_len 0 n)
mapped-same f g n each =
    mapped-is (map f (range_with_len 0 n)) g n (length-map-range_with_len f 0 n) (λ k within. get_or-map-range_with_len f 0 n k k 0 within (omega arith) ∙ each k within)

-- a return that can be counted, with its status counted already
pub counts-after_status : (view : View) (status : Status) (counts : VoteCounts) (add : Bool) → CanMoveCounts view counts add → CanMoveCounts (with_status view status add) counts add
counts-after_status view status counts add can = record { lists = can.lists; votes = can.votes; blank = can.blank; spoiled = can.spoiled }

-- ---- sums over stations of one term for each return

abbrev pub total : (Option StationReturn → ℕ) → Returns → List Station → ℕ
total g returns [] = 0
total g returns (station ∷ stations) = g (get returns station.code) + total g returns stations

-- whether there is a return of such a status
abbrev pub one_if : (Status → Bool) → Option StationReturn → ℕ
one_if is_status found = cond (option_map_or (λ (standing : StationReturn). is_status standing.status) found false) 1 0

-- a number of each closed return
abbrev pub if_closed : (VoteCounts → ℕ) → Option StationReturn → ℕ
if_closed f found = sum_by f (counts_if_closed found)

pub stations_in-total : (is_status : Status → Bool) (returns : Returns) (stations : List Station) → count_with_status is_status returns stations ≡ total (one_if is_status) returns stations
stations_in-total is_status returns [] = refl
stations_in-total is_status returns (x ∷ stations) =
    sum_by-cons (λ (station : Station). one_if is_status (get returns station.code)) x stations
    ∙ ap (λ n. one_if is_status (get returns x.code) + n) (stations_in-total is_status returns stations)

pub closed-total : (f : VoteCounts → ℕ) (returns : Returns) (stations : List Station) → sum_by f (closed_counts returns stations) ≡ total (if_closed f) returns stations
closed-total f returns [] = refl
closed-total f returns (x ∷ stations) =
    sum_by-append f (counts_if_closed (get returns x.code)) (closed_counts returns stations)
    ∙ ap (λ n. if_closed f (get returns x.code) + n) (closed-total f returns stations)

-- ---- two maps of returns of which the one has one return more

pub record IsPut (without with_it : Returns) (code : List ℕ) (standing : StationReturn) : Type 0 where
  pub none : get without code ≡ None
  pub some : get with_it code ≡ Some standing
  pub others : (q : List ℕ) → bytes_eq code q ≡ false → get with_it q ≡ get without q

pub total-apart : (g : Option StationReturn → ℕ) (without with_it : Returns) (code : List ℕ) (standing : StationReturn) (stations : List Station)
    → IsPut without with_it code standing → Apart code_of_station code stations → total g with_it stations ≡ total g without stations
total-apart g without with_it code standing [] put apart = refl
total-apart g without with_it code standing (x ∷ stations) put apart =
    let here : g (get with_it x.code) ≡ g (get without x.code) = ap g (put.others x.code apart.0) in
    let rest = total-apart g without with_it code standing stations put apart.1 in
    omega (arith, here, rest)

pub total-put : (g : Option StationReturn → ℕ) → g None ≡ 0 → (without with_it : Returns) (code : List ℕ) (standing : StationReturn) (stations : List Station) (station : Station)
    → IsPut without with_it code standing → Differ code_of_station stations → Has station stations → code ≡ station.code
    → total g with_it stations ≡ total g without stations + g (Some standing)
total-put g zero without with_it code standing [] station put differ has is = absurd has
total-put g zero without with_it code standing (x ∷ stations) station put differ (inl same) is =
    let at : code ≡ x.code = is ∙ ap (λ (s : Station). s.code) (sym same) in
    let here : g (get with_it x.code) ≡ g (Some standing) = ap (λ q. g (get with_it q)) (sym at) ∙ ap g put.some in
    let there : g (get without x.code) ≡ 0 = ap (λ q. g (get without q)) (sym at) ∙ ap g put.none ∙ zero in
    let apart : Apart code_of_station code stations = subst (λ q. Apart code_of_station q stations) (sym at) differ.0 in
    let rest = total-apart g without with_it code standing stations put apart in
    omega (arith, here, there, rest)
total-put g zero without with_it code standing (x ∷ stations) station put differ (inr has) is =
    let apart : bytes_eq code x.code ≡ false = ap (λ q. bytes_eq q x.code) is ∙ bytes_flipped x.code station.code (apart-has code_of_station x.code stations station differ.0 has) in
    let here : g (get with_it x.code) ≡ g (get without x.code) = ap g (put.others x.code apart) in
    let rest = total-put g zero without with_it code standing stations station put differ.1 has is in
    omega (arith, here, rest)

pub total-le : (g : Option StationReturn → ℕ) (returns : Returns) (stations : List Station) → ((station : Station) → Has station stations → g (get returns station.code) ≤ entitled station)
    → total g returns stations ≤ sum_by entitled stations
total-le g returns [] each = omega arith
total-le g returns (x ∷ stations) each =
    let here = each x (inl refl) in
    let rest = total-le g returns stations (λ station has. each station (inr has)) in
    omega (arith, here, rest, sum_by-cons entitled x stations)

-- ---- what is seen of a constituency whose returns differ in one

-- each sum over the stations is moved by the term of one return, and can be
pub record IsMoved (stations : List Station) (old new : Returns) (standing : StationReturn) (add : Bool) : Type 0 where
  pub moves : (g : Option StationReturn → ℕ) → g None ≡ 0 → moved_sum (total g old stations) (g (Some standing)) add ≡ total g new stations
  pub can : (g : Option StationReturn → ℕ) → g None ≡ 0 → total g new stations ≤ 5000000000 → CanMove (total g old stations) (g (Some standing)) add

pub is_moved-put : (without with_it : Returns) (code : List ℕ) (standing : StationReturn) (stations : List Station) (station : Station)
    → IsPut without with_it code standing → Differ code_of_station stations → Has station stations → code ≡ station.code → IsMoved stations without with_it standing true
is_moved-put without with_it code standing stations station put differ has is = record {
  moves = λ g zero. sym (total-put g zero without with_it code standing stations station put differ has is);
  can = λ g zero few. let sum = total-put g zero without with_it code standing stations station put differ has is in omega (arith, sum, few);
}

pub is_moved-taken : (without with_it : Returns) (code : List ℕ) (standing : StationReturn) (stations : List Station) (station : Station)
    → IsPut without with_it code standing → Differ code_of_station stations → Has station stations → code ≡ station.code → IsMoved stations with_it without standing false
is_moved-taken without with_it code standing stations station put differ has is = record {
  moves = λ g zero. let sum = total-put g zero without with_it code standing stations station put differ has is in omega (arith, sum);
  can = λ g zero few. let sum = total-put g zero without with_it code standing stations station put differ has is in omega (arith, sum);
}

-- a sum of closed returns, where the return is closed and where it is not
closed-term : (f : VoteCounts → ℕ) (standing : StationReturn) → is_closed standing.status ≡ true → if_closed f (Some standing) ≡ f standing.counts
closed-term f standing closed = ap (λ b. sum_by f (cond b (standing.counts ∷ []) [])) closed ∙ sum_by-cons f standing.counts [] ∙ plus (f standing.counts)
  where
    plus : (n : ℕ) → n + 0 ≡ n
    plus n = omega arith

open-term : (f : VoteCounts → ℕ) (standing : StationReturn) → is_closed standing.status ≡ false → if_closed f (Some standing) ≡ 0
open-term f standing still = ap (λ b. sum_by f (cond b (standing.counts ∷ []) [])) still

moved-zero : (n m by : ℕ) (add : Bool) → by ≡ 0 → moved_sum n by add ≡ m → n ≡ m
moved-zero n m by true zero is = omega (arith, zero, is)
moved-zero n m by false zero is = omega (arith, zero, is)

-- how many returns have a status
count-moved : (is_status : Status → Bool) (stations : List Station) (old new : Returns) (standing : StationReturn) (add : Bool) → IsMoved stations old new standing add
    → moved_count (is_status standing.status) (count_with_status is_status old stations) add ≡ count_with_status is_status new stations
count-moved is_status stations old new standing add moves =
    ap (λ n. moved_count (is_status standing.status) n add) (stations_in-total is_status old stations)
    ∙ by_status (is_status standing.status) refl ∙ sym (stations_in-total is_status new stations)
  where
    by_status : (b : Bool) → is_status standing.status ≡ b → moved_count b (total (one_if is_status) old stations) add ≡ total (one_if is_status) new stations
    by_status true is = ap (λ c. moved_sum (total (one_if is_status) old stations) (cond c 1 0) add) (sym is) ∙ moves.moves (one_if is_status) refl
    by_status false is =
        moved-zero (total (one_if is_status) old stations) (total (one_if is_status) new stations) (one_if is_status (Some standing)) add (ap (λ c. cond c 1 0) is) (moves.moves (one_if is_status) refl)

-- a sum of closed votes
closed-moved : (f : VoteCounts → ℕ) (stations : List Station) (old new : Returns) (standing : StationReturn) (add : Bool) → IsMoved stations old new standing add
    → is_closed standing.status ≡ true → moved_sum (sum_by f (closed_counts old stations)) (f standing.counts) add ≡ sum_by f (closed_counts new stations)
closed-moved f stations old new standing add moves closed =
    ap (λ n. moved_sum n (f standing.counts) add) (closed-total f old stations)
    ∙ ap (λ by. moved_sum (total (if_closed f) old stations) by add) (sym (closed-term f standing closed))
    ∙ moves.moves (if_closed f) refl ∙ sym (closed-total f new stations)

open-moved : (f : VoteCounts → ℕ) (stations : List Station) (old new : Returns) (standing : StationReturn) (add : Bool) → IsMoved stations old new standing add
    → is_closed standing.status ≡ false → sum_by f (closed_counts old stations) ≡ sum_by f (closed_counts new stations)
open-moved f stations old new standing add moves still =
    closed-total f old stations
    ∙ moved-zero (total (if_closed f) old stations) (total (if_closed f) new stations) (if_closed f (Some standing)) add (open-term f standing still) (moves.moves (if_closed f) refl)
    ∙ sym (closed-total f new stations)

-- the votes for the list at a place
abbrev pub at_place : ℕ → VoteCounts → ℕ
at_place place c = slice_index c.votes place

-- the view with the return counted, or counted no longer
pub view-moved : (con : Constituency) (c : ConState) (old new : Returns) (seats : List ℕ) (standing : StationReturn) (add : Bool) → IsMoved con.stations old new standing add
    → with_return_counted (view_with con c old seats) standing add ≡ view_with con c new seats
view-moved con c old new seats standing add moves = by_closed (is_closed standing.status) refl
  where
    status : with_status (view_with con c old seats) standing.status add ≡ record (view_with con c old seats) {
      received = count_with_status is_received new con.stations;
      queried = count_with_status is_queried new con.stations;
      corrected = count_with_status is_corrected new con.stations;
      closed = count_with_status is_closed new con.stations;
    }
    status = λ i. record (view_with con c old seats) {
      received = count-moved is_received con.stations old new standing add moves i;
      queried = count-moved is_queried con.stations old new standing add moves i;
      corrected = count-moved is_corrected con.stations old new standing add moves i;
      closed = count-moved is_closed con.stations old new standing add moves i;
    }

    long : length (votes_of_lists (length con.lists) (closed_counts old con.stations)) ≡ length con.lists
    long = length-map-range_with_len (votes_at (closed_counts old con.stations)) 0 (length con.lists)

    votes : is_closed standing.status ≡ true → map (λ place. moved_sum (slice_index (votes_of_lists (length con.lists) (closed_counts old con.stations)) place) (slice_index standing.counts.votes place) add)
        (range_with_len 0 (length (votes_of_lists (length con.lists) (closed_counts old con.stations)))) ≡ votes_of_lists (length con.lists) (closed_counts new con.stations)
    votes closed =
        ap (λ n. map (λ place. moved_sum (slice_index (votes_of_lists (length con.lists) (closed_counts old con.stations)) place) (slice_index standing.counts.votes place) add) (range_with_len 0 n)) long
        ∙ mapped-same (λ place. moved_sum (slice_index (votes_of_lists (length con.lists) (closed_counts old con.stations)) place) (slice_index standing.counts.votes place) add)
        (votes_at (closed_counts new con.stations)) (length con.lists) (λ place within.
        ap (λ n. moved_sum n (slice_index standing.counts.votes place) add) (get_or-map-range_with_len (votes_at (closed_counts old con.stations)) 0 (length con.lists) place place 0 within (omega arith))
        ∙ closed-moved (at_place place) con.stations old new standing add moves closed)

    by_closed : (b : Bool) → is_closed standing.status ≡ b
        → cond b (with_counts (with_status (view_with con c old seats) standing.status add) standing.counts add) (with_status (view_with con c old seats) standing.status add) ≡ view_with con c new seats
    by_closed true closed = ap (λ (v : View). with_counts v standing.counts add) status ∙ (λ i. record (view_with con c new seats) {
      votes = votes closed i;
      blank = closed-moved (λ (n : VoteCounts). n.blank) con.stations old new standing add moves closed i;
      spoiled = closed-moved (λ (n : VoteCounts). n.spoiled) con.stations old new standing add moves closed i;
    })
    by_closed false still = status ∙ (λ i. record (view_with con c new seats) {
      votes = mapped-same (votes_at (closed_counts old con.stations)) (votes_at (closed_counts new con.stations)) (length con.lists) (λ place within. open-moved (at_place place) con.stations old new standing add moves still) i;
      blank = open-moved (λ (n : VoteCounts). n.blank) con.stations old new standing add moves still i;
      spoiled = open-moved (λ (n : VoteCounts). n.spoiled) con.stations old new standing add moves still i;
    })

-- where the return is of no station of the constituency, all is as it was
pub view-same : (con : Constituency) (c : ConState) (old new : Returns) (seats : List ℕ) → ((g : Option StationReturn → ℕ) → total g old con.stations ≡ total g new con.stations)
    → view_with con c old seats ≡ view_with con c new seats
view-same con c old new seats same = λ i. record (view_with con c old seats) {
  received = count is_received i;
  queried = count is_queried i;
  corrected = count is_corrected i;
  closed = count is_closed i;
  votes = mapped-same (votes_at (closed_counts old con.stations)) (votes_at (closed_counts new con.stations)) (length con.lists) (λ place within. votes (at_place place)) i;
  blank = votes (λ (n : VoteCounts). n.blank) i;
  spoiled = votes (λ (n : VoteCounts). n.spoiled) i;
}
  where
    count : (is_status : Status → Bool) → count_with_status is_status old con.stations ≡ count_with_status is_status new con.stations
    count is_status = stations_in-total is_status old con.stations ∙ same (one_if is_status) ∙ sym (stations_in-total is_status new con.stations)

    votes : (f : VoteCounts → ℕ) → sum_by f (closed_counts old con.stations) ≡ sum_by f (closed_counts new con.stations)
    votes f = closed-total f old con.stations ∙ same (if_closed f) ∙ sym (closed-total f new con.stations)

-- ---- the numbers can be moved

-- each closed return's number is at most that of those who may vote at its station
abbrev pub AreFew : List Station → Returns → (VoteCounts → ℕ) → Type 0
AreFew stations returns f = (station : Station) → Has station stations → if_closed f (get returns station.code) ≤ entitled station

can-one : (is_status : Status → Bool) (stations : List Station) (old new : Returns) (standing : StationReturn) (add : Bool) → IsMoved stations old new standing add
    → length stations ≤ 20000 → CanMoveOne (is_status standing.status) (count_with_status is_status old stations) add
can-one is_status stations old new standing add moves few = record {
  few = most old;
  can = λ is.
      let here = moves.can (one_if is_status) refl (subst (λ n. n ≤ 5000000000) (stations_in-total is_status new stations) (at_most (most new))) in
      subst (λ n. CanMove n 1 add) (sym (stations_in-total is_status old stations)) (subst (λ b. CanMove (total (one_if is_status) old stations) (cond b 1 0) add) is here);
}
  where
    most : (returns : Returns) → count_with_status is_status returns stations ≤ 20000
    most returns =
        let all : count_with_status is_status returns stations ≤ length stations = count_by-le-length (λ (station : Station). option_map_or (λ (standing : StationReturn). is_status standing.status) (get returns station.code) false) stations in
        omega (arith, all, few)

    at_most : {n : ℕ} → n ≤ 20000 → n ≤ 5000000000
    at_most h = omega (arith, h)

can-sum : (f : VoteCounts → ℕ) (stations : List Station) (old new : Returns) (standing : StationReturn) (add : Bool) → IsMoved stations old new standing add
    → sum_by entitled stations ≤ 5000000000 → AreFew stations new f → is_closed standing.status ≡ true → CanMove (sum_by f (closed_counts old stations)) (f standing.counts) add
can-sum f stations old new standing add moves few within closed =
    let most : total (if_closed f) new stations ≤ 5000000000 = let all = total-le (if_closed f) new stations within in omega (arith, all, few) in
    let here = moves.can (if_closed f) refl most in
    subst (λ n. CanMove n (f standing.counts) add) (sym (closed-total f old stations)) (subst (λ by. CanMove (total (if_closed f) old stations) by add) (closed-term f standing closed) here)

pub can-count : (con : Constituency) (c : ConState) (old new : Returns) (seats : List ℕ) (standing : StationReturn) (add : Bool) → IsMoved con.stations old new standing add
    → length con.stations ≤ 20000 → sum_by entitled con.stations ≤ 5000000000 → length standing.counts.votes ≡ length con.lists
    → ((place : ℕ) → place < length con.lists → AreFew con.stations new (at_place place)) → AreFew con.stations new (λ (n : VoteCounts). n.blank) → AreFew con.stations new (λ (n : VoteCounts). n.spoiled)
    → CanCount (view_with con c old seats) standing add
can-count con c old new seats standing add moves few all lists votes blank spoiled = record {
  status = record {
    received = can-one is_received con.stations old new standing add moves few;
    queried = can-one is_queried con.stations old new standing add moves few;
    corrected = can-one is_corrected con.stations old new standing add moves few;
    closed = can-one is_closed con.stations old new standing add moves few;
  };
  counts = λ closed. record {
    lists = lists ∙ sym long;
    votes = λ place within.
        let less : place < length con.lists = omega (arith, within, long) in
        subst (λ n. CanMove n (slice_index standing.counts.votes place) add) (sym (get_or-map-range_with_len (votes_at (closed_counts old con.stations)) 0 (length con.lists) place place 0 less (omega arith)))
        (can-sum (at_place place) con.stations old new standing add moves all (votes place less) closed);
    blank = can-sum (λ (n : VoteCounts). n.blank) con.stations old new standing add moves all blank closed;
    spoiled = can-sum (λ (n : VoteCounts). n.spoiled) con.stations old new standing add moves all spoiled closed;
  };
}
  where
    long : length (votes_of_lists (length con.lists) (closed_counts old con.stations)) ≡ length con.lists
    long = length-map-range_with_len (votes_at (closed_counts old con.stations)) 0 (length con.lists)
