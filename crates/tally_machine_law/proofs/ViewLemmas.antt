-- What is seen of a constituency in a lawful state is a lawful view.
use Rattle.std.proofs.Common.{◌≡◌, ◌≤◌, ◌∙◌, ◌+◌, ◌*◌, ◌∷◌, ℕ, zero, suc, List, [], Bool, true, false, cond, map, length, get_or, Option, Some, None, inl, inr, refl, sym, ap, subst, arith}
use Rattle.std.specs.Prelude.{All, sum, sum_by, option_map, slice_index}
use Rattle.std.specs.FinMap.{get}
use Rattle.std.specs.List.{find, range_with_len}
use Rattle.std.specs.Option.{ForSome}
use Rattle.std.specs.Str.{bytes_eq}
use Rattle.std.proofs.lemmas.List.Elements.{All-head, All-tail}
use Rattle.std.proofs.lemmas.List.FromFn.{length-map-range_with_len, sum_by-map-range_with_len_more}
use Rattle.std.proofs.lemmas.List.Sums.{count_by-le-length, sum_by-append, sum_by-cons}
use Rattle.std.proofs.lemmas.Slice.Eq.{bytes_eq-Decides}
use Rattle.tally_setup.specs.Constituency.{Constituency, entitled}
use Rattle.tally_setup.specs.Limits.{IsConstituency, IsSetup}
use Rattle.tally_setup.specs.Setup.{constituency_with}
use Rattle.tally_setup.specs.Threshold.{IsWithinVotes}
use Rattle.tally_setup.specs.declared.constituency.Station.{Station}
use Rattle.tally_machine_law.specs.Step.{IsView}
use Rattle.tally_returns.specs.Counts.{VoteCounts, all_votes}
use Rattle.tally_machine_law.specs.LawfulState.{IsLawfulState}
use Rattle.tally_returns.specs.Lawful.{IsLawful}
use Rattle.tally_returns.specs.Lodge.{StationLimits}
use Rattle.tally_machine_law.specs.Outcome.{HasSeats, IsLawfulView, poll_in, rule_in}
use Rattle.tally_returns.specs.Progress.{is_closed}
use Rattle.tally_returns.specs.Return.{StationReturn, Returns}
use Rattle.tally_returns.specs.Decide.{limits_of}
use Rattle.tally_returns.specs.State.{State, stations_of}
use Rattle.tally_returns.specs.View.{View, blank_of, closed_counts, counts_if_closed, view_of, votes_at}
use Rattle.tally_setup.proofs.NamedLemmas.{Has, con-found, station-only}
use Rattle.tally_machine_law.proofs.VacancyLemmas.{allotted-long}

-- ---- what was found

pub found-passes : {X : Type 0} (p : X → Bool) (xs : List X) (x : X) → find p xs ≡ Some x → p x ≡ true
found-passes p [] x is = cc
found-passes p (y ∷ ys) x is = by_cases (p y) refl is (found-passes p ys x)
  where
    by_cases : (b : Bool) → p y ≡ b → cond b (Some y) (find p ys) ≡ Some x → (find p ys ≡ Some x → p x ≡ true) → p x ≡ true
    by_cases true passes is later =
        let same : y ≡ x = cc in
        ap p (sym same) ∙ passes
    by_cases false fails is later = later is

pub found-has : {X : Type 0} (P : X → Type 0) (p : X → Bool) (xs : List X) (x : X) → All P xs → find p xs ≡ Some x → P x
found-has P p [] x all is = cc
found-has P p (y ∷ ys) x all is = by_cases (p y) is (found-has P p ys x (All-tail P y ys all))
  where
    by_cases : (b : Bool) → cond b (Some y) (find p ys) ≡ Some x → (find p ys ≡ Some x → P x) → P x
    by_cases true is later =
        let same : y ≡ x = cc in
        subst P same (All-head P y ys all)
    by_cases false is later = later is

-- the constituency of a code has that code
pub constituency-code : (setup : List Constituency) (code : List ℕ) (con : Constituency) → constituency_with code setup ≡ Some con → code ≡ con.code
constituency-code setup code con is = (bytes_eq-Decides code con.code).0 (found-passes (λ (c : Constituency). bytes_eq code c.code) setup con is)

-- and keeps the limits of a setup
pub constituency-limits : (setup : List Constituency) (code : List ℕ) (con : Constituency) → IsSetup setup → constituency_with code setup ≡ Some con → IsConstituency con
constituency-limits setup code con ok is = found-has IsConstituency (λ (c : Constituency). bytes_eq code c.code) setup con ok.each_constituency is

-- ---- all votes together

-- f 0 + f 1 + .. up to n numbers
abbrev sum_before : (ℕ → ℕ) → ℕ → ℕ
sum_before f zero = 0
sum_before f (suc n) = sum_before f n + f n

sum-each : (f : ℕ → ℕ) (n : ℕ) → sum (map f (range_with_len 0 n)) ≡ sum_before f n
sum-each f zero = refl
sum-each f (suc n) =
    let more : suc n ≡ n + 1 = omega arith in
    ap (λ m. sum (map f (range_with_len 0 m))) more
    ∙ sum_by-map-range_with_len_more (λ x. x) f 0 n n (omega arith)
    ∙ ap (λ s. s + f n) (sum-each f n)

sum_before-shift : (f : ℕ → ℕ) (n : ℕ) → sum_before f (suc n) ≡ f 0 + sum_before (λ i. f (suc i)) n
sum_before-shift f zero = omega arith
sum_before-shift f (suc n) = omega (arith, sum_before-shift f n)

sum_before-add : (f g h : ℕ → ℕ) (n : ℕ) → ((i : ℕ) → f i ≡ g i + h i) → sum_before f n ≡ sum_before g n + sum_before h n
sum_before-add f g h zero e = omega arith
sum_before-add f g h (suc n) e = omega (arith, e n, sum_before-add f g h n e)

no_numbers : (n : ℕ) → sum_before (λ (i : ℕ). 0) n ≡ 0
no_numbers zero = refl
no_numbers (suc n) = omega (arith, no_numbers n)

-- the first numbers of a list are within its sum
first-within : (xs : List ℕ) (n : ℕ) → sum_before (λ i. get_or xs i 0) n ≤ sum xs
first-within [] n = omega (arith, no_numbers n)
first-within (x ∷ xs) zero = omega arith
first-within (x ∷ xs) (suc n) = omega (arith, sum_before-shift (λ i. get_or (x ∷ xs) i 0) n, first-within xs n, sum_by-cons (λ (y : ℕ). y) x xs)

-- the votes of the lists and the blank ones are within all that were cast
votes-cast : (n : ℕ) (counts : List VoteCounts) → sum_before (votes_at counts) n + blank_of counts ≤ sum_by all_votes counts
votes-cast n [] = omega (arith, no_numbers n)
votes-cast n (c ∷ counts) =
    let apart = sum_before-add (votes_at (c ∷ counts)) (λ i. get_or c.votes i 0) (votes_at counts) n (λ i. sum_by-cons (λ (d : VoteCounts). slice_index d.votes i) c counts) in
    omega (
      arith,
      apart,
      first-within c.votes n,
      votes-cast n counts,
      sum_by-cons (λ (d : VoteCounts). d.blank) c counts,
      sum_by-cons all_votes c counts,
    )

-- the return of a station, if it has one, has at most as many votes as may vote there
abbrev HasFewVotes : Returns → Station → Type 0
HasFewVotes returns station = ForSome (get returns station.code) (λ standing. all_votes standing.counts ≤ entitled station)

one-within : (found : Option StationReturn) (most : ℕ) → ForSome found (λ standing. all_votes standing.counts ≤ most) → sum_by all_votes (counts_if_closed found) ≤ most
one-within None most few = omega arith
one-within (Some standing) most few = by_cases (is_closed standing.status)
  where
    by_cases : (b : Bool) → sum_by all_votes (cond b (standing.counts ∷ []) []) ≤ most
    by_cases true = omega (arith, few standing refl)
    by_cases false = omega arith

cast-within : (returns : Returns) (stations : List Station) → ((station : Station) → Has station stations → HasFewVotes returns station)
    → sum_by all_votes (closed_counts returns stations) ≤ sum_by entitled stations
cast-within returns [] few = omega arith
cast-within returns (station ∷ stations) few =
    omega (
      arith,
      sum_by-append all_votes (counts_if_closed (get returns station.code)) (closed_counts returns stations),
      sum_by-cons entitled station stations,
      one-within (get returns station.code) (entitled station) (few station (inl refl)),
      cast-within returns stations (λ other has. few other (inr has)),
    )

few-each : (setup : List Constituency) (s : State) (con : Constituency) → IsSetup setup → IsLawfulState setup s → Has con setup
    → (station : Station) → Has station con.stations → HasFewVotes s.returns station
few-each setup s con ok lawful has station stands standing some =
    let found = lawful.stations station.code standing some in
    let known : stations_of setup station.code ≡ Some (limits_of con station) =
    ap (option_map (λ (place : Constituency × Station). limits_of place.0 place.1)) (station-only setup con station ok has stands) in
    let same : found.0 ≡ limits_of con station = cc in
    (subst (λ (l : StationLimits). IsLawful l standing) same found.2).votes

-- ---- the view

-- its votes are within their limit
view-votes : (setup : List Constituency) (s : State) (code : List ℕ) (con : Constituency) (seats : List ℕ) → IsSetup setup → IsLawfulState setup s → constituency_with code setup ≡ Some con
    → IsWithinVotes (view_of con s seats).votes (view_of con s seats).blank
view-votes setup s code con seats ok lawful is =
    let limits = constituency-limits setup code con ok is in
    let counts = closed_counts s.returns con.stations in
    omega (
      arith,
      sum-each (votes_at counts) (length con.lists),
      votes-cast (length con.lists) counts,
      cast-within s.returns con.stations (few-each setup s con ok lawful (con-found setup code con is).1),
      limits.entitled,
    )

-- where it is certified, there are seats for each list
seats-long : (con : Constituency) (view : View) → view.certified ≡ true → HasSeats con view view.certified → length view.seats ≡ length view.votes
seats-long con view certified has =
    let allotment = subst (λ (b : Bool). HasSeats con view b) certified has in
    allotted-long (rule_in con) (poll_in con view) view.lot con.seats view.seats allotment.2

pub view-lawful : (setup : List Constituency) (s : State) (code : List ℕ) (con : Constituency) (view : View) → IsSetup setup → IsLawfulState setup s → constituency_with code setup ≡ Some con → IsView con s view
    → IsLawfulView con view
view-lawful setup s code con view ok lawful is seen =
    let here = lawful.cons code con is in
    let has : HasSeats con (view_of con s view.seats) (view_of con s view.seats).certified = subst (λ (v : View). HasSeats con v v.certified) seen.0 seen.1 in
    let lists : length (view_of con s view.seats).votes ≡ length con.lists = length-map-range_with_len (votes_at (closed_counts s.returns con.stations)) 0 (length con.lists) in
    let its : IsLawfulView con (view_of con s view.seats) = record {
      fits = record {
        lists = lists;
        votes = view-votes setup s code con view.seats ok lawful is;
        edition = here.seen.last;
        stations = count_by-le-length _ con.stations;
        seats = λ certified. seats-long con (view_of con s view.seats) certified has ∙ lists;
        past = λ k d lt. (here.seen.past k d lt).lists;
      };
      few = (constituency-limits setup code con ok is).stations;
      lawful = record {
        first = here.seen.first;
        last = here.seen.last;
        note = here.seen.note;
        lot = here.seen.lot;
        certified = here.seen.certified;
        gone = here.seen.gone;
        past = here.seen.past;
      };
      seats = has;
    } in
    subst (IsLawfulView con) (sym seen.0) its
