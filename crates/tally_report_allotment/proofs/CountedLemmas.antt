-- The sums of the returns that are counted, and their limits.
use Rattle.std.proofs.Common.{◌≡◌, ◌≤◌, ◌<◌, ◌⊎◌, ◌∙◌, ◌+◌, ◌∷◌, ℕ, zero, suc, List, [], true, map, length, get_or, sum, Option, Some, None, inl, inr, refl, ap, arith}
use Rattle.std.specs.Prelude.{sum_by, slice_index}
use Rattle.std.specs.List.{range_with_len}
use Rattle.std.proofs.lemmas.Bool.{cases_lt}
use Rattle.std.proofs.lemmas.List.{get_or_past}
use Rattle.std.proofs.lemmas.List.FromFn.{length-map-range_with_len, sum_by-map-range_with_len_more}
use Rattle.std.proofs.lemmas.List.Sums.{sum_by-append, sum_by-cons}
use Rattle.tally_law.specs.Conditions.{AreLimitsKept}
use Rattle.tally_setup.specs.Constituency.{Constituency, entitled}
use Rattle.tally_setup.specs.Limits.{IsConstituency}
use Rattle.tally_setup.specs.Threshold.{IsWithinVotes}
use Rattle.tally_setup.specs.declared.constituency.Station.{Station}
use Rattle.tally_returns.specs.Counts.{VoteCounts, all_votes, are_counts}
use Rattle.tally_returns.specs.View.{blank_of, votes_at}
use Rattle.tally_report_allotment.specs.Recount.{AreReturnsOf, counted, if_counted, votes_counted}
use Rattle.tally_report_allotment.specs.internal.Counting.{AreForLists}

-- each return counts as one
pub one-each : (counts : List VoteCounts) → sum_by (λ (c : VoteCounts). 1) counts ≡ length counts
one-each [] = refl
one-each (c ∷ counts) = omega (arith, sum_by-cons (λ (d : VoteCounts). 1) c counts, one-each counts)

-- each of the returns of a constituency is for its lists
nobody : Station
nobody = record { code = []; electors = 0; agents = 0 }

pub for-lists : (con : Constituency) (returns : List (Option VoteCounts)) → AreReturnsOf con returns → AreForLists (length con.lists) returns
for-lists con returns are place c is = by_place (cases_lt place (length con.stations))
  where
    by_place : (place < length con.stations) ⊎ (length con.stations ≤ place) → are_counts (length con.lists) c ≡ true
    by_place (inl lt) = (are.lawful place nobody c lt is).counts
    by_place (inr ge) = let none : get_or returns place None ≡ None = get_or_past returns place None (omega (arith, ge, are.one_each)) in cc

-- ---- all votes together

abbrev sum_before : (ℕ → ℕ) → ℕ → ℕ
sum_before f zero = 0
sum_before f (suc n) = sum_before f n + f n

sum-each : (f : ℕ → ℕ) (n : ℕ) → sum (map f (range_with_len 0 n)) ≡ sum_before f n
sum-each f zero = refl
sum-each f (suc n) =
    let more : suc n ≡ n + 1 = omega arith in
    ap (λ m. sum (map f (range_with_len 0 m))) more
    ∙ sum_by-map-range_with_len_more (λ x. x) f 0 n n (omega arith)
    ∙ ap (λ s. s + f n) (sum-each f n)

sum_before-shift : (f : ℕ → ℕ) (n : ℕ) → sum_before f (suc n) ≡ f 0 + sum_before (λ i. f (suc i)) n
sum_before-shift f zero = omega arith
sum_before-shift f (suc n) = omega (arith, sum_before-shift f n)

sum_before-add : (f g h : ℕ → ℕ) (n : ℕ) → ((i : ℕ) → f i ≡ g i + h i) → sum_before f n ≡ sum_before g n + sum_before h n
sum_before-add f g h zero e = omega arith
sum_before-add f g h (suc n) e = omega (arith, e n, sum_before-add f g h n e)

no_numbers : (n : ℕ) → sum_before (λ (i : ℕ). 0) n ≡ 0
no_numbers zero = refl
no_numbers (suc n) = omega (arith, no_numbers n)

first-within : (xs : List ℕ) (n : ℕ) → sum_before (λ i. get_or xs i 0) n ≤ sum xs
first-within [] n = omega (arith, no_numbers n)
first-within (x ∷ xs) zero = omega arith
first-within (x ∷ xs) (suc n) = omega (arith, sum_before-shift (λ i. get_or (x ∷ xs) i 0) n, first-within xs n, sum_by-cons (λ (y : ℕ). y) x xs)

-- the votes of the lists and the blank ones are within all that were cast
votes-cast : (n : ℕ) (counts : List VoteCounts) → sum_before (votes_at counts) n + blank_of counts ≤ sum_by all_votes counts
votes-cast n [] = omega (arith, no_numbers n)
votes-cast n (c ∷ counts) =
    let apart = sum_before-add (votes_at (c ∷ counts)) (λ i. get_or c.votes i 0) (votes_at counts) n (λ i. sum_by-cons (λ (d : VoteCounts). slice_index d.votes i) c counts) in
    omega (
      arith,
      apart,
      first-within c.votes n,
      votes-cast n counts,
      sum_by-cons (λ (d : VoteCounts). d.blank) c counts,
      sum_by-cons all_votes c counts,
    )

-- each return has at most as many votes as may vote at its station
abbrev AreFew : List Station → List (Option VoteCounts) → Type 0
AreFew stations returns = (place : ℕ) (station : Station) (c : VoteCounts) → place < length stations → get_or returns place None ≡ Some c → all_votes c ≤ entitled (get_or stations place station)

cast-within : (stations : List Station) (returns : List (Option VoteCounts)) → length returns ≡ length stations → AreFew stations returns → sum_by all_votes (counted returns) ≤ sum_by entitled stations
cast-within stations [] same few = omega arith
cast-within [] (found ∷ returns) same few = absurd (omega (arith, same))
cast-within (station ∷ stations) (found ∷ returns) same few =
    omega (
      arith,
      sum_by-append all_votes (if_counted found) (counted returns),
      sum_by-cons entitled station stations,
      one found (few 0 station),
      cast-within stations returns (omega (arith, same)) (λ place other c lt is. few (suc place) other c (omega (arith, lt)) is),
    )
  where
    one : (f : Option VoteCounts) → ((c : VoteCounts) → 0 < length (station ∷ stations) → f ≡ Some c → all_votes c ≤ entitled station) → sum_by all_votes (if_counted f) ≤ entitled station
    one None h = omega arith
    one (Some c) h = omega (arith, h c (omega arith) refl)

-- ---- the limits of an allotment of their votes

pub count-lists : (con : Constituency) (returns : List (Option VoteCounts)) → length (votes_counted con returns) ≡ length con.lists
count-lists con returns = length-map-range_with_len (votes_at (counted returns)) 0 (length con.lists)

pub few-votes : (con : Constituency) (returns : List (Option VoteCounts)) → IsConstituency con → AreReturnsOf con returns → IsWithinVotes (votes_counted con returns) (blank_of (counted returns))
few-votes con returns ok are =
    omega (
      arith,
      sum-each (votes_at (counted returns)) (length con.lists),
      votes-cast (length con.lists) (counted returns),
      cast-within con.stations returns are.one_each (λ place station c lt is. (are.lawful place station c lt is).votes),
      ok.entitled,
    )

pub limits : (con : Constituency) (returns : List (Option VoteCounts)) → IsConstituency con → AreReturnsOf con returns
    → AreLimitsKept con.profile con.seats (votes_counted con returns) (blank_of (counted returns))
limits con returns ok are = record {
  some_list = omega (arith, count-lists con returns, ok.some_list);
  few_lists = omega (arith, count-lists con returns, ok.lists);
  few_votes = few-votes con returns ok are;
  some_seat = ok.some_seat;
  few_seats = ok.seats;
  whole_at_most = ok.profile;
}
