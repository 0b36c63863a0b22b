-- The lists of a contest hold fewer seats in any case than there are, and may hold as many.
use Rattle.std.proofs.Common.{◌≡◌, ℕ, zero, suc, ◌+◌, ◌-◌, ◌*◌, ◌<◌, ◌≤◌, ◌⊎◌, List, false, true, cond, length, get_or, set, map, sum, replicate, refl, sym, ap, ◌∙◌, subst, inl, inr, arith}
use Rattle.std.specs.List.{range_with_len}
use Rattle.std.proofs.lemmas.Bool.{cases_lt, cases_eq, cases_Bool}
use Rattle.std.proofs.lemmas.List.{get_or_past, get_or-set_same, get_or-set_other, get_or-replicate, length-replicate, length-map, length-set}
use Rattle.std.proofs.lemmas.List.FromFn.{get_or-map-range_with_len, length-range_with_len}
use Rattle.std.proofs.lemmas.List.Sums.{sum_by-set}
use Rattle.std.proofs.lemmas.Nat.{div-add-mod', mod_below}
use Rattle.std.proofs.Math.Nat.{div-mul-le_self, le_of_mul-le-mul_right}
use Rattle.tally_law.specs.Poll.{Poll, IsEligible, votes_of, eligible_votes}
use Rattle.tally_law.specs.Allotment.{Rule, divisors, hare}
use Rattle.tally_allot_award.specs.internal.Race.{CanHold}
use Rattle.tally_allot_award.specs.internal.Sums.{sum_before}
use Rattle.tally_allot_award.specs.internal.Terms.{Terms, AreSound, IsSound, placed_race, seats_for, most_for, quotas_for}
use Rattle.tally_allot_award.proofs.Sums.{sum_marked-is, sum-is, marked_at, sum_before-le, sum_before-mul, sum_before-same}
use Rattle.tally_allot_award.proofs.DivisorRace.{seats_for-eligible, eligible_or_not}
use Rattle.tally_allot_award.proofs.HareRace.{most_for-eligible, quotas_for-eligible, none_for-ineligible}
use Rattle.tally_allot_award.proofs.Scan.{votes-le-eligible}

-- no seats for n lists
abbrev pub no_seats : ℕ → List ℕ
no_seats n = replicate n 0

sum-zeros : (n : ℕ) → sum_before (λ i. get_or (no_seats n) i 0) n ≡ 0
sum-zeros n = zeros n (λ i lt. get_or-replicate n i 0 0 lt)
  where
    all_zero : (f : ℕ → ℕ) (k : ℕ) → ((i : ℕ) → i < k → f i ≡ 0) → sum_before f k ≡ 0
    all_zero f zero h = refl
    all_zero f (suc k) h = omega (arith, h k (omega arith), all_zero f k (λ i lt. h i (omega arith)))

    zeros : (k : ℕ) → ((i : ℕ) → i < k → get_or (no_seats n) i 0 ≡ 0) → sum_before (λ i. get_or (no_seats n) i 0) k ≡ 0
    zeros k h = all_zero (λ i. get_or (no_seats n) i 0) k h

pub sum-replicate_zero : (n : ℕ) → sum (no_seats n) ≡ 0
sum-replicate_zero n =
    let long : length (no_seats n) ≡ n = length-replicate {A = ℕ} n 0 in
    let e : sum_before (λ i. get_or (no_seats n) i 0) (length (no_seats n)) ≡ sum_before (λ i. get_or (no_seats n) i 0) n = ap (sum_before (λ i. get_or (no_seats n) i 0)) long in
    omega (arith, sum-is (no_seats n), sum-zeros n)

pub at-replicate_zero : (n i : ℕ) → get_or (no_seats n) i 0 ≡ 0
at-replicate_zero n i = by_cases (cases_lt i n)
  where
    by_cases : (i < n) ⊎ (n ≤ i) → get_or (no_seats n) i 0 ≡ 0
    by_cases (inl lt) = get_or-replicate n i 0 0 lt
    by_cases (inr ge) = get_or_past (no_seats n) i 0 (omega (arith, length-replicate {A = ℕ} n 0))

-- the quotas together are no more than the seats, and with one more each no fewer
module _ (poll : Poll) (s : IsSound poll) (seats : ℕ) where
  quota_part : (i : ℕ) → 0 < eligible_votes poll → quotas_for poll seats i * eligible_votes poll ≤ marked_at poll.eligible poll.votes i * seats
  quota_part i pos = by_test (eligible_or_not poll i)
    where
      by_test : IsEligible poll i ⊎ ¬ IsEligible poll i → quotas_for poll seats i * eligible_votes poll ≤ marked_at poll.eligible poll.votes i * seats
      by_test (inl e) =
          let x : marked_at poll.eligible poll.votes i ≡ votes_of poll i = ap (λ b. cond b (get_or poll.votes i 0) 0) e in
          rw (quotas_for-eligible poll seats i e, x) (div-mul-le_self (votes_of poll i * seats) (eligible_votes poll))
      by_test (inr ne) = let z = none_for-ineligible poll seats i ne in rw (z.0) (omega arith)

  most_part : (i : ℕ) → 0 < eligible_votes poll → marked_at poll.eligible poll.votes i * seats ≤ most_for poll seats i * eligible_votes poll
  most_part i pos = by_test (eligible_or_not poll i)
    where
      by_test : IsEligible poll i ⊎ ¬ IsEligible poll i → marked_at poll.eligible poll.votes i * seats ≤ most_for poll seats i * eligible_votes poll
      by_test (inl e) =
          let x : marked_at poll.eligible poll.votes i ≡ votes_of poll i = ap (λ b. cond b (get_or poll.votes i 0) 0) e in
          rw (most_for-eligible poll seats i e, x) (omega (arith, div-add-mod' (votes_of poll i * seats) (eligible_votes poll), mod_below (votes_of poll i * seats) (eligible_votes poll) pos))
      by_test (inr ne) =
          let x : marked_at poll.eligible poll.votes i ≡ 0 = not_marked (cases_Bool (get_or poll.eligible i false)) in
          rw x (omega arith)
        where
          not_marked : (get_or poll.eligible i false ≡ true) ⊎ (get_or poll.eligible i false ≡ false) → marked_at poll.eligible poll.votes i ≡ 0
          not_marked (inl t) = absurd (ne t)
          not_marked (inr f) = ap (λ b. cond b (get_or poll.votes i 0) 0) f

  quotas_within : 0 < eligible_votes poll → sum_before (quotas_for poll seats) (length poll.votes) ≤ seats
  quotas_within pos =
      let n = length poll.votes in
      let both : sum_before (quotas_for poll seats) n * eligible_votes poll ≤ seats * eligible_votes poll =
      omega (arith, sum_before-mul (quotas_for poll seats) (eligible_votes poll) n, sum_before-mul (marked_at poll.eligible poll.votes) seats n, sum_before-le (λ i. quotas_for poll seats i * eligible_votes poll) (λ i. marked_at poll.eligible poll.votes i * seats) n (λ i _. quota_part i pos), ap (λ v. v * seats) (sum_marked-is poll.eligible poll.votes)) in
      le_of_mul-le-mul_right both pos

  most_enough : 0 < eligible_votes poll → seats ≤ sum_before (most_for poll seats) (length poll.votes)
  most_enough pos =
      let n = length poll.votes in
      let both : seats * eligible_votes poll ≤ sum_before (most_for poll seats) n * eligible_votes poll =
      omega (arith, sum_before-mul (most_for poll seats) (eligible_votes poll) n, sum_before-mul (marked_at poll.eligible poll.votes) seats n, sum_before-le (λ i. marked_at poll.eligible poll.votes i * seats) (λ i. most_for poll seats i * eligible_votes poll) n (λ i _. most_part i pos), ap (λ v. v * seats) (sum_marked-is poll.eligible poll.votes)) in
      le_of_mul-le-mul_right both pos

some_votes : (poll : Poll) (l : ℕ) → IsSound poll → IsEligible poll l → 0 < eligible_votes poll
some_votes poll l s e = omega (arith, s.with_votes l e, votes-le-eligible poll l s e)

-- all seats for one list, and the most for each
abbrev all_to : Poll → ℕ → ℕ → List ℕ
all_to poll seats l = set (no_seats (length poll.votes)) l seats

abbrev most_each : Poll → ℕ → List ℕ
most_each poll seats = map (most_for poll seats) (range_with_len 0 (length poll.votes))

pub room_of : (rule : Rule) (poll : Poll) (lot : List ℕ) (seats l : ℕ) → IsSound poll → IsEligible poll l → CanHold (placed_race (record { rule = rule; poll = poll; lot = lot; seats = seats })) seats
room_of (divisors nth unit lot_rule) poll lot seats l s e = ((all_to poll seats l), length-set (no_seats (length poll.votes)) l seats ∙ length-replicate {A = ℕ} (length poll.votes) 0, fits, enough)
  where
    inside : l < length (no_seats (length poll.votes))
    inside = omega (arith, length-replicate {A = ℕ} (length poll.votes) 0, s.listed l e)

    fits : (m : ℕ) → get_or (all_to poll seats l) m 0 ≤ seats_for poll seats m
    fits m = by_cases (cases_eq m l)
      where
        by_cases : (m ≡ l) ⊎ (m ≡ l → ⊥) → get_or (all_to poll seats l) m 0 ≤ seats_for poll seats m
        by_cases (inl q) =
            let P : ℕ → Type 0 = λ i. get_or (all_to poll seats l) i 0 ≤ seats_for poll seats i in
            subst P (sym q) (omega (arith, get_or-set_same (no_seats (length poll.votes)) l seats 0 inside, seats_for-eligible poll seats l e))
        by_cases (inr ne) = omega (arith, get_or-set_other (no_seats (length poll.votes)) l m seats 0 ne, at-replicate_zero (length poll.votes) m)

    enough : seats ≤ sum (all_to poll seats l)
    enough = omega (arith, sum_by-set (λ n. n) (no_seats (length poll.votes)) l seats 0 inside, sum-replicate_zero (length poll.votes), at-replicate_zero (length poll.votes) l)
room_of hare poll lot seats l s e = ((most_each poll seats), long, fits, enough)
  where
    long : length (most_each poll seats) ≡ length poll.votes
    long = length-map (range_with_len 0 (length poll.votes)) (most_for poll seats) ∙ length-range_with_len 0 (length poll.votes)

    at : (m : ℕ) → m < length poll.votes → get_or (most_each poll seats) m 0 ≡ most_for poll seats m
    at m lt = get_or-map-range_with_len (most_for poll seats) 0 (length poll.votes) m m 0 lt (omega arith)

    fits : (m : ℕ) → get_or (most_each poll seats) m 0 ≤ most_for poll seats m
    fits m = by_cases (cases_lt m (length poll.votes))
      where
        by_cases : (m < length poll.votes) ⊎ (length poll.votes ≤ m) → get_or (most_each poll seats) m 0 ≤ most_for poll seats m
        by_cases (inl lt) = omega (arith, at m lt)
        by_cases (inr ge) = omega (arith, get_or_past (most_each poll seats) m 0 (omega (arith, long)))

    enough : seats ≤ sum (most_each poll seats)
    enough =
        let same = sum_before-same (λ i. get_or (most_each poll seats) i 0) (most_for poll seats) (length poll.votes) (λ i lt. at i lt) in
        let e' : sum_before (λ i. get_or (most_each poll seats) i 0) (length (most_each poll seats)) ≡ sum_before (λ i. get_or (most_each poll seats) i 0) (length poll.votes) = ap (sum_before (λ i. get_or (most_each poll seats) i 0)) long in
        omega (arith, most_enough poll s seats (some_votes poll l s e), sum-is (most_each poll seats))

-- the lists may hold all the seats
pub room : (terms : Terms) → AreSound terms → (l : ℕ) → IsEligible terms.poll l → CanHold (placed_race terms) terms.seats
room terms sound l e = room_of terms.rule terms.poll terms.lot terms.seats l sound.poll e

pub floors_of : (rule : Rule) (poll : Poll) (lot : List ℕ) (seats l : ℕ) → IsSound poll → IsEligible poll l → sum_before (placed_race (record { rule = rule; poll = poll; lot = lot; seats = seats })).floor (length poll.votes) ≤ seats
floors_of (divisors nth unit lot_rule) poll lot seats l s e = omega (arith, none (length poll.votes))
  where
    none : (n : ℕ) → sum_before (λ _. 0) n ≡ 0
    none zero = refl
    none (suc n) = omega (arith, none n)
floors_of hare poll lot seats l s e = quotas_within poll s seats (some_votes poll l s e)

-- what the lists hold in any case is within the seats
pub floors_within : (terms : Terms) → AreSound terms → (l : ℕ) → IsEligible terms.poll l → sum_before (placed_race terms).floor (length terms.poll.votes) ≤ terms.seats
floors_within terms sound l e = floors_of terms.rule terms.poll terms.lot terms.seats l sound.poll e

-- what each list holds in any case, as a vector
pub floors_sum : (terms : Terms) → AreSound terms → (l : ℕ) → IsEligible terms.poll l → (a : List ℕ) → length a ≡ length terms.poll.votes → ((k : ℕ) → k < length a → get_or a k 0 ≡ (placed_race terms).floor k) → sum a ≤ terms.seats
floors_sum terms sound l e a long each =
    let same = sum_before-same (λ i. get_or a i 0) (placed_race terms).floor (length a) each in
    let e' : sum_before (placed_race terms).floor (length a) ≡ sum_before (placed_race terms).floor (length terms.poll.votes) = ap (sum_before (placed_race terms).floor) long in
    omega (arith, sum-is a, floors_within terms sound l e)

-- what is left of the seats, after what each list holds in any case
pub left_is : (held counted given : List ℕ) (all seats certain : ℕ) → held ≡ given → counted ≡ given → seats ≡ all → certain ≡ sum counted → sum given ≤ all → all ≡ sum held + (seats - certain)
left_is held counted given all seats certain h k s t le = omega (arith, ap sum h, ap sum k)

pub sum_within : (a b : List ℕ) (n m : ℕ) → a ≡ b → sum b ≤ n → n ≤ m → sum a ≤ m
sum_within a b n m e le lt = omega (arith, ap sum e)
