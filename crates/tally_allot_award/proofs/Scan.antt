-- Scans of the lists: the highest next pair and the lowest last pair, list by list.
use Rattle.std.proofs.Common.{◌≡◌, ℕ, ◌+◌, ◌<◌, ◌≤◌, ◌⊎◌, List, cond, Some, length, get_or, sum, subst, inl, inr, ap, arith}
use Rattle.std.proofs.lemmas.Bool.{cases_lt}
use Rattle.std.proofs.Math.Nat.{mul-le-mul_right, div-le_of_le-mul}
use Rattle.tally_law.specs.Poll.{Poll, IsEligible, votes_of, eligible_votes}
use Rattle.tally_law.specs.HareAllotment.{whole_quotas}
use Rattle.tally_law.specs.Allotment.{Rule, divisors, hare}
use Rattle.tally_allot_award.specs.internal.Race.{Race, IsPair, NotBelow, IsWithin, IsFair, IsHighestBefore, IsLowestBefore}
use Rattle.tally_allot_award.specs.internal.Terms.{Terms, AreSound, IsSound, placed_race, most_for}
use Rattle.tally_allot_award.proofs.Vectors.{sum-le}
use Rattle.tally_allot_award.proofs.Race.{not_below_itself}
use Rattle.tally_allot_award.proofs.Sums.{sum_marked-is, marked_at, at-le-sum_before}
use Rattle.tally_allot_award.proofs.DivisorRace.{seats_for-le, eligible_or_not}
use Rattle.tally_allot_award.proofs.HareRace.{most_for-eligible, none_for-ineligible}
use Rattle.tally_allot_award.proofs.TermsRace.{races, within_placed}

-- an eligible list's votes are among those of the eligible lists
pub votes-le-eligible : (poll : Poll) (l : ℕ) → IsSound poll → IsEligible poll l → votes_of poll l ≤ eligible_votes poll
votes-le-eligible poll l s e =
    let x : marked_at poll.eligible poll.votes l ≡ votes_of poll l = ap (λ b. cond b (get_or poll.votes l 0) 0) e in
    omega (arith, sum_marked-is poll.eligible poll.votes, at-le-sum_before (marked_at poll.eligible poll.votes) (length poll.votes) l (s.listed l e))

pub quotas-le-seats : (poll : Poll) (seats l : ℕ) → IsSound poll → IsEligible poll l → whole_quotas poll seats l ≤ seats
quotas-le-seats poll seats l s e =
    div-le_of_le-mul (eligible_votes poll) (mul-le-mul_right seats (votes-le-eligible poll l s e))

cap_of : (rule : Rule) (poll : Poll) (lot : List ℕ) (seats l : ℕ) → IsSound poll → (placed_race (record { rule = rule; poll = poll; lot = lot; seats = seats })).cap l ≤ seats + 1
cap_of (divisors nth unit lot_rule) poll lot seats l s = omega (arith, seats_for-le poll seats l)
cap_of hare poll lot seats l s = by_test (eligible_or_not poll l)
  where
    by_test : IsEligible poll l ⊎ ¬ IsEligible poll l → most_for poll seats l ≤ seats + 1
    by_test (inl e) = omega (arith, most_for-eligible poll seats l e, quotas-le-seats poll seats l s e)
    by_test (inr ne) = omega (arith, none_for-ineligible poll seats l ne)

-- no list may hold more than 501 seats
pub cap_small : (terms : Terms) → AreSound terms → (l : ℕ) → (placed_race terms).cap l ≤ 501
cap_small terms sound l = omega (arith, cap_of terms.rule terms.poll terms.lot terms.seats l sound.poll, sound.few_seats)

pub count_is : (terms : Terms) → AreSound terms → (placed_race terms).count ≡ length terms.poll.votes
count_is terms sound = let r = races terms sound in omega (arith, r.same_count, r.count_is)

-- each list that runs is one of the contest
pub runs_within : (terms : Terms) → AreSound terms → (l n : ℕ) → (placed_race terms).floor l ≤ n → n < (placed_race terms).cap l → l < (placed_race terms).count
runs_within terms sound l n low lt = within_placed terms (races terms sound) l (omega arith)

module _ (terms : Terms) (sound : AreSound terms) (a : List ℕ) (w : IsWithin (placed_race terms) a) where
  next_pair : (m : ℕ) → get_or a m 0 < (placed_race terms).cap m → IsPair (placed_race terms) m (get_or a m 0 + 1)
  next_pair m lt = omega (arith, w.low m)

  last_pair : (m : ℕ) → (placed_race terms).floor m < get_or a m 0 → IsPair (placed_race terms) m (get_or a m 0)
  last_pair m lt = omega (arith, w.high m)

  -- one list more
  with_next : (l n : ℕ) → ((m : ℕ) → m < n → get_or a m 0 < (placed_race terms).cap m → NotBelow (placed_race terms) l (get_or a l 0 + 1) m (get_or a m 0 + 1)) → (get_or a n 0 < (placed_race terms).cap n → NotBelow (placed_race terms) l (get_or a l 0 + 1) n (get_or a n 0 + 1)) → (m : ℕ) → m < n + 1 → get_or a m 0 < (placed_race terms).cap m → NotBelow (placed_race terms) l (get_or a l 0 + 1) m (get_or a m 0 + 1)
  with_next l n before here m lt = split (cases_lt m n)
    where
      split : (m < n) ⊎ (n ≤ m) → get_or a m 0 < (placed_race terms).cap m → NotBelow (placed_race terms) l (get_or a l 0 + 1) m (get_or a m 0 + 1)
      split (inl h) = before m h
      split (inr h) = let e : n ≡ m = omega arith in let P : ℕ → Type 0 = λ i. get_or a i 0 < (placed_race terms).cap i → NotBelow (placed_race terms) l (get_or a l 0 + 1) i (get_or a i 0 + 1) in subst P e here

  pub higher_takes : (n l : ℕ) → n < length terms.poll.votes → IsHighestBefore (placed_race terms) a n (Some l) → get_or a n 0 < (placed_race terms).cap n → (placed_race terms).Above n (get_or a n 0 + 1) l (get_or a l 0 + 1) → IsHighestBefore (placed_race terms) a (n + 1) (Some n)
  higher_takes n l inside h runs ab =
      let o = (races terms sound).placed in
      let pn = next_pair n runs in
      let pl = next_pair l h.1 in
      (omega (arith, count_is terms sound), runs, with_next n n (λ m lt room. o.chain n _ l _ m _ pn pl (next_pair m room) (o.asym n _ l _ pn pl ab) (h.2 m lt room)) (λ room. not_below_itself (placed_race terms) o n _ pn))

  -- the lowest last pair
  with_last : (l n : ℕ) → ((m : ℕ) → m < n → (placed_race terms).floor m < get_or a m 0 → NotBelow (placed_race terms) m (get_or a m 0) l (get_or a l 0)) → ((placed_race terms).floor n < get_or a n 0 → NotBelow (placed_race terms) n (get_or a n 0) l (get_or a l 0)) → (m : ℕ) → m < n + 1 → (placed_race terms).floor m < get_or a m 0 → NotBelow (placed_race terms) m (get_or a m 0) l (get_or a l 0)
  with_last l n before here m lt = split (cases_lt m n)
    where
      split : (m < n) ⊎ (n ≤ m) → (placed_race terms).floor m < get_or a m 0 → NotBelow (placed_race terms) m (get_or a m 0) l (get_or a l 0)
      split (inl h) = before m h
      split (inr h) = let e : n ≡ m = omega arith in let P : ℕ → Type 0 = λ i. (placed_race terms).floor i < get_or a i 0 → NotBelow (placed_race terms) i (get_or a i 0) l (get_or a l 0) in subst P e here

  pub lower_takes : (n l : ℕ) → n < length terms.poll.votes → IsLowestBefore (placed_race terms) a n (Some l) → (placed_race terms).floor n < get_or a n 0 → (placed_race terms).Above l (get_or a l 0) n (get_or a n 0) → IsLowestBefore (placed_race terms) a (n + 1) (Some n)
  lower_takes n l inside h wins ab =
      let o = (races terms sound).placed in
      let pn = last_pair n wins in
      let pl = last_pair l h.1 in
      (omega (arith, count_is terms sound), wins, with_last n n (λ m lt win. o.chain m _ l _ n _ (last_pair m win) pl pn (h.2 m lt win) (o.asym l _ n _ pl pn ab)) (λ win. not_below_itself (placed_race terms) o n _ pn))

-- not every list has its most where the lists can hold more
pub not_full : (race : Race) (n : ℕ) (a full : List ℕ) → IsFair race n a → ((m : ℕ) → race.cap m ≤ get_or a m 0) → length full ≡ race.count → ((m : ℕ) → get_or full m 0 ≤ race.cap m) → n < sum full → ⊥
not_full race n a full f full_up long fits lt = omega (arith, f.total, sum-le a full (omega (arith, f.one_each)) (λ m. omega (arith, full_up m, fits m)))
