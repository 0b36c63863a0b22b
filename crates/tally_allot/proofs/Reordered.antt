-- Where the votes decide, the order of the lists in the setup is nothing.
use Rattle.std.proofs.Common.{◌≡◌, ℕ, zero, suc, ◌+◌, ◌*◌, ◌<◌, ◌≤◌, ◌≢◌, ◌⊎◌, List, [], false, cond, eqb, length, get_or, map, sum, refl, sym, ap, ◌∙◌, inl, inr, arith}
use Rattle.std.specs.List.{range_with_len}
use Rattle.std.proofs.lemmas.Bool.{cases_lt, cases_eq, false≢true, eq-eqb, ne_eqb}
use Rattle.std.proofs.lemmas.List.{get_or-map, length-map, get_or_past}
use Rattle.std.proofs.lemmas.List.FromFn.{get_or-map-range_with_len, length-range_with_len}
use Rattle.std.proofs.lemmas.List.Sums.{sum-map}
use Rattle.std.proofs.lemmas.List.Sorted.{sum_by-IsPermutation, length_permutation}
use Rattle.tally_law.specs.Poll.{Poll, IsEligible, votes_of, eligible_votes}
use Rattle.tally_law.specs.Allotment.{Rule, divisors, hare, IsAllotment}
use Rattle.tally_law.specs.LotNeed.{IsDecidedByVotes}
use Rattle.tally_allot_award.specs.internal.Race.{Race, IsFair, IsTie}
use Rattle.tally_law.specs.Reordering.{IsReordering, numbers_in_order}
use Rattle.tally_allot_award.specs.internal.Sums.{sum_before}
use Rattle.tally_allot_award.specs.internal.Terms.{Terms, IsRule, IsSound, vote_race, placed_race}
use Rattle.tally_allot_award.proofs.Vectors.{two-le-sum, Exchange, equal_or_exchange}
use Rattle.tally_allot_award.proofs.Race.{one_seat}
use Rattle.tally_law.specs.Allotment.{IsAllotmentByVotes}
use Rattle.tally_allot_award.proofs.Sums.{sum-is, sum_before-same, sum_marked-is, marked_at}
use Rattle.tally_allot_award.proofs.Ties.{exchange, exchanged, exchanged_at_l}
use Rattle.tally_allot_award.proofs.TermsRace.{AreRaces, are_races, fair_by_votes, from_placed}
use Rattle.tally_allot.proofs.LotLaws.{proper_without_lot}

-- the poll with its lists in another order
abbrev pub reordered_poll : Poll → List ℕ → Poll
reordered_poll poll order = record { votes = map (votes_of poll) order; eligible = map (λ l. get_or poll.eligible l false) order }

terms_of : Rule → Poll → ℕ → Terms
terms_of rule poll seats = record { rule = rule; poll = poll; lot = []; seats = seats }

-- at most one of the first n numbers is v
one_at : (v n : ℕ) → sum_before (λ x. cond (eqb x v) 1 0) n ≤ 1
one_at v n = (both n).1
  where
    both : (n : ℕ) → (n ≤ v → sum_before (λ x. cond (eqb x v) 1 0) n ≡ 0) × (sum_before (λ x. cond (eqb x v) 1 0) n ≤ 1)
    both zero = ((λ _. refl), omega arith)
    both (suc n) = step (both n) (cases_eq n v)
      where
        step : (n ≤ v → sum_before (λ x. cond (eqb x v) 1 0) n ≡ 0) × (sum_before (λ x. cond (eqb x v) 1 0) n ≤ 1) → (n ≡ v) ⊎ (n ≡ v → ⊥) → (suc n ≤ v → sum_before (λ x. cond (eqb x v) 1 0) (suc n) ≡ 0) × (sum_before (λ x. cond (eqb x v) 1 0) (suc n) ≤ 1)
        step h (inl e) =
            let now : ◌≡◌ {A = ℕ} (cond (eqb n v) 1 0) 1 = ap (λ b. cond b 1 0) (eq-eqb n v e) in
            ((λ le. absurd (omega arith)), omega (arith, h.0 (omega arith)))
        step h (inr ne) =
            let now : ◌≡◌ {A = ℕ} (cond (eqb n v) 1 0) 0 = ap (λ b. cond b 1 0) (ne_eqb n v ne) in
            ((λ le. omega (arith, h.0 (omega arith))), omega (arith, h.1))

module _ (poll : Poll) (order : List ℕ) (perm : IsReordering (length poll.votes) order) where
  long : length order ≡ length poll.votes
  long = length_permutation (range_with_len 0 (length poll.votes)) order perm ∙ length-range_with_len 0 (length poll.votes)

  -- a sum in another order
  pub sum_over : (f : ℕ → ℕ) → sum (map f order) ≡ sum_before f (length poll.votes)
  sum_over f =
      let n = length poll.votes in
      let listed = map f (range_with_len 0 n) in
      let count : length listed ≡ n = length-map (range_with_len 0 n) f ∙ length-range_with_len 0 n in
      let e : sum_before (λ i. get_or listed i 0) (length listed) ≡ sum_before (λ i. get_or listed i 0) n = ap (sum_before (λ i. get_or listed i 0)) count in
      let same = sum_before-same (λ i. get_or listed i 0) f n (λ i lt. get_or-map-range_with_len f 0 n i i 0 lt (omega arith)) in
      sum-map f order ∙ sum_by-IsPermutation f (range_with_len 0 n) order perm ∙ sym (sum-map f (range_with_len 0 n)) ∙ sum-is listed ∙ e ∙ same

  at : (f : ℕ → ℕ) (l : ℕ) → l < length poll.votes → get_or (map f order) l 0 ≡ f (get_or order l 0)
  at f l lt = get_or-map f order l 0 0 (omega (arith, long))

  at_mark : (l : ℕ) → l < length poll.votes → get_or (reordered_poll poll order).eligible l false ≡ get_or poll.eligible (get_or order l 0) false
  at_mark l lt = get_or-map (λ x. get_or poll.eligible x false) order l 0 false (omega (arith, long))

  count_is : length (reordered_poll poll order).votes ≡ length poll.votes
  count_is = length-map order (votes_of poll) ∙ long

  listed_in : (l : ℕ) → IsEligible (reordered_poll poll order) l → l < length poll.votes
  listed_in l e = by_cases (cases_lt l (length poll.votes))
    where
      by_cases : (l < length poll.votes) ⊎ (length poll.votes ≤ l) → l < length poll.votes
      by_cases (inl lt) = lt
      by_cases (inr ge) = absurd (false≢true (sym (get_or_past (reordered_poll poll order).eligible l false (omega (arith, long, length-map order (λ x. get_or poll.eligible x false)))) ∙ e))

  -- two lists of the new order are two of the old
  apart : (l m : ℕ) → l < length poll.votes → m < length poll.votes → l ≢ m → get_or order l 0 ≢ get_or order m 0
  apart l m ll lm ne e =
      let v = get_or order l 0 in
      let f : ℕ → ℕ = λ x. cond (eqb x (get_or order l 0)) 1 0 in
      let fl : get_or (map f order) l 0 ≡ 1 = at f l ll ∙ ap (λ b. cond b 1 0) (eq-eqb v v refl) in
      let fm : get_or (map f order) m 0 ≡ 1 = at f m lm ∙ ap (λ b. cond b 1 0) (eq-eqb (get_or order m 0) v (sym e)) in
      omega (arith, two-le-sum (map f order) l m ne, sum_over f, one_at v (length poll.votes))

  same_total : eligible_votes (reordered_poll poll order) ≡ eligible_votes poll
  same_total =
      let p = reordered_poll poll order in
      let n = length poll.votes in
      let e : sum_before (marked_at p.eligible p.votes) (length p.votes) ≡ sum_before (marked_at p.eligible p.votes) n = ap (sum_before (marked_at p.eligible p.votes)) count_is in
      let m = map (marked_at poll.eligible poll.votes) order in
      let count : length m ≡ n = length-map order (marked_at poll.eligible poll.votes) ∙ long in
      let g : sum_before (λ i. get_or m i 0) (length m) ≡ sum_before (λ i. get_or m i 0) n = ap (sum_before (λ i. get_or m i 0)) count in
      let same = sum_before-same (marked_at p.eligible p.votes) (λ i. get_or m i 0) n (λ i lt. both i lt) in
      sum_marked-is p.eligible p.votes ∙ e ∙ same ∙ sym g ∙ sym (sum-is m) ∙ sum_over (marked_at poll.eligible poll.votes) ∙ sym (sum_marked-is poll.eligible poll.votes)
    where
      both : (i : ℕ) → i < length poll.votes → marked_at (reordered_poll poll order).eligible (reordered_poll poll order).votes i ≡ get_or (map (marked_at poll.eligible poll.votes) order) i 0
      both i lt = rw (at_mark i lt, at (votes_of poll) i lt, at (marked_at poll.eligible poll.votes) i lt) refl

  pub sound_reordered : IsSound poll → IsSound (reordered_poll poll order)
  sound_reordered s = record { listed = λ l e. omega (arith, listed_in l e, count_is); with_votes = λ l e. omega (arith, at (votes_of poll) l (listed_in l e), s.with_votes (get_or order l 0) (sym (at_mark l (listed_in l e)) ∙ e)) }

  -- how the races go together
  pub record AreAlike (race old : Race) : Type 0 where
    pub floor_is : (l : ℕ) → l < length poll.votes → race.floor l ≡ old.floor (get_or order l 0)
    pub cap_is : (l : ℕ) → l < length poll.votes → race.cap l ≡ old.cap (get_or order l 0)
    pub above_is : (l k m j : ℕ) → l < length poll.votes → m < length poll.votes → old.Above (get_or order l 0) k (get_or order m 0) j → race.Above l k m j

  alike : (rule : Rule) (seats : ℕ) → AreAlike (vote_race (record { rule = rule; poll = reordered_poll poll order; lot = []; seats = seats })) (vote_race (record { rule = rule; poll = poll; lot = []; seats = seats }))
  alike (divisors nth unit lot_rule) seats =
      record {
        floor_is = λ l lt. refl;
        cap_is = λ l lt. ap (λ b. cond b seats 0) (at_mark l lt);
        above_is = λ l k m j ll lm ab. by_votes k j (sym (at (votes_of poll) l ll)) (sym (at (votes_of poll) m lm)) ab;
      }
    where
      by_votes : (k j : ℕ) → {v v' w w' : ℕ} → v ≡ v' → w ≡ w' → (w * nth k < v * nth j) ⊎ ((v * nth j ≡ w * nth k) × (w < v)) → (w' * nth k < v' * nth j) ⊎ ((v' * nth j ≡ w' * nth k) × (w' < v'))
      by_votes k j {v = v} {v' = v'} {w = w} {w' = w'} e f ab = rw (sym e, sym f) ab
  alike hare seats =
      record {
        floor_is = λ l lt. rw (at_mark l lt, at (votes_of poll) l lt, same_total) refl;
        cap_is = λ l lt. rw (at_mark l lt, at (votes_of poll) l lt, same_total) refl;
        above_is = λ l k m j ll lm ab. rw (at (votes_of poll) l ll, at (votes_of poll) m lm, same_total) ab;
      }

module _ (rule : Rule) (poll : Poll) (seats : ℕ) (d : IsRule rule) (s : IsSound poll) (some : 1 ≤ seats) (decided : IsDecidedByVotes rule poll seats) (a : List ℕ) (f : IsFair (vote_race (record { rule = rule; poll = poll; lot = []; seats = seats })) seats a) where
  abbrev old : Terms
  old = record { rule = rule; poll = poll; lot = []; seats = seats }

  r : AreRaces (record { rule = rule; poll = poll; lot = []; seats = seats })
  r = are_races rule poll [] seats d s some

  no_tie : (x y : ℕ) → IsTie (vote_race old) a x y → ⊥
  no_tie x y t =
      let b = exchanged a x y in
      let g = exchange (vote_race old) r.by_votes r.within seats a x y f t in
      let same : b ≡ a = decided.2 b (r.from_fair b g) ∙ sym (decided.2 a (r.from_fair a f)) in
      let x_in : x < length a = omega (arith, r.within x (omega (arith, f.high x, t.wins)), f.one_each) in
      let y_in : y < length a = omega (arith, r.within y (omega (arith, f.low y, t.runs)), f.one_each) in
      let e : get_or b x 0 ≡ get_or a x 0 = ap (λ v. get_or v x 0) same in
      omega (arith, exchanged_at_l a x y t.apart x_in y_in, t.wins)

  -- each last pair is above each other list's next
  last_above : (l m : ℕ) → l ≢ m → (vote_race old).floor l < get_or a l 0 → get_or a m 0 < (vote_race old).cap m → (vote_race old).Above l (get_or a l 0) m (get_or a m 0 + 1)
  last_above l m ne win room = by_rank (r.by_votes.decide l _ m _ (omega (arith, f.high l)) (omega (arith, f.low m)))
    where
      by_rank : (vote_race old).Above l (get_or a l 0) m (get_or a m 0 + 1) ⊎ ¬ (vote_race old).Above l (get_or a l 0) m (get_or a m 0 + 1) → (vote_race old).Above l (get_or a l 0) m (get_or a m 0 + 1)
      by_rank (inl ab) = ab
      by_rank (inr nb) = absurd (no_tie l m (record { apart = ne; wins = win; runs = room; tied = nb }))

  module _ (order : List ℕ) (perm : IsReordering (length poll.votes) order) where
    abbrev new : Terms
    new = record { rule = rule; poll = reordered_poll poll order; lot = []; seats = seats }

    r' : AreRaces (record { rule = rule; poll = reordered_poll poll order; lot = []; seats = seats })
    r' = are_races rule (reordered_poll poll order) [] seats d (sound_reordered poll order perm s) some

    together : AreAlike poll order perm (vote_race new) (vote_race old)
    together = alike poll order perm rule seats

    at_seats : (l : ℕ) → l < length poll.votes → get_or (numbers_in_order a order) l 0 ≡ get_or a (get_or order l 0) 0
    at_seats l lt = at poll order perm (λ x. get_or a x 0) l lt

    long_seats : length (numbers_in_order a order) ≡ length poll.votes
    long_seats = length-map order (λ x. get_or a x 0) ∙ long poll order perm

    past : (l : ℕ) → length poll.votes ≤ l → ((vote_race new).floor l ≡ 0) × (get_or (numbers_in_order a order) l 0 ≡ 0)
    past l ge = ((r'.ineligible l (λ e. absurd (omega (arith, listed_in poll order perm l e)))).0, get_or_past (numbers_in_order a order) l 0 (omega (arith, long_seats)))

    limits : (l : ℕ) → ((vote_race new).floor l ≤ get_or (numbers_in_order a order) l 0) × (get_or (numbers_in_order a order) l 0 ≤ (vote_race new).cap l)
    limits l = by_cases (cases_lt l (length poll.votes))
      where
        by_cases : (l < length poll.votes) ⊎ (length poll.votes ≤ l) → ((vote_race new).floor l ≤ get_or (numbers_in_order a order) l 0) × (get_or (numbers_in_order a order) l 0 ≤ (vote_race new).cap l)
        by_cases (inl lt) = (omega (arith, together.floor_is l lt, at_seats l lt, f.low (get_or order l 0)), omega (arith, together.cap_is l lt, at_seats l lt, f.high (get_or order l 0)))
        by_cases (inr ge) = let p = past l ge in (omega (arith, p), omega (arith, p))

    whole : sum (numbers_in_order a order) ≡ seats
    whole =
        let e : sum_before (λ x. get_or a x 0) (length a) ≡ sum_before (λ x. get_or a x 0) (length poll.votes) = ap (sum_before (λ x. get_or a x 0)) (f.one_each ∙ r.count_is) in
        sum_over poll order perm (λ x. get_or a x 0) ∙ sym e ∙ sym (sum-is a) ∙ f.total

    new_above : (l m : ℕ) → l ≢ m → (vote_race new).floor l < get_or (numbers_in_order a order) l 0 → get_or (numbers_in_order a order) m 0 < (vote_race new).cap m → (vote_race new).Above l (get_or (numbers_in_order a order) l 0) m (get_or (numbers_in_order a order) m 0 + 1)
    new_above l m ne win room =
        let ll : l < length poll.votes = omega (arith, r'.within l (omega (arith, win, limits l)), r'.count_is, count_is poll order perm) in
        let lm : m < length poll.votes = omega (arith, r'.within m (omega (arith, room, limits m)), r'.count_is, count_is poll order perm) in
        let ab = last_above (get_or order l 0) (get_or order m 0) (apart poll order perm l m ll lm ne) (omega (arith, together.floor_is l ll, at_seats l ll)) (omega (arith, together.cap_is m lm, at_seats m lm)) in
        let up = together.above_is l _ m _ ll lm ab in
        rw (at_seats l ll, at_seats m lm) up

    reordered_fair : IsFair (placed_race new) seats (numbers_in_order a order)
    reordered_fair =
        record {
          one_each = omega (arith, long_seats, r'.same_count, r'.count_is, count_is poll order perm);
          low = λ l. omega (arith, limits l, r'.same_floor l);
          high = λ l. omega (arith, limits l, r'.same_cap l);
          total = whole;
          last_not_below_next = λ l m ne win room.
              r'.placed.asym l _ m _ (omega (arith, limits l, r'.same_cap l)) (omega (arith, limits m, r'.same_floor m)) (r'.refines _ _ _ _ (new_above l m ne (omega (arith, r'.same_floor l)) (omega (arith, r'.same_cap m))));
        }

    pub reordered_allotment : IsAllotment rule (reordered_poll poll order) [] seats (numbers_in_order a order)
    reordered_allotment = from_placed new r' (proper_without_lot (reordered_poll poll order)) (numbers_in_order a order) reordered_fair

    new_fair : IsFair (vote_race new) seats (numbers_in_order a order)
    new_fair = fair_by_votes new r' seats (numbers_in_order a order) reordered_fair

    same_as : (b : List ℕ) → IsAllotmentByVotes rule (reordered_poll poll order) seats b → b ≡ numbers_in_order a order
    same_as b wb =
        let fb = r'.to_fair b wb in
        by_cases fb (equal_or_exchange (numbers_in_order a order) b (omega (arith, new_fair.one_each, fb.one_each)) (omega (arith, new_fair.total, fb.total)))
      where
        by_cases : IsFair (vote_race new) seats b → (numbers_in_order a order ≡ b) ⊎ Exchange (numbers_in_order a order) b → b ≡ numbers_in_order a order
        by_cases fb (inl e) = sym e
        by_cases fb (inr x) =
            let w = one_seat (vote_race new) r'.by_votes seats (numbers_in_order a order) b new_fair fb x.l x.m x.more x.less in
            absurd (w.below (new_above x.l x.m w.apart w.wins.0 (omega (arith, w.is_next))))

    pub reordered_decided : IsDecidedByVotes rule (reordered_poll poll order) seats
    reordered_decided = (numbers_in_order a order, r'.from_fair (numbers_in_order a order) new_fair, same_as)

pub setup_order_decides : (rule : Rule) (poll : Poll) (seats : ℕ) (order a : List ℕ) → IsRule rule → IsSound poll → 1 ≤ seats → IsReordering (length poll.votes) order → IsDecidedByVotes rule poll seats → IsAllotment rule poll [] seats a → IsDecidedByVotes rule (reordered_poll poll order) seats
setup_order_decides rule poll seats order a d s some perm decided w =
    let r = are_races rule poll [] seats d s some in
    reordered_decided rule poll seats d s some decided a (r.to_fair a (r.to_by_votes a w)) order perm

pub setup_order_is_nothing : (rule : Rule) (poll : Poll) (seats : ℕ) (order a : List ℕ) → IsRule rule → IsSound poll → 1 ≤ seats → IsReordering (length poll.votes) order → IsDecidedByVotes rule poll seats → IsAllotment rule poll [] seats a → IsAllotment rule (reordered_poll poll order) [] seats (numbers_in_order a order)
setup_order_is_nothing rule poll seats order a d s some perm decided w =
    let r = are_races rule poll [] seats d s some in
    reordered_allotment rule poll seats d s some decided a (r.to_fair a (r.to_by_votes a w)) order perm
