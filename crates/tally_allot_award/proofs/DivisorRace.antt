-- The divisor rules as races.
use Rattle.std.proofs.Common.{◌≡◌, ℕ, ◌+◌, ◌*◌, ◌<◌, ◌≤◌, ◌≢◌, ◌⊎◌, List, [], Bool, true, false, cond, length, get_or, sum, refl, sym, subst, ◌∙◌, inl, inr, ap, arith}
use Rattle.std.proofs.lemmas.Bool.{cases_lt, false≢true}
use Rattle.std.proofs.Math.Nat.{mul-lt-mul_of_pos_left}
use Rattle.tally_frac.specs.Rank.{Pair, RanksAbove, RanksAboveByVotes, TiesByVotes}
use Rattle.tally_frac.specs.internal.RankOrder.{tie-divisor}
use Rattle.tally_frac.proofs.FractionLaws.{scaled-greater, scaled-level}
use Rattle.tally_frac.proofs.RankLaws.{weak-decided, weak-one_way, weak-not_below, ties_if_neither, strict-decided, strict-one_way, strict-not_below}
use Rattle.tally_setup.specs.declared.profile.LotRule.{LotRule}
use Rattle.tally_setup.specs.declared.profile.LotRule.TheVariants.{Fixed}
use Rattle.tally_law.specs.Poll.{Poll, IsEligible, votes_of, SharesOut}
use Rattle.tally_law.specs.Lot.{ComesFirst}
use Rattle.tally_allot_award.specs.internal.Pairs.{place_at, pair_of}
use Rattle.tally_law.specs.DivisorAllotment.{IsAboveByVotes, IsTiedByVotes, IsAbove, IsDivisorAllotment, IsDivisorAllotmentByVotes}
use Rattle.tally_allot_award.proofs.Vectors.{get_or-le-sum, two-le-sum}
use Rattle.tally_allot_award.specs.internal.Race.{IsPair, NotBelow, IsFair, IsTie}
use Rattle.tally_allot_award.specs.internal.Terms.{AreDivisors, IsProperLot, IsSound, seats_for, divisor_race, placed_divisor_race}
use Rattle.tally_allot_award.proofs.Race.{IsOrderly}
use Rattle.tally_allot_award.proofs.Ties.{IsInClasses}
use Rattle.tally_allot_award.proofs.TurnLemmas.{first_if_lower}

pub seats_for-eligible : (poll : Poll) (seats l : ℕ) → IsEligible poll l → seats_for poll seats l ≡ seats
seats_for-eligible poll seats l e = ap (λ b. cond b seats 0) e

pub seats_for-le : (poll : Poll) (seats l : ℕ) → seats_for poll seats l ≤ seats
seats_for-le poll seats l = by_test (get_or poll.eligible l false)
  where
    by_test : (b : Bool) → cond b seats 0 ≤ seats
    by_test true = omega arith
    by_test false = omega arith

pub runs_if_eligible : (poll : Poll) (seats l n : ℕ) → n < seats_for poll seats l → IsEligible poll l
runs_if_eligible poll seats l n h = by_test (get_or poll.eligible l false) h
  where
    by_test : (b : Bool) → n < cond b seats 0 → b ≡ true
    by_test true h = refl
    by_test false h = absurd (omega arith)

pub eligible_or_not : (poll : Poll) (l : ℕ) → IsEligible poll l ⊎ ¬ IsEligible poll l
eligible_or_not poll l = by_test (get_or poll.eligible l false)
  where
    by_test : (b : Bool) → (b ≡ true) ⊎ ¬ (b ≡ true)
    by_test true = inl refl
    by_test false = inr (λ e. false≢true e)

pub seats_for-ineligible : (poll : Poll) (seats l : ℕ) → ¬ IsEligible poll l → seats_for poll seats l ≡ 0
seats_for-ineligible poll seats l ne = by_test (get_or poll.eligible l false) ne
  where
    by_test : (b : Bool) → ¬ (b ≡ true) → cond b seats 0 ≡ 0
    by_test true ne = absurd (ne refl)
    by_test false ne = refl

-- of two pairs that tie the second is not above
not_above_tied : (p q : Pair) → TiesByVotes p q → ¬ RanksAboveByVotes q p
not_above_tied p q t (inl above) = omega (arith, t.0, above)
not_above_tied p q t (inr above) = omega (arith, t.1, above.1)

-- a pair that is above with its place is above by the votes, or ties and has the lower place
pub placed_by : (nth : ℕ → ℕ) (lot_rule : LotRule) (poll : Poll) (lot : List ℕ) (l k m j : ℕ) → RanksAbove (pair_of nth lot_rule poll lot l k) (pair_of nth lot_rule poll lot m j) → RanksAboveByVotes (pair_of nth Fixed poll [] l k) (pair_of nth Fixed poll [] m j) ⊎ ((¬ RanksAboveByVotes (pair_of nth Fixed poll [] m j) (pair_of nth Fixed poll [] l k)) × (place_at lot_rule lot l k < place_at lot_rule lot m j))
placed_by nth lot_rule poll lot l k m j (inl ab) = inl ab
placed_by nth lot_rule poll lot l k m j (inr t) = inr (not_above_tied (pair_of nth Fixed poll [] l k) (pair_of nth Fixed poll [] m j) t.0, t.1)

module _ (nth : ℕ → ℕ) (d : AreDivisors nth) (poll : Poll) (sound : IsSound poll) (seats : ℕ) where
  -- the pair, by the votes alone
  abbrev bare : ℕ → ℕ → Pair
  bare l k = pair_of nth Fixed poll [] l k

  pub divisor_race-within : (l : ℕ) → 0 < seats_for poll seats l → l < length poll.votes
  divisor_race-within l h = sound.listed l (runs_if_eligible poll seats l 0 h)

  falls : (l j k : ℕ) → IsPair (divisor_race nth poll seats) l j → j < k → RanksAboveByVotes (bare l j) (bare l k)
  falls l j k p lt =
      let v : 1 ≤ votes_of poll l = sound.with_votes l (runs_if_eligible poll seats l 0 (omega (arith, p))) in
      inl (mul-lt-mul_of_pos_left (d.rises j k (omega (arith, p)) lt) v)

  pub divisor_race-orderly : IsOrderly (divisor_race nth poll seats)
  divisor_race-orderly =
      record {
        decide = λ l k m j p q. weak-decided (bare l k) (bare m j) (d.positive k p.0) (d.positive j q.0);
        asym = λ l k m j p q ab. weak-one_way (bare l k) (bare m j) (d.positive k p.0) (d.positive j q.0) ab;
        chain = λ l k m j n i p q r h h'. weak-not_below (bare l k) (bare m j) (bare n i) (d.positive k p.0) (d.positive j q.0) (d.positive i r.0) h h';
        falling = λ l j k p q lt. falls l j k p lt;
      }

  pub placed_divisor_race-orderly : (lot_rule : LotRule) (lot : List ℕ) → IsOrderly (placed_divisor_race nth lot_rule poll lot seats)
  placed_divisor_race-orderly lot_rule lot =
      record {
        decide = λ l k m j p q. strict-decided (pair_of nth lot_rule poll lot l k) (pair_of nth lot_rule poll lot m j) (d.positive k p.0) (d.positive j q.0);
        asym = λ l k m j p q ab. strict-one_way (pair_of nth lot_rule poll lot l k) (pair_of nth lot_rule poll lot m j) (d.positive k p.0) (d.positive j q.0) ab;
        chain = λ l k m j n i p q r h h'. strict-not_below (pair_of nth lot_rule poll lot l k) (pair_of nth lot_rule poll lot m j) (pair_of nth lot_rule poll lot n i) (d.positive k p.0) (d.positive j q.0) (d.positive i r.0) h h';
        falling = λ l j k p q lt. inl (falls l j k p lt);
      }

  tie_of : (l k m j : ℕ) → 1 ≤ k → 1 ≤ j → ¬ RanksAboveByVotes (bare l k) (bare m j) → ¬ RanksAboveByVotes (bare m j) (bare l k) → TiesByVotes (bare l k) (bare m j)
  tie_of l k m j pk pj h h' = ties_if_neither (bare l k) (bare m j) (d.positive k pk) (d.positive j pj) h h'

  -- of pairs that tie the one of the lower place is above
  pub divisor_race-tie_placed : (lot_rule : LotRule) (lot : List ℕ) (l k m j : ℕ) → IsPair (divisor_race nth poll seats) l k → IsPair (divisor_race nth poll seats) m j → ¬ RanksAboveByVotes (bare l k) (bare m j) → ¬ RanksAboveByVotes (bare m j) (bare l k) → place_at lot_rule lot l k < place_at lot_rule lot m j → RanksAbove (pair_of nth lot_rule poll lot l k) (pair_of nth lot_rule poll lot m j)
  divisor_race-tie_placed lot_rule lot l k m j p q h h' lower = inr (tie_of l k m j p.0 q.0 h h', lower)

  -- the same divisor is of the same seat
  same_seat : (j k : ℕ) → 1 ≤ j → 1 ≤ k → nth j ≡ nth k → j ≡ k
  same_seat j k pj pk e = by_order (cases_lt j k) (cases_lt k j)
    where
      by_order : (j < k) ⊎ (k ≤ j) → (k < j) ⊎ (j ≤ k) → j ≡ k
      by_order (inl lt) _ = absurd (omega (arith, d.rises j k pj lt, e))
      by_order (inr _) (inl lt) = absurd (omega (arith, d.rises k j pk lt, e))
      by_order (inr a) (inr b) = omega arith

  pub divisor_race-classes : IsInClasses (divisor_race nth poll seats) (votes_of poll)
  divisor_race-classes = record { tied_alike = tied_alike; alike_tied = alike_tied; alike_runs = alike_runs }
    where
      tied_alike : (l k m j : ℕ) → IsPair (divisor_race nth poll seats) l k → IsPair (divisor_race nth poll seats) m j → NotBelow (divisor_race nth poll seats) l k m j → NotBelow (divisor_race nth poll seats) m j l k → (votes_of poll l ≡ votes_of poll m) × (k ≡ j)
      tied_alike l k m j p q h h' =
          let tie = tie_of l k m j p.0 q.0 h' h in
          let v : 1 ≤ votes_of poll l = sound.with_votes l (runs_if_eligible poll seats l 0 (omega (arith, p))) in
          (tie.1, same_seat k j p.0 q.0 (tie-divisor (bare l k) (bare m j) v tie))

      alike_tied : (l m k : ℕ) → IsPair (divisor_race nth poll seats) l k → IsPair (divisor_race nth poll seats) m k → votes_of poll l ≡ votes_of poll m → NotBelow (divisor_race nth poll seats) l k m k
      alike_tied l m k p q same = not_above_tied (bare l k) (bare m k) (ap (λ n. n * nth k) same, same)

      alike_runs : (l m : ℕ) → 0 < seats_for poll seats l → 0 < seats_for poll seats m → votes_of poll l ≡ votes_of poll m → (◌≡◌ {A = ℕ} 0 0) × (seats_for poll seats l ≡ seats_for poll seats m)
      alike_runs l m p q same = (refl, seats_for-eligible poll seats l (runs_if_eligible poll seats l 0 p) ∙ sym (seats_for-eligible poll seats m (runs_if_eligible poll seats m 0 q)))

  -- what a sharing out and a race have in common
  high_from : (n : ℕ) (a : List ℕ) → n ≤ seats → SharesOut poll n a → (l : ℕ) → get_or a l 0 ≤ seats_for poll seats l
  high_from n a le s l = by_test (eligible_or_not poll l)
    where
      by_test : IsEligible poll l ⊎ ¬ IsEligible poll l → get_or a l 0 ≤ seats_for poll seats l
      by_test (inl e) = omega (arith, seats_for-eligible poll seats l e, get_or-le-sum a l, s.whole)
      by_test (inr ne) = omega (arith, s.eligible_only l ne)

  shares_from : (n : ℕ) (a : List ℕ) → length a ≡ length poll.votes → ((l : ℕ) → get_or a l 0 ≤ seats_for poll seats l) → sum a ≡ n → SharesOut poll n a
  shares_from n a long high whole = record { one_each = long; eligible_only = λ l ne. omega (arith, high l, seats_for-ineligible poll seats l ne); whole = whole }

  wins_if : (n : ℕ) (a : List ℕ) → SharesOut poll n a → (l : ℕ) → 1 ≤ get_or a l 0 → IsEligible poll l
  wins_if n a s l h = by_test (eligible_or_not poll l)
    where
      by_test : IsEligible poll l ⊎ ¬ IsEligible poll l → IsEligible poll l
      by_test (inl e) = e
      by_test (inr ne) = absurd (omega (arith, s.eligible_only l ne))

  -- where one list wins a seat, another has not all of them
  has_room : (n : ℕ) (a : List ℕ) → n ≤ seats → sum a ≡ n → (l m : ℕ) → l ≢ m → 1 ≤ get_or a l 0 → IsEligible poll m → get_or a m 0 < seats_for poll seats m
  has_room n a le whole l m ne win e = omega (arith, seats_for-eligible poll seats m e, two-le-sum a l m ne)

  -- the definitions' quotients have the rule's unit, which cancels
  module _ (unit : ℕ) (some_unit : 1 ≤ unit) where
    to_above : (l k m j : ℕ) → IsAboveByVotes nth unit poll l k m j → RanksAboveByVotes (bare l k) (bare m j)
    to_above l k m j (inl h) = inl ((scaled-greater (votes_of poll m) (nth k) (votes_of poll l) (nth j) unit some_unit).0 h)
    to_above l k m j (inr t) = inr ((scaled-level (votes_of poll l) (nth j) (votes_of poll m) (nth k) unit some_unit).0 t.0, t.1)

    pub from_above : (l k m j : ℕ) → RanksAboveByVotes (bare l k) (bare m j) → IsAboveByVotes nth unit poll l k m j
    from_above l k m j (inl h) = inl ((scaled-greater (votes_of poll m) (nth k) (votes_of poll l) (nth j) unit some_unit).1 h)
    from_above l k m j (inr t) = inr ((scaled-level (votes_of poll l) (nth j) (votes_of poll m) (nth k) unit some_unit).1 t.0, t.1)

    to_tie : (l k m j : ℕ) → IsTiedByVotes nth unit poll l k m j → TiesByVotes (bare l k) (bare m j)
    to_tie l k m j t = ((scaled-level (votes_of poll l) (nth j) (votes_of poll m) (nth k) unit some_unit).0 t.0, t.1)

    pub from_tie : (l k m j : ℕ) → TiesByVotes (bare l k) (bare m j) → IsTiedByVotes nth unit poll l k m j
    from_tie l k m j t = ((scaled-level (votes_of poll l) (nth j) (votes_of poll m) (nth k) unit some_unit).1 t.0, t.1)

    pub fair_from_by_votes : (n : ℕ) (a : List ℕ) → n ≤ seats → IsDivisorAllotmentByVotes nth unit poll n a → IsFair (divisor_race nth poll seats) n a
    fair_from_by_votes n a le w =
        record {
          one_each = w.shares.one_each;
          low = λ l. omega arith;
          high = high_from n a le w.shares;
          total = w.shares.whole;
          last_not_below_next = λ l m ne win room ab. w.last_not_below_next l m (wins_if n a w.shares l win) (runs_if_eligible poll seats m _ room) ne win (from_above _ _ _ _ ab);
        }

    pub by_votes_from_fair : (n : ℕ) (a : List ℕ) → n ≤ seats → IsFair (divisor_race nth poll seats) n a → IsDivisorAllotmentByVotes nth unit poll n a
    by_votes_from_fair n a le f =
        record { shares = shares_from n a f.one_each f.high f.total; last_not_below_next = λ l m el em ne win ab. f.last_not_below_next l m ne win (has_room n a le f.total l m ne win em) (to_above _ _ _ _ ab) }

    -- what is above in the strict rank is not below in the weak one
    not_below : (lot_rule : LotRule) (lot : List ℕ) (l k m j : ℕ) → 1 ≤ k → 1 ≤ j → IsAbove nth unit lot_rule poll lot l k m j → ¬ IsAboveByVotes nth unit poll m j l k
    not_below lot_rule lot l k m j pk pj (inl ab) back = weak-one_way (bare l k) (bare m j) (d.positive k pk) (d.positive j pj) (to_above l k m j ab) (to_above m j l k back)
    not_below lot_rule lot l k m j pk pj (inr t) back = not_above_tied (bare l k) (bare m j) (to_tie l k m j t.0) (to_above m j l k back)

    -- an allotment is one by the votes alone in which each tie goes to the list that comes first
    pub by_votes_from_allotment : (lot_rule : LotRule) (lot : List ℕ) (n : ℕ) (a : List ℕ) → IsDivisorAllotment nth unit lot_rule poll lot n a → IsDivisorAllotmentByVotes nth unit poll n a
    by_votes_from_allotment lot_rule lot n a w =
        record { shares = w.shares; last_not_below_next = λ l m el em ne win. not_below lot_rule lot l (get_or a l 0) m (get_or a m 0 + 1) win (omega arith) (w.last_above_next l m el em ne win) }

    pub choice_from_allotment : (lot_rule : LotRule) (lot : List ℕ) (n : ℕ) (a : List ℕ) → IsDivisorAllotment nth unit lot_rule poll lot n a → (l m : ℕ) → IsTie (divisor_race nth poll seats) a l m → ComesFirst lot_rule lot l m (get_or a l 0)
    choice_from_allotment lot_rule lot n a w l m t = by_rank (w.last_above_next l m (wins_if n a w.shares l t.wins) (runs_if_eligible poll seats m (get_or a m 0) t.runs) t.apart t.wins)
      where
        by_rank : IsAbove nth unit lot_rule poll lot l (get_or a l 0) m (get_or a m 0 + 1) → ComesFirst lot_rule lot l m (get_or a l 0)
        by_rank (inl ab) = absurd (t.tied (to_above l (get_or a l 0) m (get_or a m 0 + 1) ab))
        by_rank (inr u) = u.1

    pub allotment_from_choice : (lot_rule : LotRule) (lot : List ℕ) (n : ℕ) (a : List ℕ) → n ≤ seats → IsFair (divisor_race nth poll seats) n a → ((l m : ℕ) → IsTie (divisor_race nth poll seats) a l m → ComesFirst lot_rule lot l m (get_or a l 0)) → IsDivisorAllotment nth unit lot_rule poll lot n a
    allotment_from_choice lot_rule lot n a le f choice = record { shares = shares_from n a f.one_each f.high f.total; last_above_next = above }
      where
        above : (l m : ℕ) → IsEligible poll l → IsEligible poll m → l ≢ m → 1 ≤ get_or a l 0 → IsAbove nth unit lot_rule poll lot l (get_or a l 0) m (get_or a m 0 + 1)
        above l m el em ne win = by_rank (weak-decided (bare l (get_or a l 0)) (bare m (get_or a m 0 + 1)) (d.positive (get_or a l 0) win) (d.positive (get_or a m 0 + 1) (omega arith)))
          where
            room : get_or a m 0 < seats_for poll seats m
            room = has_room n a le f.total l m ne win em

            by_rank : RanksAboveByVotes (bare l (get_or a l 0)) (bare m (get_or a m 0 + 1)) ⊎ ¬ RanksAboveByVotes (bare l (get_or a l 0)) (bare m (get_or a m 0 + 1)) → IsAbove nth unit lot_rule poll lot l (get_or a l 0) m (get_or a m 0 + 1)
            by_rank (inl ab) = inl (from_above l (get_or a l 0) m (get_or a m 0 + 1) ab)
            by_rank (inr nb) =
                inr (from_tie l (get_or a l 0) m (get_or a m 0 + 1) (tie_of l (get_or a l 0) m (get_or a m 0 + 1) win (omega arith) nb (f.last_not_below_next l m ne win room)), choice l m (record { apart = ne; wins = win; runs = room; tied = nb }))

    -- under a proper lot what is above with its place is above in the strict rank
    pub above_from_placed : (lot_rule : LotRule) (lot : List ℕ) → IsProperLot poll lot → (l k m j : ℕ) → IsPair (divisor_race nth poll seats) l k → IsPair (divisor_race nth poll seats) m j → RanksAbove (pair_of nth lot_rule poll lot l k) (pair_of nth lot_rule poll lot m j) → IsAbove nth unit lot_rule poll lot l k m j
    above_from_placed lot_rule lot proper l k m j p q (inl ab) = inl (from_above l k m j ab)
    above_from_placed lot_rule lot proper l k m j p q (inr t) =
        let el = runs_if_eligible poll seats l 0 (omega (arith, p)) in
        let em = runs_if_eligible poll seats m 0 (omega (arith, q)) in
        let same : k ≡ j = same_seat k j p.0 q.0 (tie-divisor (bare l k) (bare m j) (sound.with_votes l el) t.0) in
        let P : ℕ → Type 0 = λ i. place_at lot_rule lot l k < place_at lot_rule lot m i in
        inr (from_tie l k m j t.0, first_if_lower lot_rule poll lot proper l m el em t.0.1 k (subst P (sym same) t.1))

  -- what the places allow, the votes allow
  pub fair_by_votes : (lot_rule : LotRule) (lot : List ℕ) (n : ℕ) (a : List ℕ) → IsFair (placed_divisor_race nth lot_rule poll lot seats) n a → IsFair (divisor_race nth poll seats) n a
  fair_by_votes lot_rule lot n a f =
      record { one_each = f.one_each; low = f.low; high = f.high; total = f.total; last_not_below_next = λ l m ne win room ab. f.last_not_below_next l m ne win room (inl ab) }

  -- no seats at all
  pub no_seats : (lot_rule : LotRule) (lot a : List ℕ) → length a ≡ length poll.votes → ((l : ℕ) → get_or a l 0 ≡ 0) → sum a ≡ 0 → IsFair (placed_divisor_race nth lot_rule poll lot seats) 0 a
  no_seats lot_rule lot a long zeros whole =
      record { one_each = long; low = λ l. omega arith; high = λ l. omega (arith, zeros l); total = whole; last_not_below_next = λ l m ne win room. absurd (omega (arith, zeros l)) }
