-- The races of a rule, whichever it is.
use Rattle.std.proofs.Common.{◌≡◌, ℕ, ◌+◌, ◌<◌, ◌≤◌, ◌≢◌, ◌⊎◌, List, length, get_or, refl, sym, subst, inl, inr, arith}
use Rattle.std.proofs.lemmas.Bool.{cases_lt}
use Rattle.tally_law.specs.Poll.{Poll, IsEligible, votes_of}
use Rattle.tally_law.specs.Lot.{ComesFirst}
use Rattle.tally_allot_award.specs.internal.Pairs.{place_at}
use Rattle.tally_law.specs.Allotment.{Rule, divisors, hare, IsAllotment, IsAllotmentByVotes}
use Rattle.tally_allot_award.specs.internal.Race.{Race, IsPair, NotBelow, IsFair, IsTie, IsHighestNext, IsLowestLast, IsWithin}
use Rattle.tally_allot_award.specs.internal.Terms.{Terms, AreSound, IsRule, IsSound, IsProperLot, lot_rule_of, vote_race, placed_race}
use Rattle.tally_allot_award.proofs.Race.{IsOrderly, IsOneSeat, one_seat}
use Rattle.tally_allot_award.proofs.Ties.{IsInClasses, tie_alike}
use Rattle.tally_allot_award.proofs.TurnLemmas.{places_apart, first_if_lower, lower_if_first, first_one_way}
use Rattle.tally_allot_award.proofs.Vectors.{Exchange, equal_or_exchange}
use Rattle.tally_allot_award.proofs.DivisorRace as Divisors
use Rattle.tally_allot_award.proofs.HareRace as Hare

-- how the two races of one poll go together
pub record AreRaces (terms : Terms) : Type 0 where
  pub by_votes : IsOrderly (vote_race terms)
  pub placed : IsOrderly (placed_race terms)
  pub within : (l : ℕ) → (vote_race terms).floor l < (vote_race terms).cap l → l < (vote_race terms).count
  pub classes : IsInClasses (vote_race terms) (votes_of terms.poll)
  pub same_count : (placed_race terms).count ≡ (vote_race terms).count
  pub count_is : (vote_race terms).count ≡ length terms.poll.votes
  pub same_floor : (l : ℕ) → (placed_race terms).floor l ≡ (vote_race terms).floor l
  pub same_cap : (l : ℕ) → (placed_race terms).cap l ≡ (vote_race terms).cap l
  pub refines : (l k m j : ℕ) → (vote_race terms).Above l k m j → (placed_race terms).Above l k m j
  pub placed_is : (l k m j : ℕ) → (placed_race terms).Above l k m j → (vote_race terms).Above l k m j ⊎ ((¬ (vote_race terms).Above m j l k) × (place_at (lot_rule_of terms.rule) terms.lot l k < place_at (lot_rule_of terms.rule) terms.lot m j))
  pub runs_if_eligible : (l : ℕ) → IsEligible terms.poll l → (vote_race terms).floor l < (vote_race terms).cap l
  pub eligible_if_runs : (l n : ℕ) → n < (vote_race terms).cap l → IsEligible terms.poll l
  pub ineligible : (l : ℕ) → ¬ IsEligible terms.poll l → ((vote_race terms).floor l ≡ 0) × ((vote_race terms).cap l ≡ 0)
  pub to_fair : (a : List ℕ) → IsAllotmentByVotes terms.rule terms.poll terms.seats a → IsFair (vote_race terms) terms.seats a
  pub from_fair : (a : List ℕ) → IsFair (vote_race terms) terms.seats a → IsAllotmentByVotes terms.rule terms.poll terms.seats a
  pub tie_placed : (l k m j : ℕ) → IsPair (vote_race terms) l k → IsPair (vote_race terms) m j → ¬ (vote_race terms).Above l k m j → ¬ (vote_race terms).Above m j l k → place_at (lot_rule_of terms.rule) terms.lot l k < place_at (lot_rule_of terms.rule) terms.lot m j → (placed_race terms).Above l k m j
  pub to_by_votes : (a : List ℕ) → IsAllotment terms.rule terms.poll terms.lot terms.seats a → IsAllotmentByVotes terms.rule terms.poll terms.seats a
  pub to_choice : (a : List ℕ) → IsAllotment terms.rule terms.poll terms.lot terms.seats a → (l m : ℕ) → IsTie (vote_race terms) a l m → ComesFirst (lot_rule_of terms.rule) terms.lot l m (get_or a l 0)
  pub from_choice : (a : List ℕ) → IsFair (vote_race terms) terms.seats a → ((l m : ℕ) → IsTie (vote_race terms) a l m → ComesFirst (lot_rule_of terms.rule) terms.lot l m (get_or a l 0)) → IsAllotment terms.rule terms.poll terms.lot terms.seats a

pub are_races : (rule : Rule) (poll : Poll) (lot : List ℕ) (seats : ℕ) → IsRule rule → IsSound poll → 1 ≤ seats → AreRaces (record { rule = rule; poll = poll; lot = lot; seats = seats })
are_races (divisors nth unit lot_rule) poll lot seats d s some =
    record {
      by_votes = Divisors.divisor_race-orderly nth d.0 poll s seats;
      placed = Divisors.placed_divisor_race-orderly nth d.0 poll s seats lot_rule lot;
      within = Divisors.divisor_race-within nth d.0 poll s seats;
      classes = Divisors.divisor_race-classes nth d.0 poll s seats;
      same_count = refl;
      count_is = refl;
      same_floor = λ l. refl;
      same_cap = λ l. refl;
      refines = λ l k m j ab. inl ab;
      placed_is = λ l k m j ab. Divisors.placed_by nth lot_rule poll lot l k m j ab;
      runs_if_eligible = λ l e. omega (arith, Divisors.seats_for-eligible poll seats l e);
      eligible_if_runs = λ l n h. Divisors.runs_if_eligible poll seats l n h;
      ineligible = λ l ne. (refl, Divisors.seats_for-ineligible poll seats l ne);
      to_fair = λ a w. Divisors.fair_from_by_votes nth d.0 poll s seats unit d.1 seats a (omega arith) w;
      from_fair = λ a f. Divisors.by_votes_from_fair nth d.0 poll s seats unit d.1 seats a (omega arith) f;
      tie_placed = Divisors.divisor_race-tie_placed nth d.0 poll s seats lot_rule lot;
      to_by_votes = λ a w. Divisors.by_votes_from_allotment nth d.0 poll s seats unit d.1 lot_rule lot seats a w;
      to_choice = λ a w. Divisors.choice_from_allotment nth d.0 poll s seats unit d.1 lot_rule lot seats a w;
      from_choice = λ a f. Divisors.allotment_from_choice nth d.0 poll s seats unit d.1 lot_rule lot seats a (omega arith) f;
    }
are_races hare poll lot seats d s some =
    record {
      by_votes = Hare.remainder_race-orderly poll s seats;
      placed = Hare.placed_remainder_race-orderly poll s seats lot;
      within = Hare.remainder_race-within poll s seats;
      classes = Hare.remainder_race-classes poll s seats;
      same_count = refl;
      count_is = refl;
      same_floor = λ l. refl;
      same_cap = λ l. refl;
      refines = λ l k m j ab. inl ab;
      placed_is = λ l k m j ab. Hare.placed_by poll lot seats l m ab;
      runs_if_eligible = λ l e. omega (arith, Hare.quotas_for-eligible poll seats l e, Hare.most_for-eligible poll seats l e);
      eligible_if_runs = λ l n h. Hare.eligible_if_runs poll seats l n h;
      ineligible = λ l ne. Hare.none_for-ineligible poll seats l ne;
      to_fair = λ a w. Hare.fair_from_by_votes poll s seats a w;
      from_fair = λ a f. Hare.by_votes_from_fair poll s seats a f;
      tie_placed = λ l k m j p q h h' lower. Hare.remainder_race-tie_placed poll s seats lot l m h h' lower;
      to_by_votes = λ a w. Hare.by_votes_from_allotment poll s seats lot a w;
      to_choice = λ a w. Hare.choice_from_allotment poll s seats lot a w;
      from_choice = λ a f. Hare.allotment_from_choice poll s seats lot a f;
    }

pub races : (terms : Terms) → AreSound terms → AreRaces terms
races terms sound = are_races terms.rule terms.poll terms.lot terms.seats sound.rule sound.poll sound.some_seat

pub within_from_fair : (race : Race) (n : ℕ) (a : List ℕ) → IsFair race n a → IsWithin race a
within_from_fair race n a f = record { one_each = f.one_each; low = f.low; high = f.high }

module _ (terms : Terms) (r : AreRaces terms) where
  pub pair_from_placed : (l k : ℕ) → IsPair (placed_race terms) l k → IsPair (vote_race terms) l k
  pair_from_placed l k p = omega (arith, p, r.same_floor l, r.same_cap l)

  pub fair_by_votes : (n : ℕ) (a : List ℕ) → IsFair (placed_race terms) n a → IsFair (vote_race terms) n a
  fair_by_votes n a f =
      record {
        one_each = omega (arith, f.one_each, r.same_count);
        low = λ l. omega (arith, f.low l, r.same_floor l);
        high = λ l. omega (arith, f.high l, r.same_cap l);
        total = f.total;
        last_not_below_next = λ l m ne win room ab. f.last_not_below_next l m ne (omega (arith, r.same_floor l)) (omega (arith, r.same_cap m)) (r.refines _ _ _ _ ab);
      }

  pub within_placed : (l : ℕ) → (placed_race terms).floor l < (placed_race terms).cap l → l < (placed_race terms).count
  within_placed l h = omega (arith, r.within l (omega (arith, r.same_floor l, r.same_cap l)), r.same_count)

  pub highest_by_votes : (a : List ℕ) (m : ℕ) → IsHighestNext (placed_race terms) a m → IsHighestNext (vote_race terms) a m
  highest_by_votes a m h = record { runs = omega (arith, h.runs, r.same_cap m); highest = λ x room ab. h.highest x (omega (arith, r.same_cap x)) (r.refines _ _ _ _ ab) }

  pub lowest_by_votes : (a : List ℕ) (l : ℕ) → IsLowestLast (placed_race terms) a l → IsLowestLast (vote_race terms) a l
  lowest_by_votes a l h = record { wins = omega (arith, h.wins, r.same_floor l); lowest = λ x win ab. h.lowest x (omega (arith, r.same_floor x)) (r.refines _ _ _ _ ab) }

  -- at most one vector is the allotment, whatever the lot: two that
  -- differ would both give one tied seat to the list that comes first
  pub one_allotment : (a b : List ℕ) → IsAllotment terms.rule terms.poll terms.lot terms.seats a → IsAllotment terms.rule terms.poll terms.lot terms.seats b → a ≡ b
  one_allotment a b wa wb = by_cases (equal_or_exchange a b (omega (arith, fa.one_each, fb.one_each)) (omega (arith, fa.total, fb.total)))
    where
      fa : IsFair (vote_race terms) terms.seats a
      fa = r.to_fair a (r.to_by_votes a wa)

      fb : IsFair (vote_race terms) terms.seats b
      fb = r.to_fair b (r.to_by_votes b wb)

      tied : (s : Exchange a b) → IsOneSeat (vote_race terms) a b s.l s.m → ⊥
      tied s w =
          let in_a : IsTie (vote_race terms) a s.l s.m = record { apart = w.apart; wins = w.wins.0; runs = omega (arith, w.is_next); tied = w.below } in
          let P : ℕ → ℕ → Type 0 = λ i j. NotBelow (vote_race terms) s.l i s.m j in
          let above : NotBelow (vote_race terms) s.l (get_or b s.l 0 + 1) s.m (get_or b s.m 0) = subst (P (get_or b s.l 0 + 1)) w.gained (subst (λ i. P i (get_or a s.m 0 + 1)) (sym w.lost) w.above) in
          let in_b : IsTie (vote_race terms) b s.m s.l = record { apart = λ e. w.apart (sym e); wins = omega (arith, w.is_next, w.gained); runs = omega (arith, w.wins, w.lost); tied = above } in
          let alike = tie_alike (vote_race terms) r.by_votes r.within (votes_of terms.poll) r.classes terms.seats a s.l s.m fa in_a in
          let same : get_or b s.m 0 ≡ get_or a s.l 0 = omega (arith, alike.1, w.gained) in
          let Q : ℕ → Type 0 = λ k. ComesFirst (lot_rule_of terms.rule) terms.lot s.m s.l k in
          first_one_way (lot_rule_of terms.rule) terms.lot s.l s.m (get_or a s.l 0) (r.to_choice a wa s.l s.m in_a) (subst Q same (r.to_choice b wb s.m s.l in_b))

      by_cases : (a ≡ b) ⊎ Exchange a b → a ≡ b
      by_cases (inl e) = e
      by_cases (inr s) = absurd (tied s (one_seat (vote_race terms) r.by_votes terms.seats a b fa fb s.l s.m s.more s.less))

  -- under a proper lot one of two pairs is above the other
  pub total_placed : IsProperLot terms.poll terms.lot → (l k m j : ℕ) → l ≢ m → IsPair (placed_race terms) l k → IsPair (placed_race terms) m j → (placed_race terms).Above l k m j ⊎ (placed_race terms).Above m j l k
  total_placed proper l k m j ne p q = by_votes (r.by_votes.decide l k m j vp vq) (r.by_votes.decide m j l k vq vp)
    where
      vp : IsPair (vote_race terms) l k
      vp = pair_from_placed l k p

      vq : IsPair (vote_race terms) m j
      vq = pair_from_placed m j q

      el : IsEligible terms.poll l
      el = r.eligible_if_runs l ((vote_race terms).floor l) (omega (arith, vp))

      em : IsEligible terms.poll m
      em = r.eligible_if_runs m ((vote_race terms).floor m) (omega (arith, vq))

      by_place : ¬ (vote_race terms).Above l k m j → ¬ (vote_race terms).Above m j l k → (place_at (lot_rule_of terms.rule) terms.lot l k < place_at (lot_rule_of terms.rule) terms.lot m j) ⊎ (place_at (lot_rule_of terms.rule) terms.lot m j ≤ place_at (lot_rule_of terms.rule) terms.lot l k) → (place_at (lot_rule_of terms.rule) terms.lot m j < place_at (lot_rule_of terms.rule) terms.lot l k) ⊎ (place_at (lot_rule_of terms.rule) terms.lot l k ≤ place_at (lot_rule_of terms.rule) terms.lot m j) → (placed_race terms).Above l k m j ⊎ (placed_race terms).Above m j l k
      by_place nb nb' (inl lt) _ = inl (r.tie_placed l k m j vp vq nb nb' lt)
      by_place nb nb' (inr _) (inl gt) = inr (r.tie_placed m j l k vq vp nb' nb gt)
      by_place nb nb' (inr ge) (inr le) =
          let alike = r.classes.tied_alike l k m j vp vq nb' nb in
          let P : ℕ → Type 0 = λ i. place_at (lot_rule_of terms.rule) terms.lot l k ≢ place_at (lot_rule_of terms.rule) terms.lot m i in
          let apart : place_at (lot_rule_of terms.rule) terms.lot l k ≢ place_at (lot_rule_of terms.rule) terms.lot m j = subst P alike.1 (places_apart (lot_rule_of terms.rule) terms.poll terms.lot proper l m el em alike.0 k ne) in
          absurd (apart (omega (arith, ge, le)))

      by_votes : (vote_race terms).Above l k m j ⊎ ¬ (vote_race terms).Above l k m j → (vote_race terms).Above m j l k ⊎ ¬ (vote_race terms).Above m j l k → (placed_race terms).Above l k m j ⊎ (placed_race terms).Above m j l k
      by_votes (inl ab) _ = inl (r.refines _ _ _ _ ab)
      by_votes (inr _) (inl ab) = inr (r.refines _ _ _ _ ab)
      by_votes (inr nb) (inr nb') = by_place nb nb' (cases_lt (place_at (lot_rule_of terms.rule) terms.lot l k) (place_at (lot_rule_of terms.rule) terms.lot m j)) (cases_lt (place_at (lot_rule_of terms.rule) terms.lot m j) (place_at (lot_rule_of terms.rule) terms.lot l k))

  -- the two lists of a tie, and that they run for one seat
  pub tied_lists : (a : List ℕ) → IsFair (vote_race terms) terms.seats a → (l m : ℕ) → IsTie (vote_race terms) a l m → IsEligible terms.poll l × IsEligible terms.poll m × (votes_of terms.poll l ≡ votes_of terms.poll m) × (get_or a l 0 ≡ get_or a m 0 + 1)
  tied_lists a f l m t =
      let alike = tie_alike (vote_race terms) r.by_votes r.within (votes_of terms.poll) r.classes terms.seats a l m f t in
      (r.eligible_if_runs l ((vote_race terms).floor l) (omega (arith, f.high l, t.wins)), r.eligible_if_runs m (get_or a m 0) t.runs, alike.0, alike.1)

  -- under a proper lot the allotment is what the race with places allows
  pub from_placed : IsProperLot terms.poll terms.lot → (a : List ℕ) → IsFair (placed_race terms) terms.seats a → IsAllotment terms.rule terms.poll terms.lot terms.seats a
  from_placed proper a f = r.from_choice a v choice
    where
      v : IsFair (vote_race terms) terms.seats a
      v = fair_by_votes terms.seats a f

      choice : (l m : ℕ) → IsTie (vote_race terms) a l m → ComesFirst (lot_rule_of terms.rule) terms.lot l m (get_or a l 0)
      choice l m t = by_rank (total_placed proper l (get_or a l 0) m (get_or a m 0 + 1) t.apart (omega (arith, f.high l, t.wins, r.same_floor l)) (omega (arith, f.low m, t.runs, r.same_cap m)))
        where
          who : IsEligible terms.poll l × IsEligible terms.poll m × (votes_of terms.poll l ≡ votes_of terms.poll m) × (get_or a l 0 ≡ get_or a m 0 + 1)
          who = tied_lists a v l m t

          by_place : (vote_race terms).Above l (get_or a l 0) m (get_or a m 0 + 1) ⊎ ((¬ (vote_race terms).Above m (get_or a m 0 + 1) l (get_or a l 0)) × (place_at (lot_rule_of terms.rule) terms.lot l (get_or a l 0) < place_at (lot_rule_of terms.rule) terms.lot m (get_or a m 0 + 1))) → ComesFirst (lot_rule_of terms.rule) terms.lot l m (get_or a l 0)
          by_place (inl ab) = absurd (t.tied ab)
          by_place (inr e) =
              let P : ℕ → Type 0 = λ j. place_at (lot_rule_of terms.rule) terms.lot l (get_or a l 0) < place_at (lot_rule_of terms.rule) terms.lot m j in
              first_if_lower (lot_rule_of terms.rule) terms.poll terms.lot proper l m who.0 who.1 who.2 (get_or a l 0) (subst P (sym who.3) e.1)

          by_rank : (placed_race terms).Above l (get_or a l 0) m (get_or a m 0 + 1) ⊎ (placed_race terms).Above m (get_or a m 0 + 1) l (get_or a l 0) → ComesFirst (lot_rule_of terms.rule) terms.lot l m (get_or a l 0)
          by_rank (inl ab) = by_place (r.placed_is _ _ _ _ ab)
          by_rank (inr ab) = absurd (f.last_not_below_next l m t.apart (omega (arith, t.wins, r.same_floor l)) (omega (arith, t.runs, r.same_cap m)) ab)

  pub to_placed : IsProperLot terms.poll terms.lot → (a : List ℕ) → IsAllotment terms.rule terms.poll terms.lot terms.seats a → IsFair (placed_race terms) terms.seats a
  to_placed proper a w =
      record {
        one_each = omega (arith, v.one_each, r.same_count);
        low = λ l. omega (arith, v.low l, r.same_floor l);
        high = λ l. omega (arith, v.high l, r.same_cap l);
        total = v.total;
        last_not_below_next = λ l m ne win room ab. by_rank l m ne (omega (arith, win, r.same_floor l)) (omega (arith, room, r.same_cap m)) (r.placed_is _ _ _ _ ab);
      }
    where
      v : IsFair (vote_race terms) terms.seats a
      v = r.to_fair a (r.to_by_votes a w)

      by_rank : (l m : ℕ) → l ≢ m → (vote_race terms).floor l < get_or a l 0 → get_or a m 0 < (vote_race terms).cap m → (vote_race terms).Above m (get_or a m 0 + 1) l (get_or a l 0) ⊎ ((¬ (vote_race terms).Above l (get_or a l 0) m (get_or a m 0 + 1)) × (place_at (lot_rule_of terms.rule) terms.lot m (get_or a m 0 + 1) < place_at (lot_rule_of terms.rule) terms.lot l (get_or a l 0))) → ⊥
      by_rank l m ne win room (inl ab) = v.last_not_below_next l m ne win room ab
      by_rank l m ne win room (inr e) =
          let t : IsTie (vote_race terms) a l m = record { apart = ne; wins = win; runs = room; tied = e.0 } in
          let who = tied_lists a v l m t in
          let lower = lower_if_first (lot_rule_of terms.rule) terms.poll terms.lot proper l m who.0 who.1 who.2 (get_or a l 0) (r.to_choice a w l m t) in
          let P : ℕ → Type 0 = λ j. place_at (lot_rule_of terms.rule) terms.lot m j < place_at (lot_rule_of terms.rule) terms.lot l (get_or a l 0) in
          let other : place_at (lot_rule_of terms.rule) terms.lot m (get_or a l 0) < place_at (lot_rule_of terms.rule) terms.lot l (get_or a l 0) = subst P (sym who.3) e.1 in
          omega (arith, lower, other)
