-- Scans of the lists by the votes alone: the highest next seat and the lowest last one, and what
-- the two say of all seats.
use Rattle.std.proofs.Common.{◌≡◌, ℕ, ◌+◌, ◌<◌, ◌≤◌, ◌≢◌, ◌⊎◌, ◌↔◌, Bool, true, false, IsTrue, not, List, Option, Some, None, length, get_or, sum, refl, sym, ap, subst, ◌∙◌, inl, inr, arith}
use Rattle.std.proofs.lemmas.Bool.{cases_lt, false≢true}
use Rattle.std.proofs.lemmas.List.{get_or_past}
use Rattle.tally_frac.specs.declared.divisors.DivisorRule.{DivisorRule}
use Rattle.tally_setup.specs.Method.{divisor_rule_of}
use Rattle.tally_setup.specs.declared.profile.LotRule.{LotRule}
use Rattle.tally_setup.specs.declared.profile.Method.{Method}
use Rattle.tally_law.specs.Poll.{IsEligible}
use Rattle.tally_law.specs.Rules.{rule_by, rule_with}
use Rattle.tally_allot_award.specs.internal.Race.{IsFair, IsHighestBefore, IsLowestBefore, IsPair, IsWithin, NotBelow}
use Rattle.tally_allot_award.specs.internal.Terms.{Terms, AreSound, vote_race}
use Rattle.tally_allot_award.proofs.DivisorRace.{eligible_or_not}
use Rattle.tally_allot_award.proofs.Race.{IsOrderly, not_below_itself}
use Rattle.tally_allot_award.proofs.Scan.{cap_small}
use Rattle.tally_allot_award.proofs.TermsRace.{races}

-- beyond the lists there are no seats in any case
floor_past : (terms : Terms) → AreSound terms → (l : ℕ) → length terms.poll.votes ≤ l → (vote_race terms).floor l ≡ 0
floor_past terms sound l past = by_test (eligible_or_not terms.poll l)
  where
    by_test : IsEligible terms.poll l ⊎ ¬ IsEligible terms.poll l → (vote_race terms).floor l ≡ 0
    by_test (inl e) = absurd (omega (arith, past, sound.poll.listed l e))
    by_test (inr ne) = ((races terms sound).ineligible l ne).0

-- what holds of each list in turn holds of the vector
pub within_if_each : (terms : Terms) → AreSound terms → (a : List ℕ) (n : ℕ) → length a ≡ length terms.poll.votes → length terms.poll.votes ≤ n → ((k : ℕ) → k < n → ((vote_race terms).floor k ≤ get_or a k 0) × (get_or a k 0 ≤ (vote_race terms).cap k)) → IsWithin (vote_race terms) a
within_if_each terms sound a n long past each = record { one_each = long ∙ sym (races terms sound).count_is; low = λ l. low l (cases_lt l n); high = λ l. high l (cases_lt l n) }
  where
    low : (l : ℕ) → (l < n) ⊎ (n ≤ l) → (vote_race terms).floor l ≤ get_or a l 0
    low l (inl lt) = (each l lt).0
    low l (inr ge) = omega (arith, floor_past terms sound l (omega (arith, past, ge)))

    high : (l : ℕ) → (l < n) ⊎ (n ≤ l) → get_or a l 0 ≤ (vote_race terms).cap l
    high l (inl lt) = (each l lt).1
    high l (inr ge) = omega (arith, get_or_past a l 0 (omega (arith, long, past, ge)))

pub few_at_most : (terms : Terms) → AreSound terms → (l : ℕ) → (vote_race terms).cap l ≤ 501
few_at_most terms sound l = omega (arith, cap_small terms sound l, (races terms sound).same_cap l)

module _ (terms : Terms) (sound : AreSound terms) (a : List ℕ) (w : IsWithin (vote_race terms) a) where
  next_pair : (m : ℕ) → get_or a m 0 < (vote_race terms).cap m → IsPair (vote_race terms) m (get_or a m 0 + 1)
  next_pair m lt = omega (arith, w.low m)

  last_pair : (m : ℕ) → (vote_race terms).floor m < get_or a m 0 → IsPair (vote_race terms) m (get_or a m 0)
  last_pair m lt = omega (arith, w.high m)

  -- one list more
  with_next : (l n : ℕ) → ((m : ℕ) → m < n → get_or a m 0 < (vote_race terms).cap m → NotBelow (vote_race terms) l (get_or a l 0 + 1) m (get_or a m 0 + 1)) → (get_or a n 0 < (vote_race terms).cap n → NotBelow (vote_race terms) l (get_or a l 0 + 1) n (get_or a n 0 + 1)) → (m : ℕ) → m < n + 1 → get_or a m 0 < (vote_race terms).cap m → NotBelow (vote_race terms) l (get_or a l 0 + 1) m (get_or a m 0 + 1)
  with_next l n before here m lt = split (cases_lt m n)
    where
      split : (m < n) ⊎ (n ≤ m) → get_or a m 0 < (vote_race terms).cap m → NotBelow (vote_race terms) l (get_or a l 0 + 1) m (get_or a m 0 + 1)
      split (inl h) = before m h
      split (inr h) = let e : n ≡ m = omega arith in let P : ℕ → Type 0 = λ i. get_or a i 0 < (vote_race terms).cap i → NotBelow (vote_race terms) l (get_or a l 0 + 1) i (get_or a i 0 + 1) in subst P e here

  pub higher_takes : (n l : ℕ) → n < length terms.poll.votes → IsHighestBefore (vote_race terms) a n (Some l) → get_or a n 0 < (vote_race terms).cap n → (vote_race terms).Above n (get_or a n 0 + 1) l (get_or a l 0 + 1) → IsHighestBefore (vote_race terms) a (n + 1) (Some n)
  higher_takes n l inside h runs ab =
      let o = (races terms sound).by_votes in
      let pn = next_pair n runs in
      let pl = next_pair l h.1 in
      (omega (arith, inside, (races terms sound).count_is), runs, with_next n n (λ m lt room. o.chain n _ l _ m _ pn pl (next_pair m room) (o.asym n _ l _ pn pl ab) (h.2 m lt room)) (λ room. not_below_itself (vote_race terms) o n _ pn))

  with_last : (l n : ℕ) → ((m : ℕ) → m < n → (vote_race terms).floor m < get_or a m 0 → NotBelow (vote_race terms) m (get_or a m 0) l (get_or a l 0)) → ((vote_race terms).floor n < get_or a n 0 → NotBelow (vote_race terms) n (get_or a n 0) l (get_or a l 0)) → (m : ℕ) → m < n + 1 → (vote_race terms).floor m < get_or a m 0 → NotBelow (vote_race terms) m (get_or a m 0) l (get_or a l 0)
  with_last l n before here m lt = split (cases_lt m n)
    where
      split : (m < n) ⊎ (n ≤ m) → (vote_race terms).floor m < get_or a m 0 → NotBelow (vote_race terms) m (get_or a m 0) l (get_or a l 0)
      split (inl h) = before m h
      split (inr h) = let e : n ≡ m = omega arith in let P : ℕ → Type 0 = λ i. (vote_race terms).floor i < get_or a i 0 → NotBelow (vote_race terms) i (get_or a i 0) l (get_or a l 0) in subst P e here

  pub lower_takes : (n l : ℕ) → n < length terms.poll.votes → IsLowestBefore (vote_race terms) a n (Some l) → (vote_race terms).floor n < get_or a n 0 → (vote_race terms).Above l (get_or a l 0) n (get_or a n 0) → IsLowestBefore (vote_race terms) a (n + 1) (Some n)
  lower_takes n l inside h wins ab =
      let o = (races terms sound).by_votes in
      let pn = last_pair n wins in
      let pl = last_pair l h.1 in
      (omega (arith, inside, (races terms sound).count_is), wins, with_last n n (λ m lt win. o.chain m _ l _ n _ (last_pair m win) pl pn (h.2 m lt win) (o.asym l _ n _ pl pn ab)) (λ win. not_below_itself (vote_race terms) o n _ pn))

  -- a list that may hold more, or has won a seat, is one of the poll
  runs_within : (m : ℕ) → get_or a m 0 < (vote_race terms).cap m → m < length terms.poll.votes
  runs_within m runs = omega (arith, (races terms sound).within m (omega (arith, runs, w.low m)), (races terms sound).count_is)

  wins_within : (m : ℕ) → (vote_race terms).floor m < get_or a m 0 → m < length terms.poll.votes
  wins_within m wins = omega (arith, (races terms sound).within m (omega (arith, wins, w.high m)), (races terms sound).count_is)

  fair_with : sum a ≡ terms.seats → ((l m : ℕ) → l ≢ m → (vote_race terms).floor l < get_or a l 0 → get_or a m 0 < (vote_race terms).cap m → NotBelow (vote_race terms) l (get_or a l 0) m (get_or a m 0 + 1)) → IsFair (vote_race terms) terms.seats a
  fair_with whole each = record { one_each = w.one_each; low = w.low; high = w.high; total = whole; last_not_below_next = each }

  -- where none may hold more, nothing is left to compare
  pub fair_if_none_runs : sum a ≡ terms.seats → IsHighestBefore (vote_race terms) a (length terms.poll.votes) None → IsFair (vote_race terms) terms.seats a
  fair_if_none_runs whole none = fair_with whole (λ l m apart wins runs. absurd (omega (arith, runs, none m (runs_within m runs))))

  -- the pairs of the two that were found
  module _ (last next : ℕ) (lowest : IsLowestBefore (vote_race terms) a (length terms.poll.votes) (Some last)) (highest : IsHighestBefore (vote_race terms) a (length terms.poll.votes) (Some next)) where
    pub found_pairs : IsPair (vote_race terms) next (get_or a next 0 + 1) × IsPair (vote_race terms) last (get_or a last 0)
    found_pairs = (next_pair next highest.1, last_pair last lowest.1)

    -- the lowest last seat is not below the highest next one
    pub fair_if_not_above : sum a ≡ terms.seats → ¬ (vote_race terms).Above next (get_or a next 0 + 1) last (get_or a last 0) → IsFair (vote_race terms) terms.seats a
    fair_if_not_above whole not_above = fair_with whole each
      where
        each : (l m : ℕ) → l ≢ m → (vote_race terms).floor l < get_or a l 0 → get_or a m 0 < (vote_race terms).cap m → NotBelow (vote_race terms) l (get_or a l 0) m (get_or a m 0 + 1)
        each l m apart wins runs =
            let o = (races terms sound).by_votes in
            let pl = last_pair l wins in
            let pm = next_pair m runs in
            let from_last = o.chain last _ next _ m _ found_pairs.1 found_pairs.0 pm not_above (highest.2 m (runs_within m runs) runs) in
            o.chain l _ last _ m _ pl found_pairs.1 pm (lowest.2 l (wins_within l wins) wins) from_last

    -- one that is below it is that of another list
    pub not_above_if_fair : IsFair (vote_race terms) terms.seats a → ¬ (vote_race terms).Above next (get_or a next 0 + 1) last (get_or a last 0)
    not_above_if_fair fair = by_list (cases_lt next last) (cases_lt last next)
      where
        o : IsOrderly (vote_race terms)
        o = (races terms sound).by_votes

        itself : next ≡ last → ¬ (vote_race terms).Above next (get_or a next 0 + 1) last (get_or a last 0)
        itself same =
            let P : ℕ → Type 0 = λ i. ¬ (vote_race terms).Above next (get_or a next 0 + 1) i (get_or a i 0) in
            let won : IsPair (vote_race terms) next (get_or a next 0) = subst (λ (i : ℕ). IsPair (vote_race terms) i (get_or a i 0)) (sym same) found_pairs.1 in
            subst P same (o.asym next _ next _ won found_pairs.0 (o.falling next (get_or a next 0) (get_or a next 0 + 1) won found_pairs.0 (omega arith)))

        by_list : (next < last) ⊎ (last ≤ next) → (last < next) ⊎ (next ≤ last) → ¬ (vote_race terms).Above next (get_or a next 0 + 1) last (get_or a last 0)
        by_list (inl before) other = fair.last_not_below_next last next (λ same. omega (arith, before, same)) lowest.1 highest.1
        by_list (inr ge) (inl after) = fair.last_not_below_next last next (λ same. omega (arith, after, same)) lowest.1 highest.1
        by_list (inr ge) (inr le) = itself (omega (arith, ge, le))

-- the rule of what was found is the rule of the method
pub named : (method : Method) (lot_rule : LotRule) {found found' : Option DivisorRule} → found ≡ found' → found ≡ divisor_rule_of method →
    rule_with found' lot_rule ≡ rule_by method lot_rule
named method lot_rule e h = ap (λ (r : Option DivisorRule). rule_with r lot_rule) (sym e ∙ h)

-- what is not above is allowed
pub verdict : {A P : Type 0} (above : Bool) → (IsTrue above ↔ A) → (¬ A → P) → (P → ¬ A) → IsTrue (not above) ↔ P
verdict true both to from = (λ none. absurd (false≢true none), λ p. absurd (from p (both.0 refl)))
verdict false both to from = (λ _. to (λ a. false≢true (both.1 a)), λ _. refl)
