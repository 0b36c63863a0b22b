-- Votes short: why a list is sure of one seat more exactly where its
-- next seat ranks above the lowest that another list has.
use Rattle.std.proofs.Common.{◌≡◌, ℕ, zero, suc, ◌+◌, ◌-◌, ◌*◌, ◌<◌, ◌≤◌, ◌≢◌, ◌⊎◌, ◌↔◌, List, [], ◌∷◌, ◌++◌, Option, None, Some, MatchOption, Result, Ok, Err, IfOk, length, get_or, sum, refl, sym, ◌∙◌, subst, inl, inr, ap, arith, get_or-set_same, get_or-set_other}
use Rattle.std.proofs.lemmas.Bool.{cases_lt, cases_eq}
use Rattle.std.proofs.lemmas.List.{length-set, length_push, get_or_past, get_or_push, get_or_append_left}
use Rattle.std.proofs.Math.Nat.{mul-le-mul_right, mul-le-mul_left, le_of_mul-le-mul_right}
use Rattle.tally_frac.specs.Rank.{Pair, IsHigher, VotesRankAbove}
use Rattle.tally_frac.proofs.FractionLaws.{scaled-greater, scaled-level}
use Rattle.tally_frac.proofs.RankLaws.{weak-decided, weak-one_way, weak-not_below}
use Rattle.tally_setup.specs.declared.profile.LotRule.{LotRule}
use Rattle.tally_law.specs.Poll.{Poll, IsEligible, votes_of, SharesOut}
use Rattle.tally_law.specs.Allotment.{Rule, divisors, IsAllotmentByVotes}
use Rattle.tally_law.specs.DivisorAllotment.{IsDivisorAllotmentByVotes}
use Rattle.tally_allot_award.specs.internal.Terms.{AreDivisors, IsRule, IsSound}
use Rattle.tally_allot_award.proofs.Vectors.{sum-cons, equal_or_exchange, Exchange}
use Rattle.tally_allot_award.proofs.DivisorRace.{eligible_or_not}
use Rattle.tally_allot.specs.VotesShort.{with_more_votes, IsSureOfMore, IsVotesShort, IsLeastNumber, HasNoMoreToGain, AreVotesShort}
use Rattle.tally_allot.proofs.AllotmentLaws.{exists, by_votes}
use Rattle.tally_allot.proofs.LotLaws.{proper_without_lot}
use Rattle.tally_allot.specs.internal.ShortSteps.{RiseSlowly, IsByVotes, AreFewestAbove, IsLowestOther, IsNumberOf, IsAnswerOf, AreAnswers, AreAnswersOf}

-- ---- Pairs of votes and a divisor

abbrev pair : ℕ → ℕ → Pair
pair v d = record { votes = v; divisor = d; place = 0 }

-- above what is not below
pub above_chain : (v d u e t f : ℕ) → 1 ≤ d → 1 ≤ e → 1 ≤ f → VotesRankAbove v d u e → ¬ VotesRankAbove t f u e → VotesRankAbove v d t f
above_chain v d u e t f pd pe pf ab nb = by_cases (weak-decided (pair v d) (pair t f) pd pf)
  where
    by_cases : VotesRankAbove v d t f ⊎ ¬ VotesRankAbove v d t f → VotesRankAbove v d t f
    by_cases (inl h) = h
    by_cases (inr h) = absurd (weak-not_below (pair u e) (pair t f) (pair v d) pe pf pd nb h ab)

-- a smaller divisor ranks no lower
pub smaller_divisor : (v d d' u e : ℕ) → d' ≤ d → VotesRankAbove v d u e → VotesRankAbove v d' u e
smaller_divisor v d d' u e le ab = by_cases (cases_lt (u * d') (v * e)) ab
  where
    less : u * d' ≤ u * d
    less = mul-le-mul_left u le

    by_cases : (u * d' < v * e) ⊎ (v * e ≤ u * d') → VotesRankAbove v d u e → VotesRankAbove v d' u e
    by_cases (inl lt) _ = inl lt
    by_cases (inr ge) (inl lt) = absurd (omega (arith, less))
    by_cases (inr ge) (inr t) = inr (omega (arith, less, t.0), t.1)

-- more votes rank no lower
pub more_votes : (v v' d u e : ℕ) → v ≤ v' → VotesRankAbove v d u e → VotesRankAbove v' d u e
more_votes v v' d u e le ab = by_cases (cases_lt (u * d) (v' * e)) ab
  where
    more : v * e ≤ v' * e
    more = mul-le-mul_right e le

    by_cases : (u * d < v' * e) ⊎ (v' * e ≤ u * d) → VotesRankAbove v d u e → VotesRankAbove v' d u e
    by_cases (inl lt) _ = inl lt
    by_cases (inr ge) (inl lt) = absurd (omega (arith, more))
    by_cases (inr ge) (inr t) = inr (omega (arith, more, t.0), omega (arith, t.1))

-- and what ranks above more votes ranks above fewer
pub fewer_votes : (v d u u' e : ℕ) → u ≤ u' → VotesRankAbove v d u' e → VotesRankAbove v d u e
fewer_votes v d u u' e le ab = by_cases (cases_lt (u * d) (v * e)) ab
  where
    less : u * d ≤ u' * d
    less = mul-le-mul_right d le

    by_cases : (u * d < v * e) ⊎ (v * e ≤ u * d) → VotesRankAbove v d u' e → VotesRankAbove v d u e
    by_cases (inl lt) _ = inl lt
    by_cases (inr ge) (inl lt) = absurd (omega (arith, less))
    by_cases (inr ge) (inr t) = inr (omega (arith, less, t.0), omega (arith, t.1))

pub not_above_itself : (v d : ℕ) → ¬ VotesRankAbove v d v d
not_above_itself v d (inl above) = omega (arith, above)
not_above_itself v d (inr above) = omega (arith, above.1)

-- the same of equal numbers
pub above_same : {v v' d d' u u' e e' : ℕ} → v ≡ v' → d ≡ d' → u ≡ u' → e ≡ e' → VotesRankAbove v d u e → VotesRankAbove v' d' u' e'
above_same {v = v} {v' = v'} {d = d} {d' = d'} {u = u} {u' = u'} {e = e} {e' = e'} pv pd pu pe h = rw (sym pv, sym pd, sym pu, sym pe) h

pub fewest_same : {d d' u u' e e' : ℕ} (y : ℕ) → d ≡ d' → u ≡ u' → e ≡ e' → AreFewestAbove d u e y → AreFewestAbove d' u' e' y
fewest_same y pd pu pe f = record { above = above_same refl pd pu pe f.above; one_less = λ h. f.one_less (above_same refl (sym pd) (sym pu) (sym pe) h) }

-- The unit of a rule cancels
pub scaled_up : (unit : ℕ) → 1 ≤ unit → (v d u e : ℕ) → VotesRankAbove v d u e → IsHigher (record { num = v * unit; den = d }) v (record { num = u * unit; den = e }) u
scaled_up unit p v d u e (inl h) = inl ((scaled-greater u d v e unit p).1 h)
scaled_up unit p v d u e (inr t) = inr ((scaled-level v e u d unit p).1 t.0, t.1)

pub scaled_down : (unit : ℕ) → 1 ≤ unit → (v d u e : ℕ) → IsHigher (record { num = v * unit; den = d }) v (record { num = u * unit; den = e }) u → VotesRankAbove v d u e
scaled_down unit p v d u e (inl h) = inl ((scaled-greater u d v e unit p).0 h)
scaled_down unit p v d u e (inr t) = inr ((scaled-level v e u d unit p).0 t.0, t.1)

pub without_unit : (unit : ℕ) → 1 ≤ unit → (nth : ℕ → ℕ) (poll : Poll) (seats : ℕ) (a : List ℕ) → IsDivisorAllotmentByVotes nth unit poll seats a → IsByVotes nth poll seats a
without_unit unit p nth poll seats a w = record { shares = w.shares; last_not_below_next = λ l m el em ne win ab. w.last_not_below_next l m el em ne win (scaled_up unit p _ _ _ _ ab) }

pub with_unit : (unit : ℕ) → 1 ≤ unit → (nth : ℕ → ℕ) (poll : Poll) (seats : ℕ) (a : List ℕ) → IsByVotes nth poll seats a → IsDivisorAllotmentByVotes nth unit poll seats a
with_unit unit p nth poll seats a w = record { shares = w.shares; last_not_below_next = λ l m el em ne win ab. w.last_not_below_next l m el em ne win (scaled_down unit p _ _ _ _ ab) }

-- ---- Sums

all_zero : (a : List ℕ) → ((p : ℕ) → get_or a p 0 ≡ 0) → sum a ≡ 0
all_zero [] h = refl
all_zero (x ∷ xs) h = omega (arith, sum-cons x xs, h 0, all_zero xs (λ p. h (suc p)))

-- where the others hold nothing, one list holds all
pub alone : (a : List ℕ) (m : ℕ) → ((p : ℕ) → p ≢ m → get_or a p 0 ≡ 0) → sum a ≡ get_or a m 0
alone [] m h = refl
alone (x ∷ xs) zero h = omega (arith, sum-cons x xs, all_zero xs (λ p. h (suc p) (λ e. absurd (omega arith))))
alone (x ∷ xs) (suc m) h = omega (arith, sum-cons x xs, h 0 (λ e. absurd (omega arith)), alone xs m (λ p ne. h (suc p) (λ e. ne (omega arith))))

-- ---- More votes

-- the poll with more votes for an eligible list is sound
sound_with_more : (poll : Poll) (m x : ℕ) → IsSound poll → IsEligible poll m → IsSound (with_more_votes poll m x)
sound_with_more poll m x s em = record {
  listed = λ l el. omega (arith, s.listed l el, length-set poll.votes m (votes_of poll m + x));
  with_votes = λ l el. by_list l el (cases_eq l m);
}
  where
    by_list : (l : ℕ) → IsEligible poll l → (l ≡ m) ⊎ (l ≡ m → ⊥) → 1 ≤ votes_of (with_more_votes poll m x) l
    by_list l el (inl e) =
        let own : votes_of (with_more_votes poll m x) m ≡ votes_of poll m + x = get_or-set_same poll.votes m (votes_of poll m + x) 0 (s.listed m em) in
        omega (arith, ap (votes_of (with_more_votes poll m x)) e, own, s.with_votes m em)
    by_list l el (inr ne) =
        let same : votes_of (with_more_votes poll m x) l ≡ votes_of poll l = get_or-set_other poll.votes m l (votes_of poll m + x) 0 ne in
        omega (arith, same, s.with_votes l el)

-- however many votes are added, there is an allotment by the votes alone
more_exists : (rule : Rule) (poll : Poll) (seats m : ℕ) → IsRule rule → IsSound poll → 1 ≤ seats → IsEligible poll m → (y : ℕ) → (b : List ℕ) × IsAllotmentByVotes rule (with_more_votes poll m y) seats b
more_exists rule poll seats m d s some em y =
    let more = with_more_votes poll m y in
    let sound = sound_with_more poll m y s em in
    let w = exists rule more [] seats d sound some (m, em) (proper_without_lot more) in
    (w.0, by_votes rule more [] seats w.0 d sound some w.1)

-- ---- The number

module _ (nth : ℕ → ℕ) (unit : ℕ) (some_unit : 1 ≤ unit) (lot_rule : LotRule) (d : AreDivisors nth) (poll : Poll) (s : IsSound poll) (seats : ℕ) (a : List ℕ) (w : IsByVotes nth poll seats a) (m : ℕ) (em : IsEligible poll m) (c : ℕ) (apart : c ≢ m) (wins : 1 ≤ get_or a c 0) (lowest : (p : ℕ) → p ≢ m → 1 ≤ get_or a p 0 → ¬ VotesRankAbove (votes_of poll c) (nth (get_or a c 0)) (votes_of poll p) (nth (get_or a p 0))) where
  at_m : (x : ℕ) → votes_of (with_more_votes poll m x) m ≡ votes_of poll m + x
  at_m x = get_or-set_same poll.votes m (votes_of poll m + x) 0 (s.listed m em)

  beside_m : (x p : ℕ) → p ≢ m → votes_of (with_more_votes poll m x) p ≡ votes_of poll p
  beside_m x p ne = get_or-set_other poll.votes m p (votes_of poll m + x) 0 ne

  holder : (b : List ℕ) → SharesOut poll seats b → (p : ℕ) → 1 ≤ get_or b p 0 → IsEligible poll p
  holder b shares p h = by_test (eligible_or_not poll p)
    where
      by_test : IsEligible poll p ⊎ ¬ IsEligible poll p → IsEligible poll p
      by_test (inl e) = e
      by_test (inr ne) = absurd (omega (arith, shares.eligible_only p ne))

  positive : (k : ℕ) → 1 ≤ nth (k + 1)
  positive k = d.positive (k + 1) (omega arith)

  no_larger : (j k : ℕ) → 1 ≤ j → j ≤ k → nth j ≤ nth k
  no_larger j k pj le = by_cases (cases_lt j k)
    where
      by_cases : (j < k) ⊎ (k ≤ j) → nth j ≤ nth k
      by_cases (inl lt) = omega (arith, d.rises j k pj lt)
      by_cases (inr ge) = let e : j ≡ k = omega arith in omega (arith, ap nth e)

  -- a pair of the changed poll
  raised : (x p k j : ℕ) → p ≢ m → VotesRankAbove (votes_of poll m + x) (nth k) (votes_of poll p) (nth j) → VotesRankAbove (votes_of (with_more_votes poll m x) m) (nth k) (votes_of (with_more_votes poll m x) p) (nth j)
  raised x p k j ne h = rw (at_m x, beside_m x p ne) h

  -- a seat that no longer ranks below it belongs to another list
  module _ (x : ℕ) (above : VotesRankAbove (votes_of poll m + x) (nth (get_or a m 0 + 1)) (votes_of poll c) (nth (get_or a c 0))) (b : List ℕ) (v : IsByVotes nth (with_more_votes poll m x) seats b) (le : get_or b m 0 ≤ get_or a m 0) where
    too_low : (p : ℕ) → p ≢ m → 1 ≤ get_or b p 0 → ¬ VotesRankAbove (votes_of poll p) (nth (get_or b p 0)) (votes_of poll c) (nth (get_or a c 0)) → ⊥
    too_low p ne win nb =
        let next : VotesRankAbove (votes_of poll m + x) (nth (get_or b m 0 + 1)) (votes_of poll c) (nth (get_or a c 0)) = smaller_divisor _ _ _ _ _ (no_larger (get_or b m 0 + 1) (get_or a m 0 + 1) (omega arith) (omega arith)) above in
        let over : VotesRankAbove (votes_of poll m + x) (nth (get_or b m 0 + 1)) (votes_of poll p) (nth (get_or b p 0)) = above_chain _ _ _ _ _ _ (positive (get_or b m 0)) (d.positive _ wins) (d.positive _ win) next nb in
        v.last_not_below_next p m (holder b (record { one_each = v.shares.one_each ∙ length-set poll.votes m (votes_of poll m + x); eligible_only = v.shares.eligible_only; whole = v.shares.whole }) p win) em ne win (raised x p (get_or b m 0 + 1) (get_or b p 0) ne over)

    low_seat : (a ≡ b) ⊎ Exchange a b → ⊥
    low_seat (inl e) =
        let same : get_or a c 0 ≡ get_or b c 0 = ap (λ u. get_or u c 0) e in
        too_low c apart (omega arith) (subst (λ k. ¬ VotesRankAbove (votes_of poll c) (nth k) (votes_of poll c) (nth (get_or a c 0))) same (not_above_itself _ _))
    low_seat (inr z) = too_low z.m ne win (λ h. by_list (cases_eq z.m c) h)
      where
        ne : z.m ≢ m
        ne e = let e' : get_or a z.m 0 ≡ get_or a m 0 = ap (λ p. get_or a p 0) e in let e'' : get_or b z.m 0 ≡ get_or b m 0 = ap (λ p. get_or b p 0) e in omega (arith, z.less)

        win : 1 ≤ get_or b z.m 0
        win = omega (arith, z.less)

        -- its next seat in the old allotment ranks no lower
        up : VotesRankAbove (votes_of poll z.m) (nth (get_or b z.m 0)) (votes_of poll c) (nth (get_or a c 0)) → VotesRankAbove (votes_of poll z.m) (nth (get_or a z.m 0 + 1)) (votes_of poll c) (nth (get_or a c 0))
        up h = smaller_divisor _ _ _ _ _ (no_larger (get_or a z.m 0 + 1) (get_or b z.m 0) (omega arith) (omega (arith, z.less))) h

        ez : IsEligible poll z.m
        ez = holder b (record { one_each = v.shares.one_each ∙ length-set poll.votes m (votes_of poll m + x); eligible_only = v.shares.eligible_only; whole = v.shares.whole }) z.m win

        by_list : (z.m ≡ c) ⊎ (z.m ≡ c → ⊥) → VotesRankAbove (votes_of poll z.m) (nth (get_or b z.m 0)) (votes_of poll c) (nth (get_or a c 0)) → ⊥
        by_list (inl e) h =
            let h' : VotesRankAbove (votes_of poll c) (nth (get_or a c 0 + 1)) (votes_of poll c) (nth (get_or a c 0)) = subst (λ p. VotesRankAbove (votes_of poll p) (nth (get_or a p 0 + 1)) (votes_of poll c) (nth (get_or a c 0))) e (up h) in
            not_above_itself _ _ (smaller_divisor _ _ _ _ _ (no_larger (get_or a c 0) (get_or a c 0 + 1) wins (omega arith)) h')
        by_list (inr nc) h = w.last_not_below_next c z.m (holder a w.shares c wins) ez (λ e. nc (sym e)) wins (up h)

  -- With this many votes more every allotment gives the list more.
  pub enough : (x : ℕ) → VotesRankAbove (votes_of poll m + x) (nth (get_or a m 0 + 1)) (votes_of poll c) (nth (get_or a c 0)) → IsSureOfMore (divisors nth unit lot_rule) poll seats (get_or a m 0) m x
  enough x above b given = by_cases (cases_lt (get_or a m 0) (get_or b m 0))
    where
      v : IsByVotes nth (with_more_votes poll m x) seats b
      v = without_unit unit some_unit nth (with_more_votes poll m x) seats b given

      by_cases : (get_or a m 0 < get_or b m 0) ⊎ (get_or b m 0 ≤ get_or a m 0) → get_or a m 0 < get_or b m 0
      by_cases (inl lt) = lt
      by_cases (inr le) =
          absurd (low_seat x above b v le (equal_or_exchange a b (omega (arith, w.shares.one_each, v.shares.one_each, length-set poll.votes m (votes_of poll m + x))) (omega (arith, w.shares.whole, v.shares.whole))))

  -- With fewer the seats that there are stay an allotment by the votes alone.
  pub not_enough : (x : ℕ) → ¬ VotesRankAbove (votes_of poll m + x) (nth (get_or a m 0 + 1)) (votes_of poll c) (nth (get_or a c 0)) → IsByVotes nth (with_more_votes poll m x) seats a
  not_enough x below =
      record {
        shares = record { one_each = omega (arith, w.shares.one_each, length-set poll.votes m (votes_of poll m + x)); eligible_only = w.shares.eligible_only; whole = w.shares.whole };
        last_not_below_next = λ l p el ep ne win. by_lists l p el ep ne win (cases_eq l m) (cases_eq p m);
      }
    where
      Changed : ℕ → ℕ → Type 0
      Changed p l = VotesRankAbove (votes_of (with_more_votes poll m x) p) (nth (get_or a p 0 + 1)) (votes_of (with_more_votes poll m x) l) (nth (get_or a l 0))

      by_lists : (l p : ℕ) → IsEligible poll l → IsEligible poll p → l ≢ p → 1 ≤ get_or a l 0 → (l ≡ m) ⊎ (l ≡ m → ⊥) → (p ≡ m) ⊎ (p ≡ m → ⊥) → ¬ VotesRankAbove (votes_of (with_more_votes poll m x) p) (nth (get_or a p 0 + 1)) (votes_of (with_more_votes poll m x) l) (nth (get_or a l 0))
      by_lists l p el ep ne win (inl e) (inl e') h = ne (e ∙ sym e')
      by_lists l p el ep ne win (inl e) (inr np) h =
          let own : votes_of (with_more_votes poll m x) l ≡ votes_of poll l + x = subst (λ q. votes_of (with_more_votes poll m x) q ≡ votes_of poll q + x) (sym e) (at_m x) in
          let h' : VotesRankAbove (votes_of poll p) (nth (get_or a p 0 + 1)) (votes_of poll l + x) (nth (get_or a l 0)) = rw (sym own, sym (beside_m x p np)) h in
          w.last_not_below_next l p el ep ne win (fewer_votes _ _ _ _ _ (omega arith) h')
      by_lists l p el ep ne win (inr nl) (inl e) h =
          let own : votes_of (with_more_votes poll m x) p ≡ votes_of poll m + x = subst (λ q. votes_of (with_more_votes poll m x) q ≡ votes_of poll m + x) (sym e) (at_m x) in
          let held : get_or a p 0 ≡ get_or a m 0 = ap (λ q. get_or a q 0) e in
          let h' : VotesRankAbove (votes_of poll m + x) (nth (get_or a m 0 + 1)) (votes_of poll l) (nth (get_or a l 0)) = rw (sym own, sym held, sym (beside_m x l nl)) h in
          below (above_chain _ _ _ _ _ _ (positive (get_or a m 0)) (d.positive _ win) (d.positive _ wins) h' (lowest l nl win))
      by_lists l p el ep ne win (inr nl) (inr np) h =
          let h' : VotesRankAbove (votes_of poll p) (nth (get_or a p 0 + 1)) (votes_of poll l) (nth (get_or a l 0)) = rw (sym (beside_m x l nl), sym (beside_m x p np)) h in
          w.last_not_below_next l p el ep ne win h'

  -- without more votes its next seat is not above
  now : ¬ VotesRankAbove (votes_of poll m) (nth (get_or a m 0 + 1)) (votes_of poll c) (nth (get_or a c 0))
  now = w.last_not_below_next c m (holder a w.shares c wins) em apart wins

  module _ (y : ℕ) (f : AreFewestAbove (nth (get_or a m 0 + 1)) (votes_of poll c) (nth (get_or a c 0)) y) where
    pub more_than_now : votes_of poll m < y
    more_than_now = by_cases (cases_lt (votes_of poll m) y)
      where
        by_cases : (votes_of poll m < y) ⊎ (y ≤ votes_of poll m) → votes_of poll m < y
        by_cases (inl lt) = lt
        by_cases (inr ge) = absurd (now (more_votes _ _ _ _ _ ge f.above))

    this_or_more : (x : ℕ) → y - votes_of poll m ≤ x → IsSureOfMore (divisors nth unit lot_rule) poll seats (get_or a m 0) m x
    this_or_more x le = enough x (more_votes y (votes_of poll m + x) _ _ _ (omega (arith, more_than_now)) f.above)

    one_less : (x : ℕ) → x < y - votes_of poll m → IsByVotes nth (with_more_votes poll m x) seats a
    one_less x lt = not_enough x (λ h. f.one_less (more_votes (votes_of poll m + x) (y - 1) _ _ _ (omega (arith, more_than_now)) h))

    pub short : IsVotesShort (divisors nth unit lot_rule) poll seats (get_or a m 0) m (y - votes_of poll m)
    short = record { at_least_one = omega (arith, more_than_now); enough = this_or_more (y - votes_of poll m) (omega arith); least = λ x _ sure. least x sure (cases_lt x (y - votes_of poll m)) }
      where
        least : (x : ℕ) → IsSureOfMore (divisors nth unit lot_rule) poll seats (get_or a m 0) m x → (x < y - votes_of poll m) ⊎ (y - votes_of poll m ≤ x) → y - votes_of poll m ≤ x
        least x sure (inl lt) = absurd (omega (arith, sure a (with_unit unit some_unit nth (with_more_votes poll m x) seats a (one_less x lt))))
        least x sure (inr le) = le

    pub least_number : 1 ≤ seats → IsLeastNumber (divisors nth unit lot_rule) poll seats (get_or a m 0) m (y - votes_of poll m)
    least_number some = record {
      one_less = (a, with_unit unit some_unit nth (with_more_votes poll m (y - votes_of poll m - 1)) seats a (one_less (y - votes_of poll m - 1) (omega (arith, more_than_now))), omega arith);
      this_or_more = this_or_more;
      some = more_exists (divisors nth unit lot_rule) poll seats m (d, some_unit) s some em;
    }

    -- The number is below nine times 5,000,000,000.
    module _ (slowly : RiseSlowly nth) (few : (l : ℕ) → votes_of poll l ≤ 5000000000) where
      level : (y - 1) * nth (get_or a c 0) ≤ votes_of poll c * nth (get_or a m 0 + 1)
      level = by_cases (cases_lt (votes_of poll c * nth (get_or a m 0 + 1)) ((y - 1) * nth (get_or a c 0)))
        where
          by_cases : (votes_of poll c * nth (get_or a m 0 + 1) < (y - 1) * nth (get_or a c 0)) ⊎ ((y - 1) * nth (get_or a c 0) ≤ votes_of poll c * nth (get_or a m 0 + 1)) → (y - 1) * nth (get_or a c 0) ≤ votes_of poll c * nth (get_or a m 0 + 1)
          by_cases (inl lt) = absurd (f.one_less (inl lt))
          by_cases (inr le) = le

      pub below : y < 100000000000
      below = by_seats (cases_eq (get_or a m 0) 0)
        where
          by_seats : (get_or a m 0 ≡ 0) ⊎ (get_or a m 0 ≡ 0 → ⊥) → y < 100000000000
          by_seats (inl e) =
              let e' : nth (get_or a m 0 + 1) ≡ nth 1 = ap (λ n. nth (n + 1)) e in
              let le : nth (get_or a m 0 + 1) ≤ nth (get_or a c 0) = omega (arith, e', no_larger 1 (get_or a c 0) (omega arith) wins) in
              let le' : votes_of poll c * nth (get_or a m 0 + 1) ≤ votes_of poll c * nth (get_or a c 0) = mul-le-mul_left (votes_of poll c) le in
              let le'' : y - 1 ≤ votes_of poll c = le_of_mul-le-mul_right (omega (arith, level, le')) (d.positive _ wins) in
              omega (arith, few c)
          by_seats (inr ne) =
              let win : 1 ≤ get_or a m 0 = omega arith in
              let v = votes_of poll m in
              let u = votes_of poll c in
              let first : nth (get_or a m 0 + 1) ≤ 3 * nth (get_or a m 0) = slowly (get_or a m 0) win in
              let second : nth (get_or a c 0 + 1) ≤ 3 * nth (get_or a c 0) = slowly (get_or a c 0) wins in
              let rank = w.last_not_below_next m c em (holder a w.shares c wins) (λ e. apart (sym e)) win in
              let le : votes_of poll c * nth (get_or a m 0) ≤ votes_of poll m * nth (get_or a c 0 + 1) = not_greater _ _ (λ lt. rank (inl lt)) in
              let p : votes_of poll c * nth (get_or a m 0 + 1) ≤ votes_of poll c * (3 * nth (get_or a m 0)) = mul-le-mul_left (votes_of poll c) first in
              let q : votes_of poll m * nth (get_or a c 0 + 1) ≤ votes_of poll m * (3 * nth (get_or a c 0)) = mul-le-mul_left (votes_of poll m) second in
              let all : (y - 1) * nth (get_or a c 0) ≤ 9 * votes_of poll m * nth (get_or a c 0) = omega (arith, level, le, p, q) in
              let le'' : y - 1 ≤ 9 * votes_of poll m = le_of_mul-le-mul_right all (d.positive _ wins) in
              omega (arith, few m)
            where
              not_greater : (n n' : ℕ) → ¬ (n < n') → n' ≤ n
              not_greater n n' h = omega (arith, h)

-- ---- The lowest of the other lists

module _ (nth : ℕ → ℕ) (d : AreDivisors nth) (poll : Poll) (a : List ℕ) (m : ℕ) where
  -- one more list, whose last seat is lower
  pub lower_takes : (n c : ℕ) → n < length poll.votes → n ≢ m → 1 ≤ get_or a n 0 → IsLowestOther nth poll a m n (Some c) → VotesRankAbove (votes_of poll c) (nth (get_or a c 0)) (votes_of poll n) (nth (get_or a n 0)) → IsLowestOther nth poll a m (n + 1) (Some n)
  lower_takes n c inside ne win r ab = (inside, ne, win, λ p lt np wp. lowest p (cases_lt p n) lt np wp)
    where
      lowest : (p : ℕ) → (p < n) ⊎ (n ≤ p) → p < n + 1 → p ≢ m → 1 ≤ get_or a p 0 → ¬ VotesRankAbove (votes_of poll n) (nth (get_or a n 0)) (votes_of poll p) (nth (get_or a p 0))
      lowest p (inl before) lt np wp = weak-not_below (pair (votes_of poll p) (nth (get_or a p 0))) (pair (votes_of poll c) (nth (get_or a c 0))) (pair (votes_of poll n) (nth (get_or a n 0))) (d.positive _ wp) (d.positive _ r.2) (d.positive _ win) (r.3 p before np wp) (weak-one_way (pair (votes_of poll c) (nth (get_or a c 0))) (pair (votes_of poll n) (nth (get_or a n 0))) (d.positive _ r.2) (d.positive _ win) ab)
      lowest p (inr ge) lt np wp =
          let e : n ≡ p = omega arith in
          subst (λ q. ¬ VotesRankAbove (votes_of poll n) (nth (get_or a n 0)) (votes_of poll q) (nth (get_or a q 0))) e (not_above_itself _ _)

  inside_of : (p : ℕ) → 1 ≤ get_or a p 0 → p < length a
  inside_of p win = by_cases (cases_lt p (length a))
    where
      by_cases : (p < length a) ⊎ (length a ≤ p) → p < length a
      by_cases (inl lt) = lt
      by_cases (inr ge) = absurd (omega (arith, get_or_past a p 0 ge))

  -- where a list does not hold all seats, another holds one
  pub other_holds : (seats : ℕ) → IsByVotes nth poll seats a → get_or a m 0 < seats → ¬ IsLowestOther nth poll a m (length a) None
  other_holds seats w not_all none = omega (arith, alone a m (λ p ne. zero_at p ne (cases_lt p (length a))), w.shares.whole)
    where
      zero_at : (p : ℕ) → p ≢ m → (p < length a) ⊎ (length a ≤ p) → get_or a p 0 ≡ 0
      zero_at p ne (inl lt) = none p lt ne
      zero_at p ne (inr ge) = get_or_past a p 0 ge

  module _ (unit : ℕ) (some_unit : 1 ≤ unit) (lot_rule : LotRule) (s : IsSound poll) (seats : ℕ) (w : IsByVotes nth poll seats a) (em : IsEligible poll m) (c : ℕ) (r : IsLowestOther nth poll a m (length a) (Some c)) (y : ℕ) (f : AreFewestAbove (nth (get_or a m 0 + 1)) (votes_of poll c) (nth (get_or a c 0)) y) where
    pub more_is : votes_of poll m < y
    more_is = more_than_now nth unit some_unit lot_rule d poll s seats a w m em c r.1 r.2 (λ p ne win. r.3 p (inside_of p win) ne win) y f

    pub number_is : get_or a m 0 < seats → RiseSlowly nth → ((l : ℕ) → votes_of poll l ≤ 5000000000) → IsNumberOf (divisors nth unit lot_rule) poll seats a m (y - votes_of poll m)
    number_is not_all slowly few =
        let lowest : (p : ℕ) → p ≢ m → 1 ≤ get_or a p 0 → ¬ VotesRankAbove (votes_of poll c) (nth (get_or a c 0)) (votes_of poll p) (nth (get_or a p 0)) = λ p ne win. r.3 p (inside_of p win) ne win in
        record {
          eligible = em;
          not_all = not_all;
          short = short nth unit some_unit lot_rule d poll s seats a w m em c r.1 r.2 lowest y f;
          least = least_number nth unit some_unit lot_rule d poll s seats a w m em c r.1 r.2 lowest y f (omega (arith, not_all));
          below = omega (arith, below nth unit some_unit lot_rule d poll s seats a w m em c r.1 r.2 lowest y f slowly few);
        }

-- ---- The answers of all lists

none-some : {x : ℕ} → ◌≡◌ {A = Option ℕ} None (Some x) → ⊥
none-some e = subst (λ (o : Option ℕ). MatchOption o (Unit {0}) (λ _. ⊥)) e tt

-- what follows from an answer that is there
pub ok_and : {A E : Type 0} {P Q : A → Type 0} → (r : Result A E) → ((x : A) → P x → Q x) → IfOk r P → IfOk r Q
ok_and (Ok x) f h = f x h
ok_and (Err e) f h = h

module _ (rule : Rule) (poll : Poll) (seats : ℕ) (a : List ℕ) where
  pub answers_push : (n : ℕ) (numbers : List (Option ℕ)) (x : Option ℕ) → AreAnswers rule poll seats a n numbers → IsAnswerOf rule poll seats a n x → AreAnswers rule poll seats a (n + 1) (numbers ++ x ∷ [])
  answers_push n numbers x h here = record { one_each = omega (arith, length_push numbers x, h.one_each); each = λ m lt. each m (cases_lt m n) lt }
    where
      each : (m : ℕ) → (m < n) ⊎ (n ≤ m) → m < n + 1 → IsAnswerOf rule poll seats a m (get_or (numbers ++ x ∷ []) m None)
      each m (inl before) lt =
          let e : get_or (numbers ++ x ∷ []) m None ≡ get_or numbers m None = get_or_append_left numbers (x ∷ []) None m (omega (arith, h.one_each)) in
          subst (IsAnswerOf rule poll seats a m) (sym e) (h.each m before)
      each m (inr ge) lt =
          let same : n ≡ m = omega arith in
          let e : get_or (numbers ++ x ∷ []) m None ≡ x = get_or_push numbers x None m (omega (arith, h.one_each)) in
          subst (IsAnswerOf rule poll seats a m) (sym e) (subst (λ l. IsAnswerOf rule poll seats a l x) same here)

  module _ (n : ℕ) (numbers : List (Option ℕ)) (h : AreAnswers rule poll seats a n numbers) where
    number_at : (m x : ℕ) → get_or numbers m None ≡ Some x → IsNumberOf rule poll seats a m x
    number_at m x e = by_cases (cases_lt m n)
      where
        by_cases : (m < n) ⊎ (n ≤ m) → IsNumberOf rule poll seats a m x
        by_cases (inl lt) = subst (IsAnswerOf rule poll seats a m) e (h.each m lt)
        by_cases (inr ge) = absurd (none-some (sym (get_or_past numbers m None (omega (arith, h.one_each))) ∙ e))

    none_at : (m : ℕ) → m < n → (get_or numbers m None ≡ None) ↔ HasNoMoreToGain poll seats a m
    none_at m lt = (λ e. subst (IsAnswerOf rule poll seats a m) e (h.each m lt), λ all. by_answer all (get_or numbers m None) (h.each m lt))
      where
        neither : HasNoMoreToGain poll seats a m → (x : ℕ) → IsNumberOf rule poll seats a m x → ⊥
        neither (inl ne) x number = ne number.eligible
        neither (inr e) x number = omega (arith, number.not_all)

        by_answer : HasNoMoreToGain poll seats a m → (o : Option ℕ) → IsAnswerOf rule poll seats a m o → o ≡ None
        by_answer all None _ = refl
        by_answer all (Some x) number = absurd (neither all x number)

module _ (rule : Rule) (poll : Poll) (lot : List ℕ) (seats : ℕ) (numbers : List (Option ℕ)) (h : AreAnswersOf rule poll lot seats numbers) where
  pub are_short : AreVotesShort rule poll lot seats numbers
  are_short = record {
    held = h.0;
    allotment = h.1;
    none = none_at rule poll seats h.0 (length poll.votes) numbers h.2;
    short = λ m x e. (number_at rule poll seats h.0 (length poll.votes) numbers h.2 m x e).short;
    least = λ m x e. (number_at rule poll seats h.0 (length poll.votes) numbers h.2 m x e).least;
  }

  pub as_many : length numbers ≡ length poll.votes
  as_many = h.2.one_each
