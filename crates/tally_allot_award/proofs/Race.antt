-- A race for seats, of which the divisor rules and the largest
-- remainders are both cases: what is true of every vector of seats that
-- a total preorder of pairs of a list and a number of seats allows.
use Rattle.std.proofs.Common.{◌≡◌, ℕ, ◌+◌, ◌<◌, ◌≤◌, ◌≢◌, ◌⊎◌, List, get_or, sym, subst, inl, inr, ap, arith}
use Rattle.std.proofs.lemmas.Bool.{cases_lt}
use Rattle.tally_allot_award.specs.internal.Race.{Race, IsPair, NotBelow, IsFair}

-- The pairs are in a total preorder in which each list's pairs fall.
pub record IsOrderly (race : Race) : Type 0 where
  pub decide : (l k m j : ℕ) → IsPair race l k → IsPair race m j → race.Above l k m j ⊎ ¬ race.Above l k m j
  pub asym : (l k m j : ℕ) → IsPair race l k → IsPair race m j → race.Above l k m j → NotBelow race l k m j
  pub chain : (l k m j n i : ℕ) → IsPair race l k → IsPair race m j → IsPair race n i → NotBelow race l k m j → NotBelow race m j n i → NotBelow race l k n i
  pub falling : (l j k : ℕ) → IsPair race l j → IsPair race l k → j < k → race.Above l j l k

-- The seat that list l has more in a and list m has more in b is one seat: the pairs tie.
pub record IsOneSeat (race : Race) (a b : List ℕ) (l m : ℕ) : Type 0 where
  pub gained : get_or a m 0 + 1 ≡ get_or b m 0
  pub lost : get_or b l 0 + 1 ≡ get_or a l 0
  pub wins : IsPair race l (get_or a l 0)
  pub is_next : IsPair race m (get_or a m 0 + 1)
  pub apart : l ≢ m
  pub above : NotBelow race l (get_or a l 0) m (get_or a m 0 + 1)
  pub below : NotBelow race m (get_or a m 0 + 1) l (get_or a l 0)

module _ (race : Race) (o : IsOrderly race) where
  pub not_below_itself : (l k : ℕ) → IsPair race l k → NotBelow race l k l k
  not_below_itself l k p h = o.asym l k l k p p h h

  pub earlier_not_below : (l j k : ℕ) → IsPair race l j → IsPair race l k → j ≤ k → NotBelow race l j l k
  earlier_not_below l j k p q le = by_cases (cases_lt j k)
    where
      by_cases : (j < k) ⊎ (k ≤ j) → NotBelow race l j l k
      by_cases (inl lt) = o.asym l j l k p q (o.falling l j k p q lt)
      by_cases (inr ge) = let e : j ≡ k = omega arith in let P : ℕ → Type 0 = λ i. NotBelow race l j l i in subst P e (not_below_itself l j p)

  -- above what is not below
  pub above_chain : (l k m j n i : ℕ) → IsPair race l k → IsPair race m j → IsPair race n i → race.Above l k m j → NotBelow race m j n i → race.Above l k n i
  above_chain l k m j n i p q r ab nb = by_cases (o.decide l k n i p r)
    where
      by_cases : race.Above l k n i ⊎ ¬ race.Above l k n i → race.Above l k n i
      by_cases (inl h) = h
      by_cases (inr h) = absurd (o.chain m j n i l k q r p nb h ab)

  -- not below what is above
  pub chain_above : (l k m j n i : ℕ) → IsPair race l k → IsPair race m j → IsPair race n i → NotBelow race l k m j → race.Above m j n i → race.Above l k n i
  chain_above l k m j n i p q r nb ab = by_cases (o.decide l k n i p r)
    where
      by_cases : race.Above l k n i ⊎ ¬ race.Above l k n i → race.Above l k n i
      by_cases (inl h) = h
      by_cases (inr h) = absurd (o.chain n i l k m j r p q h nb ab)

  -- Two vectors that the race allows differ in seats that tie.
  pub one_seat : (n : ℕ) (a b : List ℕ) → IsFair race n a → IsFair race n b → (l m : ℕ) → get_or b l 0 < get_or a l 0 → get_or a m 0 < get_or b m 0 → IsOneSeat race a b l m
  one_seat n a b fa fb l m more less =
      record { gained = gained; lost = lost; wins = wins; is_next = is_next; apart = apart; above = first; below = below }
    where
      apart : l ≢ m
      apart e = let e' : get_or a l 0 ≡ get_or a m 0 = ap (λ i. get_or a i 0) e in let e'' : get_or b l 0 ≡ get_or b m 0 = ap (λ i. get_or b i 0) e in omega arith

      apart' : m ≢ l
      apart' e = apart (sym e)

      wins : IsPair race l (get_or a l 0)
      wins = omega (arith, fa.high l, fb.low l)

      is_next : IsPair race m (get_or a m 0 + 1)
      is_next = omega (arith, fb.high m, fa.low m)

      b_wins : IsPair race m (get_or b m 0)
      b_wins = omega (arith, fb.high m, fa.low m)

      b_next : IsPair race l (get_or b l 0 + 1)
      b_next = omega (arith, fa.high l, fb.low l)

      first : NotBelow race l (get_or a l 0) m (get_or a m 0 + 1)
      first = fa.last_not_below_next l m apart wins.0 (omega (arith, fb.high m))

      second : NotBelow race m (get_or b m 0) l (get_or b l 0 + 1)
      second = fb.last_not_below_next m l apart' b_wins.0 (omega (arith, fa.high l))

      next_to_win : NotBelow race m (get_or a m 0 + 1) m (get_or b m 0)
      next_to_win = earlier_not_below m _ _ is_next b_wins (omega arith)

      b_next_to_wins : NotBelow race l (get_or b l 0 + 1) l (get_or a l 0)
      b_next_to_wins = earlier_not_below l _ _ b_next wins (omega arith)

      -- round the circle
      below : NotBelow race m (get_or a m 0 + 1) l (get_or a l 0)
      below = o.chain m _ l _ l _ is_next b_next wins (o.chain m _ m _ l _ is_next b_wins b_next next_to_win second) b_next_to_wins

      win_to_next : NotBelow race m (get_or b m 0) m (get_or a m 0 + 1)
      win_to_next = o.chain m _ l _ m _ b_wins wins is_next (o.chain m _ l _ l _ b_wins b_next wins second b_next_to_wins) first

      wins_to_b_next : NotBelow race l (get_or a l 0) l (get_or b l 0 + 1)
      wins_to_b_next = o.chain l _ m _ l _ wins b_wins b_next (o.chain l _ m _ m _ wins is_next b_wins first next_to_win) second

      gained : get_or a m 0 + 1 ≡ get_or b m 0
      gained = by_cases (cases_lt (get_or a m 0 + 1) (get_or b m 0))
        where
          by_cases : (get_or a m 0 + 1 < get_or b m 0) ⊎ (get_or b m 0 ≤ get_or a m 0 + 1) → get_or a m 0 + 1 ≡ get_or b m 0
          by_cases (inl lt) = absurd (win_to_next (o.falling m _ _ is_next b_wins lt))
          by_cases (inr ge) = omega arith

      lost : get_or b l 0 + 1 ≡ get_or a l 0
      lost = by_cases (cases_lt (get_or b l 0 + 1) (get_or a l 0))
        where
          by_cases : (get_or b l 0 + 1 < get_or a l 0) ⊎ (get_or a l 0 ≤ get_or b l 0 + 1) → get_or b l 0 + 1 ≡ get_or a l 0
          by_cases (inl lt) = absurd (wins_to_b_next (o.falling l _ _ b_next wins lt))
          by_cases (inr ge) = omega arith
