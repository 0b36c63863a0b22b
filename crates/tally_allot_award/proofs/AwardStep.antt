-- Giving one seat more: from a vector of n seats that a race allows to
-- one of n + 1, and to any number that the lists can hold.
use Rattle.std.proofs.Common.{◌≡◌, ℕ, zero, suc, ◌+◌, ◌<◌, ◌≤◌, ◌≢◌, ◌⊎◌, List, length, get_or, set, sum, sym, ◌∙◌, subst, inl, inr, ap, arith, get_or-set_same, get_or-set_other, add-zero}
use Rattle.std.proofs.lemmas.Bool.{cases_lt, cases_eq}
use Rattle.std.proofs.lemmas.List.{length-set}
use Rattle.std.proofs.lemmas.List.Sums.{sum_by-set}
use Rattle.tally_allot_award.proofs.Vectors.{some_more_or_none, sum-le}
use Rattle.tally_allot_award.specs.internal.Race.{Race, IsPair, NotBelow, IsFair, IsHighestNext}
use Rattle.tally_allot_award.proofs.Race.{IsOrderly, not_below_itself, earlier_not_below}

-- a with one seat more for list l
abbrev pub one_more : List ℕ → ℕ → List ℕ
one_more a l = set a l (get_or a l 0 + 1)

pub at_one_more : (a : List ℕ) (l : ℕ) → l < length a → get_or (one_more a l) l 0 ≡ get_or a l 0 + 1
at_one_more a l h = get_or-set_same a l _ 0 h

pub beside_one_more : (a : List ℕ) (l m : ℕ) → m ≢ l → get_or (one_more a l) m 0 ≡ get_or a m 0
beside_one_more a l m ne = get_or-set_other a l m _ 0 ne

pub sum-one_more : (a : List ℕ) (l : ℕ) → l < length a → sum (one_more a l) ≡ sum a + 1
sum-one_more a l h = omega (arith, sum_by-set (λ n. n) a l (get_or a l 0 + 1) 0 h)

module _ (race : Race) (o : IsOrderly race) (within : (l : ℕ) → race.floor l < race.cap l → l < race.count) where
  pub award : (n : ℕ) (a : List ℕ) (l : ℕ) → IsFair race n a → IsHighestNext race a l → IsFair race (n + 1) (one_more a l)
  award n a l f h = record { one_each = length-set a l _ ∙ f.one_each; low = low; high = high; total = omega (arith, sum-one_more a l inside, f.total); last_not_below_next = fair }
    where
      inside : l < length a
      inside = omega (arith, within l (omega (arith, f.low l, h.runs)), f.one_each)

      at_l : get_or (one_more a l) l 0 ≡ get_or a l 0 + 1
      at_l = at_one_more a l inside

      low : (m : ℕ) → race.floor m ≤ get_or (one_more a l) m 0
      low m = by_cases (cases_eq m l)
        where
          by_cases : (m ≡ l) ⊎ (m ≡ l → ⊥) → race.floor m ≤ get_or (one_more a l) m 0
          by_cases (inl e) = let P : ℕ → Type 0 = λ i. race.floor i ≤ get_or (one_more a l) i 0 in subst P (sym e) (omega (arith, at_l, f.low l))
          by_cases (inr ne) = omega (arith, beside_one_more a l m ne, f.low m)

      high : (m : ℕ) → get_or (one_more a l) m 0 ≤ race.cap m
      high m = by_cases (cases_eq m l)
        where
          by_cases : (m ≡ l) ⊎ (m ≡ l → ⊥) → get_or (one_more a l) m 0 ≤ race.cap m
          by_cases (inl e) = let P : ℕ → Type 0 = λ i. get_or (one_more a l) i 0 ≤ race.cap i in subst P (sym e) (omega (arith, at_l, h.runs))
          by_cases (inr ne) = omega (arith, beside_one_more a l m ne, f.high m)

      -- the list that got the seat, against another
      new_last : (y : ℕ) → l ≢ y → get_or a y 0 < race.cap y → NotBelow race l (get_or a l 0 + 1) y (get_or a y 0 + 1)
      new_last y ne lt = h.highest y lt

      -- another list, against the next seat of the one that got it
      new_next : (x : ℕ) → x ≢ l → race.floor x < get_or a x 0 → get_or a l 0 + 1 < race.cap l → NotBelow race x (get_or a x 0) l (get_or a l 0 + 1 + 1)
      new_next x ne win lt =
          let p : IsPair race x (get_or a x 0) = omega (arith, f.high x) in
          let q : IsPair race l (get_or a l 0 + 1) = omega (arith, f.low l) in
          let r : IsPair race l (get_or a l 0 + 1 + 1) = omega (arith, f.low l) in
          o.chain x _ l _ l _ p q r (f.last_not_below_next x l ne win h.runs) (earlier_not_below race o l _ _ q r (omega arith))

      fair : (x y : ℕ) → x ≢ y → race.floor x < get_or (one_more a l) x 0 → get_or (one_more a l) y 0 < race.cap y → NotBelow race x (get_or (one_more a l) x 0) y (get_or (one_more a l) y 0 + 1)
      fair x y ne win lt = by_cases (cases_eq x l) (cases_eq y l)
        where
          Wanted : ℕ → ℕ → Type 0
          Wanted i j = NotBelow race x i y (j + 1)

          by_cases : (x ≡ l) ⊎ (x ≡ l → ⊥) → (y ≡ l) ⊎ (y ≡ l → ⊥) → NotBelow race x (get_or (one_more a l) x 0) y (get_or (one_more a l) y 0 + 1)
          by_cases (inl e) (inl e') = absurd (ne (e ∙ sym e'))
          by_cases (inl e) (inr ny) =
              let b : get_or (one_more a l) y 0 ≡ get_or a y 0 = beside_one_more a l y ny in
              rw (e, at_l, b) (new_last y (λ q. ny (sym q)) (omega arith))
          by_cases (inr nx) (inl e') =
              let b : get_or (one_more a l) x 0 ≡ get_or a x 0 = beside_one_more a l x nx in
              let c : get_or (one_more a l) y 0 ≡ get_or a l 0 + 1 = ap (λ i. get_or (one_more a l) i 0) e' ∙ at_l in
              let d : race.cap y ≡ race.cap l = ap race.cap e' in
              rw (b, c, e') (new_next x nx (omega arith) (omega arith))
          by_cases (inr nx) (inr ny) =
              let b : get_or (one_more a l) x 0 ≡ get_or a x 0 = beside_one_more a l x nx in
              let c : get_or (one_more a l) y 0 ≡ get_or a y 0 = beside_one_more a l y ny in
              rw (b, c) (f.last_not_below_next x y ne (omega arith) (omega arith))

  -- the lists before i that run for a seat
  data Best (a : List ℕ) (i : ℕ) : Type 0 where
    highest_is : (l : ℕ) → get_or a l 0 < race.cap l → ((m : ℕ) → m < i → get_or a m 0 < race.cap m → NotBelow race l (get_or a l 0 + 1) m (get_or a m 0 + 1)) → Best a i
    none_runs : ((m : ℕ) → m < i → race.cap m ≤ get_or a m 0) → Best a i

  best_before : (n : ℕ) (a : List ℕ) → IsFair race n a → (i : ℕ) → Best a i
  best_before n a f zero = none_runs (λ m lt. absurd (omega arith))
  best_before n a f (suc i) = by_cases (best_before n a f i) (cases_lt (get_or a i 0) (race.cap i))
    where
      next_of : (m : ℕ) → get_or a m 0 < race.cap m → IsPair race m (get_or a m 0 + 1)
      next_of m lt = omega (arith, f.low m)

      with_last : (l : ℕ) → get_or a l 0 < race.cap l → ((m : ℕ) → m < i → get_or a m 0 < race.cap m → NotBelow race l (get_or a l 0 + 1) m (get_or a m 0 + 1)) → (get_or a i 0 < race.cap i → NotBelow race l (get_or a l 0 + 1) i (get_or a i 0 + 1)) → (m : ℕ) → m < suc i → get_or a m 0 < race.cap m → NotBelow race l (get_or a l 0 + 1) m (get_or a m 0 + 1)
      with_last l r before at_i m lt runs_on = split (cases_lt m i)
        where
          split : (m < i) ⊎ (i ≤ m) → NotBelow race l (get_or a l 0 + 1) m (get_or a m 0 + 1)
          split (inl h) = before m h runs_on
          split (inr h) =
              let e : i ≡ m = omega arith in
              let P : ℕ → Type 0 = λ j. get_or a j 0 < race.cap j → NotBelow race l (get_or a l 0 + 1) j (get_or a j 0 + 1) in
              subst P e at_i runs_on

      ranked : (l : ℕ) → get_or a l 0 < race.cap l → ((m : ℕ) → m < i → get_or a m 0 < race.cap m → NotBelow race l (get_or a l 0 + 1) m (get_or a m 0 + 1)) → get_or a i 0 < race.cap i → race.Above i (get_or a i 0 + 1) l (get_or a l 0 + 1) ⊎ ¬ race.Above i (get_or a i 0 + 1) l (get_or a l 0 + 1) → Best a (suc i)
      ranked l r before runs_on (inr nb) = highest_is l r (with_last l r before (λ _. nb))
      ranked l r before runs_on (inl ab) =
          highest_is i runs_on (with_last i runs_on (λ m lt q. o.chain i _ l _ m _ (next_of i runs_on) (next_of l r) (next_of m q) (o.asym i _ l _ (next_of i runs_on) (next_of l r) ab) (before m lt q)) (λ q. not_below_itself race o i _ (next_of i q)))

      by_cases : Best a i → (get_or a i 0 < race.cap i) ⊎ (race.cap i ≤ get_or a i 0) → Best a (suc i)
      by_cases (highest_is l r before) (inl runs_on) = ranked l r before runs_on (o.decide i _ l _ (next_of i runs_on) (next_of l r))
      by_cases (highest_is l r before) (inr shut) = highest_is l r (with_last l r before (λ q. absurd (omega arith)))
      by_cases (none_runs none) (inl runs_on) = highest_is i runs_on (with_last i runs_on (λ m lt q. absurd (omega (arith, none m lt))) (λ q. not_below_itself race o i _ (next_of i q)))
      by_cases (none_runs none) (inr shut) = none_runs (λ m lt. split m (cases_lt m i) lt)
        where
          split : (m : ℕ) → (m < i) ⊎ (i ≤ m) → m < suc i → race.cap m ≤ get_or a m 0
          split m (inl h) lt = none m h
          split m (inr h) lt = let e : i ≡ m = omega arith in let P : ℕ → Type 0 = λ j. race.cap j ≤ get_or a j 0 in subst P e shut

  -- where fewer seats are given than the lists can hold, some next pair is highest
  pub highest_next : (n : ℕ) (a full : List ℕ) → IsFair race n a → ((l : ℕ) → get_or full l 0 ≤ race.cap l) → length full ≡ race.count → n < sum full → (l : ℕ) × IsHighestNext race a l
  highest_next n a full f fits long less = by_best (best_before n a f race.count)
    where
      runner : ((m : ℕ) × (get_or a m 0 < get_or full m 0)) ⊎ ((m : ℕ) → get_or full m 0 ≤ get_or a m 0) → (m : ℕ) × (get_or a m 0 < race.cap m)
      runner (inl w) = (w.0, omega (arith, w.1, fits w.0))
      runner (inr h) = absurd (omega (arith, sum-le a full (omega (arith, f.one_each)) h, f.total))

      in_race : (m : ℕ) → get_or a m 0 < race.cap m → m < race.count
      in_race m q = within m (omega (arith, f.low m))

      by_best : Best a race.count → (l : ℕ) × IsHighestNext race a l
      by_best (highest_is l r h) = (l, record { runs = r; highest = λ m q. h m (in_race m q) q })
      by_best (none_runs none) = let w = runner (some_more_or_none a full) in absurd (omega (arith, w.1, none w.0 (in_race w.0 w.1)))

  -- from one vector that the race allows to any number of seats more that the lists can hold
  pub further : (n : ℕ) (a full : List ℕ) → IsFair race n a → ((l : ℕ) → get_or full l 0 ≤ race.cap l) → length full ≡ race.count → (k : ℕ) → n + k ≤ sum full → (b : List ℕ) × IsFair race (n + k) b
  further n a full f fits long zero le = (a, rw add-zero f)
  further n a full f fits long (suc k) le =
      let w = further n a full f fits long k (omega arith) in
      let h = highest_next (n + k) w.0 full w.1 fits long (omega arith) in
      let e : n + k + 1 ≡ n + suc k = omega arith in
      let P : ℕ → Type 0 = λ i. IsFair race i (one_more w.0 h.0) in
      (one_more w.0 h.0, subst P e (award (n + k) w.0 h.0 w.1 h.1))
