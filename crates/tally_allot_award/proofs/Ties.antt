-- Where the votes leave a choice: two vectors that a race allows differ
-- in one class of lists of equal votes.
use Rattle.std.proofs.Common.{◌≡◌, ℕ, ◌+◌, ◌-◌, ◌<◌, ◌≤◌, ◌≢◌, ◌⊎◌, List, length, get_or, set, sum, sym, ◌∙◌, subst, inl, inr, ap, arith, get_or-set_same, get_or-set_other}
use Rattle.std.proofs.lemmas.Bool.{cases_lt, cases_eq}
use Rattle.std.proofs.lemmas.List.{length-set}
use Rattle.std.proofs.lemmas.List.Sums.{sum_by-set}
use Rattle.tally_allot_award.proofs.Vectors.{some_less}
use Rattle.tally_allot_award.specs.internal.Race.{Race, IsPair, NotBelow, IsFair, IsTie}
use Rattle.tally_allot_award.proofs.Race.{IsOrderly, IsOneSeat, not_below_itself, earlier_not_below, above_chain, chain_above, one_seat}
use Rattle.tally_allot_award.proofs.AwardStep.{one_more, at_one_more, beside_one_more, sum-one_more}

-- Pairs tie exactly where they are of one number of votes and the same
-- seat, and lists of equal votes run for the same seats.
pub record IsInClasses (race : Race) (votes : ℕ → ℕ) : Type 0 where
  pub tied_alike : (l k m j : ℕ) → IsPair race l k → IsPair race m j → NotBelow race l k m j → NotBelow race m j l k → (votes l ≡ votes m) × (k ≡ j)
  pub alike_tied : (l m k : ℕ) → IsPair race l k → IsPair race m k → votes l ≡ votes m → NotBelow race l k m k
  pub alike_runs : (l m : ℕ) → race.floor l < race.cap l → race.floor m < race.cap m → votes l ≡ votes m → (race.floor l ≡ race.floor m) × (race.cap l ≡ race.cap m)

-- a with the last seat of list l given to list m
abbrev pub exchanged : List ℕ → ℕ → ℕ → List ℕ
exchanged a l m = one_more (set a l (get_or a l 0 - 1)) m

module _ (a : List ℕ) (l m : ℕ) (apart : l ≢ m) (l_in : l < length a) (m_in : m < length a) where
  apart' : m ≢ l
  apart' e = apart (sym e)

  pub exchanged_at_l : get_or (exchanged a l m) l 0 ≡ get_or a l 0 - 1
  exchanged_at_l = beside_one_more (set a l (get_or a l 0 - 1)) m l apart ∙ get_or-set_same a l _ 0 l_in

  pub exchanged_at_m : get_or (exchanged a l m) m 0 ≡ get_or a m 0 + 1
  exchanged_at_m =
      let e : get_or (set a l (get_or a l 0 - 1)) m 0 ≡ get_or a m 0 = get_or-set_other a l m _ 0 apart' in
      let f : length (set a l (get_or a l 0 - 1)) ≡ length a = length-set a l _ in
      at_one_more (set a l (get_or a l 0 - 1)) m (omega arith) ∙ ap (λ n. n + 1) e

  pub exchanged_beside : (x : ℕ) → x ≢ l → x ≢ m → get_or (exchanged a l m) x 0 ≡ get_or a x 0
  exchanged_beside x nl nm = beside_one_more (set a l (get_or a l 0 - 1)) m x nm ∙ get_or-set_other a l x _ 0 nl

  pub length-exchanged : length (exchanged a l m) ≡ length a
  length-exchanged = length-set (set a l (get_or a l 0 - 1)) m _ ∙ length-set a l _

  pub sum-exchanged : 1 ≤ get_or a l 0 → sum (exchanged a l m) ≡ sum a
  sum-exchanged le =
      let f : length (set a l (get_or a l 0 - 1)) ≡ length a = length-set a l _ in
      omega (arith, sum-one_more (set a l (get_or a l 0 - 1)) m (omega arith), sum_by-set (λ n. n) a l (get_or a l 0 - 1) 0 l_in)

module _ (race : Race) (o : IsOrderly race) (within : (l : ℕ) → race.floor l < race.cap l → l < race.count) where
  -- Exchanging a seat between two lists that tie gives a vector that the race allows as well.
  pub exchange : (n : ℕ) (a : List ℕ) (l m : ℕ) → IsFair race n a → IsTie race a l m → IsFair race n (exchanged a l m)
  exchange n a l m f t =
      record { one_each = length-exchanged a l m t.apart l_in m_in ∙ f.one_each; low = low; high = high; total = sum-exchanged a l m t.apart l_in m_in (omega (arith, t.wins)) ∙ f.total; last_not_below_next = fair }
    where
      b : List ℕ
      b = exchanged a l m

      l_in : l < length a
      l_in = omega (arith, within l (omega (arith, f.high l, t.wins)), f.one_each)

      m_in : m < length a
      m_in = omega (arith, within m (omega (arith, f.low m, t.runs)), f.one_each)

      m_apart : m ≢ l
      m_apart e = t.apart (sym e)

      at_l : get_or (exchanged a l m) l 0 ≡ get_or a l 0 - 1
      at_l = exchanged_at_l a l m t.apart l_in m_in

      at_m : get_or (exchanged a l m) m 0 ≡ get_or a m 0 + 1
      at_m = exchanged_at_m a l m t.apart l_in m_in

      beside : (x : ℕ) → x ≢ l → x ≢ m → get_or (exchanged a l m) x 0 ≡ get_or a x 0
      beside = exchanged_beside a l m t.apart l_in m_in

      on_each : (P : ℕ → ℕ → Type 0) → P l (get_or a l 0 - 1) → P m (get_or a m 0 + 1) → ((x : ℕ) → x ≢ l → x ≢ m → P x (get_or a x 0)) → (x : ℕ) → P x (get_or (exchanged a l m) x 0)
      on_each P pl pm px x = by_cases (cases_eq x l) (cases_eq x m)
        where
          by_cases : (x ≡ l) ⊎ (x ≡ l → ⊥) → (x ≡ m) ⊎ (x ≡ m → ⊥) → P x (get_or (exchanged a l m) x 0)
          by_cases (inl e) _ = rw (e, at_l) pl
          by_cases (inr nl) (inl e) = rw (e, at_m) pm
          by_cases (inr nl) (inr nm) = let q : get_or (exchanged a l m) x 0 ≡ get_or a x 0 = beside x nl nm in rw q (px x nl nm)

      low : (x : ℕ) → race.floor x ≤ get_or (exchanged a l m) x 0
      low = on_each (λ x k. race.floor x ≤ k) (omega (arith, t.wins)) (omega (arith, f.low m)) (λ x _ _. f.low x)

      high : (x : ℕ) → get_or (exchanged a l m) x 0 ≤ race.cap x
      high = on_each (λ x k. k ≤ race.cap x) (omega (arith, f.high l)) (omega (arith, t.runs)) (λ x _ _. f.high x)

      last : IsPair race l (get_or a l 0)
      last = omega (arith, f.high l, t.wins)

      next : IsPair race m (get_or a m 0 + 1)
      next = omega (arith, f.low m, t.runs)

      -- every last seat now is not below the one that was exchanged, and that is not below any next
      to_middle : (x : ℕ) → race.floor x < get_or (exchanged a l m) x 0 → NotBelow race x (get_or (exchanged a l m) x 0) l (get_or a l 0)
      to_middle = on_each (λ x k. race.floor x < k → NotBelow race x k l (get_or a l 0)) (λ w. earlier_not_below race o l _ _ (omega (arith, f.high l)) last (omega arith)) (λ w. t.tied) (λ x nl nm w. o.chain x _ m _ l _ (omega (arith, f.high x)) next last (f.last_not_below_next x m nm w t.runs) t.tied)

      from_middle : (y : ℕ) → get_or (exchanged a l m) y 0 < race.cap y → NotBelow race l (get_or a l 0) y (get_or (exchanged a l m) y 0 + 1)
      from_middle = on_each (λ y k. k < race.cap y → NotBelow race l (get_or a l 0) y (k + 1))
          (λ w. let e : get_or a l 0 - 1 + 1 ≡ get_or a l 0 = omega (arith, t.wins) in rw e (not_below_itself race o l _ last))
          (λ w. o.chain l _ m _ m _ last next (omega (arith, f.low m)) (f.last_not_below_next l m t.apart t.wins t.runs) (earlier_not_below race o m _ _ next (omega (arith, f.low m)) (omega arith)))
          (λ y nl nm w. f.last_not_below_next l y (λ e. nl (sym e)) t.wins w)

      fair : (x y : ℕ) → x ≢ y → race.floor x < get_or (exchanged a l m) x 0 → get_or (exchanged a l m) y 0 < race.cap y → NotBelow race x (get_or (exchanged a l m) x 0) y (get_or (exchanged a l m) y 0 + 1)
      fair x y ne w r = o.chain x _ l _ y _ (omega (arith, high x)) last (omega (arith, low y)) (to_middle x w) (from_middle y r)

module _ (race : Race) (o : IsOrderly race) (within : (l : ℕ) → race.floor l < race.cap l → l < race.count) (votes : ℕ → ℕ) (c : IsInClasses race votes) where
  -- the two lists of a tie have equal votes, and one a seat more
  pub tie_alike : (n : ℕ) (a : List ℕ) (l m : ℕ) → IsFair race n a → IsTie race a l m → (votes l ≡ votes m) × (get_or a l 0 ≡ get_or a m 0 + 1)
  tie_alike n a l m f t =
      c.tied_alike l _ m _ (omega (arith, f.high l, t.wins)) (omega (arith, f.low m, t.runs)) (f.last_not_below_next l m t.apart t.wins t.runs) t.tied

  -- at a tie each list of those votes holds the seat that the two share, or one less
  pub class_holds : (n : ℕ) (a : List ℕ) (l m x : ℕ) → IsFair race n a → IsTie race a l m → race.floor x < race.cap x → votes x ≡ votes l → (get_or a x 0 ≡ get_or a l 0) ⊎ (get_or a x 0 + 1 ≡ get_or a l 0)
  class_holds n a l m x f t runs same = by_cases (cases_lt (get_or a x 0 + 1) (get_or a l 0)) (cases_lt (get_or a l 0) (get_or a x 0))
    where
      alike : (votes l ≡ votes m) × (get_or a l 0 ≡ get_or a m 0 + 1)
      alike = tie_alike n a l m f t

      last : IsPair race l (get_or a l 0)
      last = omega (arith, f.high l, t.wins)

      with_l : (race.floor x ≡ race.floor l) × (race.cap x ≡ race.cap l)
      with_l = c.alike_runs x l runs (omega (arith, f.high l, t.wins)) same

      with_m : (race.floor x ≡ race.floor m) × (race.cap x ≡ race.cap m)
      with_m = c.alike_runs x m runs (omega (arith, f.low m, t.runs)) (same ∙ alike.0)

      at_k : IsPair race x (get_or a l 0)
      at_k = omega (arith, last, with_l)

      too_few : get_or a x 0 + 1 < get_or a l 0 → ⊥
      too_few lt =
          let ne : l ≢ x = λ e. let e' : get_or a l 0 ≡ get_or a x 0 = ap (λ i. get_or a i 0) e in omega arith in
          let p : IsPair race x (get_or a x 0 + 1) = omega (arith, f.low x, at_k) in
          let above : race.Above x (get_or a x 0 + 1) l (get_or a l 0) = above_chain race o x _ x _ l _ p at_k last (o.falling x _ _ p at_k lt) (c.alike_tied x l _ at_k last same) in
          f.last_not_below_next l x ne t.wins (omega (arith, at_k)) above

      too_many : get_or a l 0 < get_or a x 0 → ⊥
      too_many lt =
          let ne : x ≢ m = λ e. let e' : get_or a x 0 ≡ get_or a m 0 = ap (λ i. get_or a i 0) e in omega (arith, alike.1) in
          let p : IsPair race x (get_or a x 0) = omega (arith, f.high x, at_k) in
          let next : IsPair race m (get_or a m 0 + 1) = omega (arith, f.low m, t.runs) in
          let next_l : IsPair race m (get_or a l 0) = omega (arith, next, alike.1) in
          let same_m : NotBelow race m (get_or a l 0) x (get_or a l 0) = c.alike_tied m x _ next_l at_k (sym (same ∙ alike.0)) in
          let above : race.Above m (get_or a l 0) x (get_or a x 0) = chain_above race o m _ x _ x _ next_l at_k p same_m (o.falling x _ _ at_k p lt) in
          let P : ℕ → Type 0 = λ k. race.Above m k x (get_or a x 0) in
          f.last_not_below_next x m ne p.0 t.runs (subst P alike.1 above)

      by_cases : (get_or a x 0 + 1 < get_or a l 0) ⊎ (get_or a l 0 ≤ get_or a x 0 + 1) → (get_or a l 0 < get_or a x 0) ⊎ (get_or a x 0 ≤ get_or a l 0) → (get_or a x 0 ≡ get_or a l 0) ⊎ (get_or a x 0 + 1 ≡ get_or a l 0)
      by_cases (inl lt) _ = absurd (too_few lt)
      by_cases (inr _) (inl lt) = absurd (too_many lt)
      by_cases (inr ge) (inr le) = split (cases_eq (get_or a x 0) (get_or a l 0))
        where
          split : (get_or a x 0 ≡ get_or a l 0) ⊎ (get_or a x 0 ≡ get_or a l 0 → ⊥) → (get_or a x 0 ≡ get_or a l 0) ⊎ (get_or a x 0 + 1 ≡ get_or a l 0)
          split (inl e) = inl e
          split (inr ne) = inr (omega arith)

  -- at a tie each list of those votes has other seats in another vector that the race allows
  pub class_differs : (n : ℕ) (a : List ℕ) (l m x : ℕ) → IsFair race n a → IsTie race a l m → race.floor x < race.cap x → votes x ≡ votes l → (b : List ℕ) × IsFair race n b × (get_or b x 0 ≢ get_or a x 0)
  class_differs n a l m x f t runs same = by_seats (class_holds n a l m x f t runs same)
    where
      alike : (votes l ≡ votes m) × (get_or a l 0 ≡ get_or a m 0 + 1)
      alike = tie_alike n a l m f t

      last : IsPair race l (get_or a l 0)
      last = omega (arith, f.high l, t.wins)

      next : IsPair race m (get_or a m 0 + 1)
      next = omega (arith, f.low m, t.runs)

      with_l : (race.floor x ≡ race.floor l) × (race.cap x ≡ race.cap l)
      with_l = c.alike_runs x l runs (omega (arith, f.high l, t.wins)) same

      in_vector : (y : ℕ) → race.floor y < race.cap y → y < length a
      in_vector y r = omega (arith, within y r, f.one_each)

      by_seats : (get_or a x 0 ≡ get_or a l 0) ⊎ (get_or a x 0 + 1 ≡ get_or a l 0) → (b : List ℕ) × IsFair race n b × (get_or b x 0 ≢ get_or a x 0)
      by_seats (inl e) =
          let ne : x ≢ m = λ q. let e' : get_or a x 0 ≡ get_or a m 0 = ap (λ i. get_or a i 0) q in omega (arith, alike.1) in
          let p : IsPair race x (get_or a m 0 + 1) = omega (arith, last, with_l, alike.1) in
          let P : ℕ → Type 0 = λ k. NotBelow race m (get_or a m 0 + 1) x k in
          let tied : NotBelow race m (get_or a m 0 + 1) x (get_or a x 0) = subst P (omega (arith, alike.1)) (c.alike_tied m x _ next p (sym (same ∙ alike.0))) in
          let s : IsTie race a x m = record { apart = ne; wins = omega (arith, with_l, last); runs = t.runs; tied = tied } in
          let d : get_or (exchanged a x m) x 0 ≡ get_or a x 0 - 1 = exchanged_at_l a x m ne (in_vector x runs) (in_vector m (omega (arith, next))) in
          (exchanged a x m, exchange race o within n a x m f s, λ q. omega (arith, last, d, q))
      by_seats (inr e) =
          let ne : l ≢ x = λ q. let e' : get_or a l 0 ≡ get_or a x 0 = ap (λ i. get_or a i 0) q in omega arith in
          let p : IsPair race x (get_or a l 0) = omega (arith, last, with_l) in
          let P : ℕ → Type 0 = λ k. NotBelow race x k l (get_or a l 0) in
          let tied : NotBelow race x (get_or a x 0 + 1) l (get_or a l 0) = subst P (sym e) (c.alike_tied x l _ p last same) in
          let s : IsTie race a l x = record { apart = ne; wins = t.wins; runs = omega (arith, p); tied = tied } in
          let d : get_or (exchanged a l x) x 0 ≡ get_or a x 0 + 1 = exchanged_at_m a l x ne (in_vector l (omega (arith, last))) (in_vector x runs) in
          (exchanged a l x, exchange race o within n a l x f s, λ q. omega (arith, d, q))

  -- Where another vector has other seats for list x, the last or next
  -- pair of x ties with one of another list.
  pub data IsMoved (a b : List ℕ) (x : ℕ) : Type 0 where
    loses : (y : ℕ) → get_or b x 0 + 1 ≡ get_or a x 0 → IsTie race a x y → IsMoved a b x
    gains : (y : ℕ) → get_or a x 0 + 1 ≡ get_or b x 0 → IsTie race a y x → IsMoved a b x

  pub moved : (n : ℕ) (a b : List ℕ) (x : ℕ) → IsFair race n a → IsFair race n b → get_or b x 0 ≢ get_or a x 0 → IsMoved a b x
  moved n a b x fa fb ne = by_cases (cases_lt (get_or b x 0) (get_or a x 0))
    where
      long : length a ≡ length b
      long = omega (arith, fa.one_each, fb.one_each)

      whole : sum a ≡ sum b
      whole = omega (arith, fa.total, fb.total)

      tie_of : (l m : ℕ) → IsOneSeat race a b l m → IsTie race a l m
      tie_of l m s = record { apart = s.apart; wins = s.wins.0; runs = omega (arith, s.is_next); tied = s.below }

      by_cases : (get_or b x 0 < get_or a x 0) ⊎ (get_or a x 0 ≤ get_or b x 0) → IsMoved a b x
      by_cases (inl lt) =
          let w = some_less a b long whole x lt in
          let s = one_seat race o n a b fa fb x w.0 lt w.1 in
          loses w.0 s.lost (tie_of x w.0 s)
      by_cases (inr ge) =
          let lt : get_or a x 0 < get_or b x 0 = omega arith in
          let w = some_less b a (sym long) (sym whole) x lt in
          let s = one_seat race o n a b fa fb w.0 x w.1 lt in
          gains w.0 s.gained (tie_of w.0 x s)

  -- all ties of a vector are of one number of votes and for one seat
  pub ties_are_one : (n : ℕ) (a : List ℕ) (l m x y : ℕ) → IsFair race n a → IsTie race a l m → IsTie race a x y → (votes x ≡ votes l) × (get_or a x 0 ≡ get_or a l 0)
  ties_are_one n a l m x y f t s = by_cases (cases_eq x m) (cases_eq l y)
    where
      last : IsPair race l (get_or a l 0)
      last = omega (arith, f.high l, t.wins)

      next : IsPair race m (get_or a m 0 + 1)
      next = omega (arith, f.low m, t.runs)

      last' : IsPair race x (get_or a x 0)
      last' = omega (arith, f.high x, s.wins)

      next' : IsPair race y (get_or a y 0 + 1)
      next' = omega (arith, f.low y, s.runs)

      t_alike : (votes l ≡ votes m) × (get_or a l 0 ≡ get_or a m 0 + 1)
      t_alike = tie_alike n a l m f t

      s_alike : (votes x ≡ votes y) × (get_or a x 0 ≡ get_or a y 0 + 1)
      s_alike = tie_alike n a x y f s

      to_l : x ≢ m → NotBelow race x (get_or a x 0) l (get_or a l 0)
      to_l ne = o.chain x _ m _ l _ last' next last (f.last_not_below_next x m ne s.wins t.runs) t.tied

      to_x : l ≢ y → NotBelow race l (get_or a l 0) x (get_or a x 0)
      to_x ne = o.chain l _ y _ x _ last next' last' (f.last_not_below_next l y ne t.wins s.runs) s.tied

      by_cases : (x ≡ m) ⊎ (x ≡ m → ⊥) → (l ≡ y) ⊎ (l ≡ y → ⊥) → (votes x ≡ votes l) × (get_or a x 0 ≡ get_or a l 0)
      by_cases (inr nx) (inr ny) = c.tied_alike x _ l _ last' last (to_l nx) (to_x ny)
      by_cases (inl e) (inl e') =
          let e₁ : get_or a x 0 ≡ get_or a m 0 = ap (λ i. get_or a i 0) e in
          let e₂ : get_or a l 0 ≡ get_or a y 0 = ap (λ i. get_or a i 0) e' in
          absurd (omega (arith, t_alike.1, s_alike.1))
      by_cases (inr nx) (inl e') =
          let e₂ : get_or a l 0 ≡ get_or a y 0 = ap (λ i. get_or a i 0) e' in
          let above : race.Above l (get_or a l 0) l (get_or a l 0 + 1) = o.falling l _ _ last (let p : IsPair race l (get_or a l 0 + 1) = rw e' next' in p) (omega arith) in
          absurd (wrong e₂ above)
        where
          wrong : get_or a l 0 ≡ get_or a y 0 → race.Above l (get_or a l 0) l (get_or a l 0 + 1) → ⊥
          wrong e₂ above =
              let q : IsPair race l (get_or a l 0 + 1) = rw e' next' in
              let P : ℕ → Type 0 = λ i. NotBelow race i (get_or a i 0 + 1) x (get_or a x 0) in
              let back : NotBelow race l (get_or a l 0 + 1) x (get_or a x 0) = subst P (sym e') s.tied in
              o.chain l _ x _ l _ q last' last back (to_l nx) above
      by_cases (inl e) (inr ny) =
          let P : ℕ → Type 0 = λ i. NotBelow race i (get_or a i 0 + 1) l (get_or a l 0) in
          let back : NotBelow race x (get_or a x 0 + 1) l (get_or a l 0) = subst P (sym e) t.tied in
          let Q : ℕ → Type 0 = λ i. IsPair race i (get_or a i 0 + 1) in
          let q : IsPair race x (get_or a x 0 + 1) = subst Q (sym e) next in
          absurd (o.chain x _ l _ x _ q last last' back (to_x ny) (o.falling x _ _ last' q (omega arith)))
