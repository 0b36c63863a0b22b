-- One seat more, at the end of the seats won.
use Rattle.std.proofs.Common.{◌≡◌, ℕ, ◌+◌, ◌<◌, ◌≤◌, ◌≢◌, ◌⊎◌, List, [], ◌∷◌, ◌++◌, length, get_or, refl, sym, ap, ◌∙◌, inl, inr, arith}
use Rattle.std.proofs.lemmas.Bool.{cases_lt, cases_eq}
use Rattle.std.proofs.lemmas.List.{get_or_append_left, get_or_push, length_push}
use Rattle.tally_allot_award.specs.declared.won.WonSeat.{WonSeat}
use Rattle.tally_allot_award.specs.internal.Race.{Race, IsPair, IsFair, IsHighestNext}
use Rattle.tally_allot_award.specs.internal.WonSeat.{AreWon}
use Rattle.tally_allot_award.proofs.Race.{IsOrderly, above_chain}
use Rattle.tally_allot_award.proofs.AwardStep.{one_more, at_one_more, beside_one_more}

abbrev pub IsTotal : Race → Type 0
IsTotal race = (l k m j : ℕ) → l ≢ m → IsPair race l k → IsPair race m j → race.Above l k m j ⊎ race.Above m j l k

module _ (race : Race) (o : IsOrderly race) (within : (l : ℕ) → race.floor l < race.cap l → l < race.count) (total : IsTotal race) (n : ℕ) (a : List ℕ) (f : IsFair race n a) (l : ℕ) (h : IsHighestNext race a l) (rows : List WonSeat) (w : AreWon race a rows) where
  inside : l < length a
  inside = omega (arith, within l (omega (arith, f.low l, h.runs)), f.one_each)

  new_pair : IsPair race l (get_or a l 0 + 1)
  new_pair = omega (arith, f.low l, h.runs)

  -- the pair that wins is above every pair that is next then
  above_next : (m : ℕ) → get_or (one_more a l) m 0 < race.cap m → race.Above l (get_or a l 0 + 1) m (get_or (one_more a l) m 0 + 1)
  above_next m lt = by_cases (cases_eq m l)
    where
      by_cases : (m ≡ l) ⊎ (m ≡ l → ⊥) → race.Above l (get_or a l 0 + 1) m (get_or (one_more a l) m 0 + 1)
      by_cases (inl e) =
          let at : get_or (one_more a l) m 0 ≡ get_or a l 0 + 1 = ap (λ i. get_or (one_more a l) i 0) e ∙ at_one_more a l inside in
          let c : race.cap m ≡ race.cap l = ap race.cap e in
          let q : IsPair race l (get_or a l 0 + 1 + 1) = omega (arith, f.low l) in
          rw (at, e) (o.falling l _ _ new_pair q (omega arith))
      by_cases (inr ne) =
          let at : get_or (one_more a l) m 0 ≡ get_or a m 0 = beside_one_more a l m ne in
          let q : IsPair race m (get_or a m 0 + 1) = omega (arith, f.low m) in
          rw at (by_rank m q (omega arith) (total l _ m _ (λ e. ne (sym e)) new_pair q))
        where
          by_rank : (m : ℕ) → IsPair race m (get_or a m 0 + 1) → get_or a m 0 < race.cap m → race.Above l (get_or a l 0 + 1) m (get_or a m 0 + 1) ⊎ race.Above m (get_or a m 0 + 1) l (get_or a l 0 + 1) → race.Above l (get_or a l 0 + 1) m (get_or a m 0 + 1)
          by_rank m q lt (inl ab) = ab
          by_rank m q lt (inr ab) = absurd (h.highest m lt ab)

  -- what is above the next pair of the list that wins is above its next pair then too
  above_later : (x k m : ℕ) → IsPair race x k → ((y : ℕ) → get_or a y 0 < race.cap y → race.Above x k y (get_or a y 0 + 1)) → get_or (one_more a l) m 0 < race.cap m → race.Above x k m (get_or (one_more a l) m 0 + 1)
  above_later x k m p ahead lt = by_cases (cases_eq m l)
    where
      by_cases : (m ≡ l) ⊎ (m ≡ l → ⊥) → race.Above x k m (get_or (one_more a l) m 0 + 1)
      by_cases (inl e) =
          let at : get_or (one_more a l) m 0 ≡ get_or a l 0 + 1 = ap (λ i. get_or (one_more a l) i 0) e ∙ at_one_more a l inside in
          let c : race.cap m ≡ race.cap l = ap race.cap e in
          let q : IsPair race l (get_or a l 0 + 1 + 1) = omega (arith, f.low l) in
          rw (at, e) (above_chain race o x k l _ l _ p new_pair q (ahead l h.runs) (o.asym l _ l _ new_pair q (o.falling l _ _ new_pair q (omega arith))))
      by_cases (inr ne) =
          let at : get_or (one_more a l) m 0 ≡ get_or a m 0 = beside_one_more a l m ne in
          rw at (ahead m (omega arith))

  abbrev new_row : WonSeat
  new_row = record { list = l; seat = get_or a l 0 + 1 }

  abbrev Row : WonSeat → Type 0
  Row x = IsPair race x.list x.seat × (x.seat ≤ get_or (one_more a l) x.list 0)

  seats_grow : (m : ℕ) → get_or a m 0 ≤ get_or (one_more a l) m 0
  seats_grow m = by_cases (cases_eq m l)
    where
      by_cases : (m ≡ l) ⊎ (m ≡ l → ⊥) → get_or a m 0 ≤ get_or (one_more a l) m 0
      by_cases (inl e) =
          let at : get_or (one_more a l) m 0 ≡ get_or a l 0 + 1 = ap (λ i. get_or (one_more a l) i 0) e ∙ at_one_more a l inside in
          let was : get_or a m 0 ≡ get_or a l 0 = ap (λ i. get_or a i 0) e in
          omega arith
      by_cases (inr ne) = omega (arith, beside_one_more a l m ne)

  more_rows : List WonSeat
  more_rows = rows ++ new_row ∷ []

  old : (i : ℕ) (d : WonSeat) → i < length rows → get_or (rows ++ new_row ∷ []) i d ≡ get_or rows i d
  old i d lt = get_or_append_left rows (new_row ∷ []) d i lt

  new : (i : ℕ) (d : WonSeat) → length rows ≡ i → get_or (rows ++ new_row ∷ []) i d ≡ new_row
  new i d e = get_or_push rows new_row d i e

  pub won_more : AreWon race (one_more a l) (rows ++ new_row ∷ [])
  won_more = record { each = each; all = all; falling = falling; ahead = ahead }
    where
      long : length (rows ++ new_row ∷ []) ≡ length rows + 1
      long = length_push rows new_row

      each : (i : ℕ) (d : WonSeat) → i < length (rows ++ new_row ∷ []) → Row (get_or (rows ++ new_row ∷ []) i d)
      each i d lt = by_cases (cases_lt i (length rows))
        where
          by_cases : (i < length rows) ⊎ (length rows ≤ i) → Row (get_or (rows ++ new_row ∷ []) i d)
          by_cases (inl before) = let x = w.each i d before in rw (old i d before) (x.0, omega (arith, x.1, seats_grow (get_or rows i d).list))
          by_cases (inr last) = rw (new i d (omega (arith, long))) (new_pair, omega (arith, at_one_more a l inside))

      all : (m k : ℕ) → race.floor m < k → k ≤ get_or (one_more a l) m 0 → (i : ℕ) × (i < length (rows ++ new_row ∷ [])) × ((d : WonSeat) → get_or (rows ++ new_row ∷ []) i d ≡ record { list = m; seat = k })
      all m k low le = by_cases (cases_lt (get_or a m 0) k)
        where
          by_cases : (get_or a m 0 < k) ⊎ (k ≤ get_or a m 0) → (i : ℕ) × (i < length (rows ++ new_row ∷ [])) × ((d : WonSeat) → get_or (rows ++ new_row ∷ []) i d ≡ record { list = m; seat = k })
          by_cases (inr before) = let x = w.all m k low before in (x.0, omega (arith, x.1, long), λ d. old x.0 d x.1 ∙ x.2 d)
          by_cases (inl gained) = by_list (cases_eq m l)
            where
              by_list : (m ≡ l) ⊎ (m ≡ l → ⊥) → (i : ℕ) × (i < length (rows ++ new_row ∷ [])) × ((d : WonSeat) → get_or (rows ++ new_row ∷ []) i d ≡ record { list = m; seat = k })
              by_list (inr ne) = absurd (omega (arith, beside_one_more a l m ne))
              by_list (inl e) =
                  let at : get_or (one_more a l) m 0 ≡ get_or a l 0 + 1 = ap (λ i. get_or (one_more a l) i 0) e ∙ at_one_more a l inside in
                  let was : get_or a m 0 ≡ get_or a l 0 = ap (λ i. get_or a i 0) e in
                  let seat : get_or a l 0 + 1 ≡ k = omega arith in
                  let list : l ≡ m = sym e in
                  let same : new_row ≡ record { list = m; seat = k } = cc in
                  (length rows, omega (arith, long), λ d. new (length rows) d refl ∙ same)

      falling : (i j : ℕ) (d : WonSeat) → i < j → j < length (rows ++ new_row ∷ []) → race.Above (get_or (rows ++ new_row ∷ []) i d).list (get_or (rows ++ new_row ∷ []) i d).seat (get_or (rows ++ new_row ∷ []) j d).list (get_or (rows ++ new_row ∷ []) j d).seat
      falling i j d lt end = by_cases (cases_lt j (length rows))
        where
          Below : WonSeat → WonSeat → Type 0
          Below x y = race.Above x.list x.seat y.list y.seat

          by_cases : (j < length rows) ⊎ (length rows ≤ j) → race.Above (get_or (rows ++ new_row ∷ []) i d).list (get_or (rows ++ new_row ∷ []) i d).seat (get_or (rows ++ new_row ∷ []) j d).list (get_or (rows ++ new_row ∷ []) j d).seat
          by_cases (inl before) = rw (old i d (omega (arith, before)), old j d before) (w.falling i j d lt before)
          by_cases (inr last) = rw (old i d (omega (arith, long)), new j d (omega (arith, long))) (w.ahead i d l (omega (arith, long)) h.runs)

      ahead : (i : ℕ) (d : WonSeat) (m : ℕ) → i < length (rows ++ new_row ∷ []) → get_or (one_more a l) m 0 < race.cap m → race.Above (get_or (rows ++ new_row ∷ []) i d).list (get_or (rows ++ new_row ∷ []) i d).seat m (get_or (one_more a l) m 0 + 1)
      ahead i d m lt room = by_cases (cases_lt i (length rows))
        where
          by_cases : (i < length rows) ⊎ (length rows ≤ i) → race.Above (get_or (rows ++ new_row ∷ []) i d).list (get_or (rows ++ new_row ∷ []) i d).seat m (get_or (one_more a l) m 0 + 1)
          by_cases (inl before) = rw (old i d before) (above_later _ _ m (w.each i d before).0 (λ y q. w.ahead i d y before q) room)
          by_cases (inr last) = rw (new i d (omega (arith, long))) (above_next m room)
