-- Whether a lot is needed is seen from one allotment by the votes
-- alone: from its lowest last pair and its highest next pair.
use Rattle.std.proofs.Common.{◌≡◌, ℕ, ◌+◌, ◌-◌, ◌<◌, ◌≤◌, ◌≢◌, ◌⊎◌, ◌↔◌, List, Bool, true, false, cond, length, get_or, replicate, eqb, refl, sym, ◌∙◌, subst, inl, inr, ap, arith}
use Rattle.std.proofs.lemmas.Bool.{cases_eq, cases_Bool, false≢true, eq-eqb, ne_eqb}
use Rattle.std.proofs.lemmas.List.{length-replicate, get_or-replicate}
use Rattle.tally_law.specs.Poll.{votes_of, sum_marked}
use Rattle.tally_law.specs.Allotment.{IsAllotmentByVotes}
use Rattle.tally_law.specs.LotNeed.{IsLotNeeded, IsDecidedByVotes, IsInGroup, IsLeast, IsNeed}
use Rattle.tally_allot_award.specs.internal.Race.{IsPair, IsFair, IsTie, IsHighestNext, IsLowestLast}
use Rattle.tally_allot_award.specs.internal.Terms.{Terms, vote_race}
use Rattle.tally_allot_award.proofs.Vectors.{equal_or_apart}
use Rattle.tally_allot_award.specs.internal.Sums.{sum_before, holds_at}
use Rattle.tally_allot_award.specs.internal.Terms.{IsClassOf}
use Rattle.tally_allot_award.proofs.Sums.{sum_before-add, sum_marked-is, sum_marked-same, marked_at}
use Rattle.tally_allot_award.proofs.Race.{above_chain, chain_above}
use Rattle.tally_allot_award.proofs.Ties.{IsMoved, loses, gains, moved, tie_alike, class_holds, class_differs, ties_are_one}
use Rattle.tally_allot_award.proofs.TermsRace.{AreRaces}

module _ (terms : Terms) (r : AreRaces terms) (a : List ℕ) (f : IsFair (vote_race terms) terms.seats a) where
  -- no pairs tie, so nothing else is allowed
  pub decided_if_no_tie : ((l m : ℕ) → IsTie (vote_race terms) a l m → ⊥) → IsDecidedByVotes terms.rule terms.poll terms.seats
  decided_if_no_tie none = (a, r.from_fair a f, λ b w. only b (r.to_fair b w))
    where
      only : (b : List ℕ) → IsFair (vote_race terms) terms.seats b → b ≡ a
      only b fb = by_cases (equal_or_apart b a (omega (arith, f.one_each, fb.one_each)))
        where
          by_move : (x : ℕ) → IsMoved (vote_race terms) r.by_votes r.within (votes_of terms.poll) r.classes a b x → ⊥
          by_move x (loses y _ t) = none x y t
          by_move x (gains y _ t) = none y x t

          by_cases : (b ≡ a) ⊎ ((x : ℕ) × (get_or b x 0 ≢ get_or a x 0)) → b ≡ a
          by_cases (inl e) = e
          by_cases (inr w) = absurd (by_move w.0 (moved (vote_race terms) r.by_votes r.within (votes_of terms.poll) r.classes terms.seats a b w.0 f fb w.1))

  pub no_tie_without_last : ((l : ℕ) → get_or a l 0 ≤ (vote_race terms).floor l) → (l m : ℕ) → IsTie (vote_race terms) a l m → ⊥
  no_tie_without_last none l m t = omega (arith, none l, t.wins)

  pub no_tie_without_next : ((m : ℕ) → (vote_race terms).cap m ≤ get_or a m 0) → (l m : ℕ) → IsTie (vote_race terms) a l m → ⊥
  no_tie_without_next none l m t = omega (arith, none m, t.runs)

  last_pair : (l : ℕ) → (vote_race terms).floor l < get_or a l 0 → IsPair (vote_race terms) l (get_or a l 0)
  last_pair l w = omega (arith, f.high l)

  next_pair : (m : ℕ) → get_or a m 0 < (vote_race terms).cap m → IsPair (vote_race terms) m (get_or a m 0 + 1)
  next_pair m w = omega (arith, f.low m)

  -- the lowest last pair is above the highest next pair
  pub no_tie_if_above : (l m : ℕ) → IsLowestLast (vote_race terms) a l → IsHighestNext (vote_race terms) a m → (vote_race terms).Above l (get_or a l 0) m (get_or a m 0 + 1) → (x y : ℕ) → IsTie (vote_race terms) a x y → ⊥
  no_tie_if_above l m last next ab x y t =
      let pl = last_pair l last.wins in
      let pm = next_pair m next.runs in
      let px = last_pair x t.wins in
      let py = next_pair y t.runs in
      let up = chain_above (vote_race terms) r.by_votes x _ l _ m _ px pl pm (last.lowest x t.wins) ab in
      t.tied (above_chain (vote_race terms) r.by_votes x _ m _ y _ px pm py up (next.highest y t.runs))

  pub tie_unless_above : (l m : ℕ) → IsLowestLast (vote_race terms) a l → IsHighestNext (vote_race terms) a m → ¬ (vote_race terms).Above l (get_or a l 0) m (get_or a m 0 + 1) → IsTie (vote_race terms) a l m
  tie_unless_above l m last next nb = record { apart = apart; wins = last.wins; runs = next.runs; tied = nb }
    where
      apart : l ≢ m
      apart e =
          let P : ℕ → Type 0 = λ i. ¬ (vote_race terms).Above l (get_or a l 0) i (get_or a i 0 + 1) in
          let Q : ℕ → Type 0 = λ i. IsPair (vote_race terms) i (get_or a i 0 + 1) in
          subst P (sym e) nb (r.by_votes.falling l _ _ (last_pair l last.wins) (subst Q (sym e) (next_pair m next.runs)) (omega arith))

  module _ (l m : ℕ) (t : IsTie (vote_race terms) a l m) (group : List Bool) (class : IsClassOf terms.poll l group) where
    -- the lists whose seats differ anywhere are of the class
    moved_in_class : (b : List ℕ) → IsFair (vote_race terms) terms.seats b → (x : ℕ) → get_or b x 0 ≢ get_or a x 0 → get_or group x false ≡ true
    moved_in_class b fb x ne = by_move (moved (vote_race terms) r.by_votes r.within (votes_of terms.poll) r.classes terms.seats a b x f fb ne)
      where
        by_move : IsMoved (vote_race terms) r.by_votes r.within (votes_of terms.poll) r.classes a b x → get_or group x false ≡ true
        by_move (loses y _ s) =
            let one = ties_are_one (vote_race terms) r.by_votes r.within (votes_of terms.poll) r.classes terms.seats a l m x y f t s in
            (class x).1 (r.eligible_if_runs x ((vote_race terms).floor x) (omega (arith, f.high x, s.wins)), one.0)
        by_move (gains y _ s) =
            let one = ties_are_one (vote_race terms) r.by_votes r.within (votes_of terms.poll) r.classes terms.seats a l m y x f t s in
            let alike = tie_alike (vote_race terms) r.by_votes r.within (votes_of terms.poll) r.classes terms.seats a y x f s in
            (class x).1 (r.eligible_if_runs x (get_or a x 0) s.runs, sym alike.0 ∙ one.0)

    -- in each vector a list of the class holds the seat in question or one less
    pub class_holds_in : (b : List ℕ) → IsFair (vote_race terms) terms.seats b → (x : ℕ) → get_or group x false ≡ true → (get_or b x 0 ≡ get_or a l 0) ⊎ (get_or b x 0 + 1 ≡ get_or a l 0)
    class_holds_in b fb x marked = by_cases (cases_eq (get_or b x 0) (get_or a x 0))
      where
        in_a : (get_or a x 0 ≡ get_or a l 0) ⊎ (get_or a x 0 + 1 ≡ get_or a l 0)
        in_a = class_holds (vote_race terms) r.by_votes r.within (votes_of terms.poll) r.classes terms.seats a l m x f t (r.runs_if_eligible x ((class x).0 marked).0) ((class x).0 marked).1

        by_move : IsMoved (vote_race terms) r.by_votes r.within (votes_of terms.poll) r.classes a b x → (get_or b x 0 ≡ get_or a l 0) ⊎ (get_or b x 0 + 1 ≡ get_or a l 0)
        by_move (loses y e s) =
            let one = ties_are_one (vote_race terms) r.by_votes r.within (votes_of terms.poll) r.classes terms.seats a l m x y f t s in
            inr (omega (arith, one.1))
        by_move (gains y e s) =
            let one = ties_are_one (vote_race terms) r.by_votes r.within (votes_of terms.poll) r.classes terms.seats a l m y x f t s in
            let alike = tie_alike (vote_race terms) r.by_votes r.within (votes_of terms.poll) r.classes terms.seats a y x f s in
            inl (omega (arith, one.1, alike.1))

        same : get_or b x 0 ≡ get_or a x 0 → (get_or a x 0 ≡ get_or a l 0) ⊎ (get_or a x 0 + 1 ≡ get_or a l 0) → (get_or b x 0 ≡ get_or a l 0) ⊎ (get_or b x 0 + 1 ≡ get_or a l 0)
        same e (inl h) = inl (omega arith)
        same e (inr h) = inr (omega arith)

        by_cases : (get_or b x 0 ≡ get_or a x 0) ⊎ (get_or b x 0 ≡ get_or a x 0 → ⊥) → (get_or b x 0 ≡ get_or a l 0) ⊎ (get_or b x 0 + 1 ≡ get_or a l 0)
        by_cases (inl e) = same e in_a
        by_cases (inr ne) = by_move (moved (vote_race terms) r.by_votes r.within (votes_of terms.poll) r.classes terms.seats a b x f fb ne)

    differs : (x : ℕ) → get_or group x false ≡ true → (b : List ℕ) × IsFair (vote_race terms) terms.seats b × (get_or b x 0 ≢ get_or a x 0)
    differs x marked = class_differs (vote_race terms) r.by_votes r.within (votes_of terms.poll) r.classes terms.seats a l m x f t (r.runs_if_eligible x ((class x).0 marked).0) ((class x).0 marked).1

    pub needed_if_tie : IsLotNeeded terms.rule terms.poll terms.seats
    needed_if_tie =
        let marked : get_or group l false ≡ true = (class l).1 (r.eligible_if_runs l ((vote_race terms).floor l) (omega (arith, f.high l, t.wins)), refl) in
        let w = differs l marked in
        (w.0, a, r.from_fair w.0 w.1, r.from_fair a f, λ e. w.2 (ap (λ v. get_or v l 0) e))

    group_if_tie : (x : ℕ) → (get_or group x false ≡ true) ↔ IsInGroup terms.rule terms.poll terms.seats x
    group_if_tie x = (there, back)
      where
        there : get_or group x false ≡ true → IsInGroup terms.rule terms.poll terms.seats x
        there marked = let w = differs x marked in (w.0, a, r.from_fair w.0 w.1, r.from_fair a f, w.2)

        back : IsInGroup terms.rule terms.poll terms.seats x → get_or group x false ≡ true
        back w = by_cases (cases_eq (get_or w.0 x 0) (get_or a x 0))
          where
            by_cases : (get_or w.0 x 0 ≡ get_or a x 0) ⊎ (get_or w.0 x 0 ≡ get_or a x 0 → ⊥) → get_or group x false ≡ true
            by_cases (inl e) = moved_in_class w.1 (r.to_fair w.1 w.3) x (λ e'. w.4 (e ∙ sym e'))
            by_cases (inr ne) = moved_in_class w.0 (r.to_fair w.0 w.2) x ne

    -- the least that each list of the class holds
    abbrev least : List ℕ
    least = replicate (length a) (get_or a l 0 - 1)

    pub least_if_tie : (x : ℕ) → get_or group x false ≡ true → IsLeast terms.rule terms.poll terms.seats x (get_or a l 0 - 1)
    least_if_tie x marked = (reached (class_holds_in a f x marked), lowest)
      where
        lowest : (b : List ℕ) → IsAllotmentByVotes terms.rule terms.poll terms.seats b → get_or a l 0 - 1 ≤ get_or b x 0
        lowest b w = by_cases (class_holds_in b (r.to_fair b w) x marked)
          where
            by_cases : (get_or b x 0 ≡ get_or a l 0) ⊎ (get_or b x 0 + 1 ≡ get_or a l 0) → get_or a l 0 - 1 ≤ get_or b x 0
            by_cases (inl e) = omega arith
            by_cases (inr e) = omega arith

        reached : (get_or a x 0 ≡ get_or a l 0) ⊎ (get_or a x 0 + 1 ≡ get_or a l 0) → (b : List ℕ) × IsAllotmentByVotes terms.rule terms.poll terms.seats b × (get_or b x 0 ≡ get_or a l 0 - 1)
        reached (inr e) = (a, r.from_fair a f, omega arith)
        reached (inl e) =
            let w = differs x marked in
            (w.0, r.from_fair w.0 w.1, other (w.2) (class_holds_in w.0 w.1 x marked))
          where
            other : {b : ℕ} → b ≢ get_or a x 0 → (b ≡ get_or a l 0) ⊎ (b + 1 ≡ get_or a l 0) → b ≡ get_or a l 0 - 1
            other ne (inl h) = absurd (ne (h ∙ sym e))
            other ne (inr h) = omega arith

    -- one pair of the class is won by each list that holds the seat in question
    seats_of_class : sum_marked group a ≡ sum_marked group least + sum_before (holds_at group a (get_or a l 0)) (length a)
    seats_of_class =
        let n = length a in
        let long : length least ≡ length a = length-replicate n (get_or a l 0 - 1) in
        let e : sum_before (marked_at group least) (length least) ≡ sum_before (marked_at group least) n = ap (sum_before (marked_at group least)) long in
        omega (arith, sum_marked-is group a, sum_marked-is group least, sum_before-add (marked_at group a) (marked_at group least) (holds_at group a (get_or a l 0)) n at_each)
      where
        at_each : (i : ℕ) → i < length a → marked_at group a i ≡ marked_at group least i + holds_at group a (get_or a l 0) i
        at_each i lt = by_mark (cases_Bool (get_or group i false))
          where
            in_least : get_or least i 0 ≡ get_or a l 0 - 1
            in_least = get_or-replicate (length a) i (get_or a l 0 - 1) 0 lt

            in_class : get_or group i false ≡ true → (get_or a i 0 ≡ get_or a l 0) ⊎ (get_or a i 0 + 1 ≡ get_or a l 0) → get_or a i 0 ≡ get_or least i 0 + cond (eqb (get_or a i 0) (get_or a l 0)) 1 0
            in_class b (inl h) = let e : ◌≡◌ {A = ℕ} (cond (eqb (get_or a i 0) (get_or a l 0)) 1 0) 1 = ap (λ c. cond c 1 0) (eq-eqb _ _ h) in omega (arith, in_least, t.wins)
            in_class b (inr h) = let e : ◌≡◌ {A = ℕ} (cond (eqb (get_or a i 0) (get_or a l 0)) 1 0) 0 = ap (λ c. cond c 1 0) (ne_eqb (get_or a i 0) (get_or a l 0) (omega arith)) in omega (arith, in_least)

            by_mark : (get_or group i false ≡ true) ⊎ (get_or group i false ≡ false) → marked_at group a i ≡ marked_at group least i + holds_at group a (get_or a l 0) i
            by_mark (inr b) =
                let x : marked_at group a i ≡ 0 = ap (λ c. cond c (get_or a i 0) 0) b in
                let y : marked_at group least i ≡ 0 = ap (λ c. cond c (get_or least i 0) 0) b in
                let z : holds_at group a (get_or a l 0) i ≡ 0 = ap (λ c. cond c (cond (eqb (get_or a i 0) (get_or a l 0)) 1 0) 0) b in
                omega arith
            by_mark (inl b) =
                let x : marked_at group a i ≡ get_or a i 0 = ap (λ c. cond c (get_or a i 0) 0) b in
                let y : marked_at group least i ≡ get_or least i 0 = ap (λ c. cond c (get_or least i 0) 0) b in
                let z : holds_at group a (get_or a l 0) i ≡ cond (eqb (get_or a i 0) (get_or a l 0)) 1 0 = ap (λ c. cond c (cond (eqb (get_or a i 0) (get_or a l 0)) 1 0) 0) b in
                omega (arith, in_class b (class_holds_in a f i b))

    pub need_if_tie : IsNeed terms.rule terms.poll terms.seats group (sum_before (holds_at group a (get_or a l 0)) (length a))
    need_if_tie = record { needed = needed_if_tie; group_is = group_if_tie; in_question_is = (least, each_least, together) }
      where
        in_vector : (x : ℕ) → get_or group x false ≡ true → x < length a
        in_vector x marked = omega (arith, r.within x (r.runs_if_eligible x ((class x).0 marked).0), f.one_each)

        each_least : (x : ℕ) → IsInGroup terms.rule terms.poll terms.seats x → IsLeast terms.rule terms.poll terms.seats x (get_or least x 0)
        each_least x w =
            let marked : get_or group x false ≡ true = (group_if_tie x).1 w in
            let e : get_or least x 0 ≡ get_or a l 0 - 1 = get_or-replicate (length a) x (get_or a l 0 - 1) 0 (in_vector x marked) in
            let P : ℕ → Type 0 = IsLeast terms.rule terms.poll terms.seats x in
            subst P (sym e) (least_if_tie x marked)

        outside : (b : List ℕ) → IsFair (vote_race terms) terms.seats b → (x : ℕ) → get_or group x false ≡ false → get_or b x 0 ≡ get_or a x 0
        outside b fb x out = by_cases (cases_eq (get_or b x 0) (get_or a x 0))
          where
            by_cases : (get_or b x 0 ≡ get_or a x 0) ⊎ (get_or b x 0 ≡ get_or a x 0 → ⊥) → get_or b x 0 ≡ get_or a x 0
            by_cases (inl e) = e
            by_cases (inr ne) = absurd (false≢true (sym out ∙ moved_in_class b fb x ne))

        together : (b : List ℕ) → IsAllotmentByVotes terms.rule terms.poll terms.seats b → sum_marked group b ≡ sum_marked group least + sum_before (holds_at group a (get_or a l 0)) (length a)
        together b w =
            let fb = r.to_fair b w in
            sum_marked-same group b a (omega (arith, f.one_each, fb.one_each)) (omega (arith, f.total, fb.total)) (outside b fb) ∙ seats_of_class
