-- The least seats, seen from one allotment that the places allow.
use Rattle.std.proofs.Common.{◌≡◌, ℕ, ◌+◌, ◌-◌, ◌<◌, ◌≤◌, ◌≢◌, ◌⊎◌, List, Bool, true, false, cond, length, get_or, refl, sym, ◌∙◌, subst, inl, inr, ap, arith}
use Rattle.std.proofs.lemmas.Bool.{cases_eq, cases_Bool, false≢true}
use Rattle.tally_law.specs.Poll.{IsEligible, votes_of}
use Rattle.tally_law.specs.Allotment.{IsAllotmentByVotes}
use Rattle.tally_law.specs.LotNeed.{IsDecidedByVotes, IsLeast, IsLotNeeded, IsNeed}
use Rattle.tally_allot_award.specs.internal.Race.{IsFair, IsTie}
use Rattle.tally_allot_award.specs.internal.Sums.{sum_before, holds_at}
use Rattle.tally_allot_award.specs.internal.Terms.{Terms, AreSound, IsClassOf, vote_race, placed_race}
use Rattle.tally_allot_award.proofs.NeedOfTie.{class_holds_in, least_if_tie, need_if_tie}
use Rattle.tally_allot_award.proofs.Scan.{count_is}
use Rattle.tally_allot_award.proofs.TermsRace.{AreRaces, races, fair_by_votes, tied_lists}
use Rattle.tally_allot_award.proofs.Ties.{IsMoved, loses, gains, moved}
use Rattle.tally_allot_award.proofs.Vectors.{equal_or_apart, get_or-le-sum}
use Rattle.tally_allot.proofs.DecidedOrNeeded.{class_of, class-is}
use Rattle.tally_allot.specs.internal.LeastSteps.{AreLeastOn, IsFewestHeld, with_fewest}

module _ (terms : Terms) (sound : AreSound terms) (a : List ℕ) (f : IsFair (placed_race terms) terms.seats a) where
  r : AreRaces terms
  r = races terms sound

  v : IsFair (vote_race terms) terms.seats a
  v = fair_by_votes terms (races terms sound) terms.seats a f

  by_votes : IsAllotmentByVotes terms.rule terms.poll terms.seats a
  by_votes = (races terms sound).from_fair a v

  pub long : length a ≡ length terms.poll.votes
  long = omega (arith, f.one_each, count_is terms sound)

  -- a list that has the same seats in each
  alike : (l : ℕ) → ((b : List ℕ) → IsAllotmentByVotes terms.rule terms.poll terms.seats b → get_or b l 0 ≡ get_or a l 0) → IsLeast terms.rule terms.poll terms.seats l (get_or a l 0)
  alike l same = ((a, by_votes, refl), λ b w. omega (arith, same b w))

  -- where the votes decide, each list has the least that it can have
  pub decided_least : IsDecidedByVotes terms.rule terms.poll terms.seats → AreLeastOn terms a
  decided_least d = record { one_each = long; each = λ l lt. alike l (λ b w. ap (λ x. get_or x l 0) (d.2 b w ∙ sym (d.2 a by_votes))) }

  module _ (group : List Bool) (n : ℕ) (need : IsNeed terms.rule terms.poll terms.seats group n) where
    -- some pairs of this vector tie
    some_tie : (l : ℕ) × (m : ℕ) × IsTie (vote_race terms) a l m
    some_tie = from (need.needed) (equal_or_apart a need.needed.0 (of_length need.needed.0 need.needed.2)) (equal_or_apart a need.needed.1 (of_length need.needed.1 need.needed.3))
      where
        of_length : (b : List ℕ) → IsAllotmentByVotes terms.rule terms.poll terms.seats b → length a ≡ length b
        of_length b w = omega (arith, v.one_each, ((races terms sound).to_fair b w).one_each)

        of_move : (b : List ℕ) (x : ℕ) → IsMoved (vote_race terms) r.by_votes r.within (votes_of terms.poll) r.classes a b x → (l : ℕ) × (m : ℕ) × IsTie (vote_race terms) a l m
        of_move b x (loses y _ t) = (x, y, t)
        of_move b x (gains y _ t) = (y, x, t)

        of_other : (b : List ℕ) → IsAllotmentByVotes terms.rule terms.poll terms.seats b → (x : ℕ) → get_or a x 0 ≢ get_or b x 0 → (l : ℕ) × (m : ℕ) × IsTie (vote_race terms) a l m
        of_other b w x ne = of_move b x (moved (vote_race terms) r.by_votes r.within (votes_of terms.poll) r.classes terms.seats a b x v (r.to_fair b w) (λ e. ne (sym e)))

        from : (two : IsLotNeeded terms.rule terms.poll terms.seats) → (a ≡ two.0) ⊎ ((x : ℕ) × (get_or a x 0 ≢ get_or two.0 x 0)) → (a ≡ two.1) ⊎ ((x : ℕ) × (get_or a x 0 ≢ get_or two.1 x 0)) → (l : ℕ) × (m : ℕ) × IsTie (vote_race terms) a l m
        from two (inr x) _ = of_other two.0 two.2 x.0 x.1
        from two (inl _) (inr x) = of_other two.1 two.3 x.0 x.1
        from two (inl e) (inl e') = absurd (two.4 (sym e ∙ e'))

    -- a list outside the group has the same seats in each
    outside : (l : ℕ) → get_or group l false ≡ false → IsLeast terms.rule terms.poll terms.seats l (get_or a l 0)
    outside l out = alike l (λ b w. same b w (cases_eq (get_or b l 0) (get_or a l 0)))
      where
        same : (b : List ℕ) → IsAllotmentByVotes terms.rule terms.poll terms.seats b → (get_or b l 0 ≡ get_or a l 0) ⊎ (get_or b l 0 ≡ get_or a l 0 → ⊥) → get_or b l 0 ≡ get_or a l 0
        same b w (inl e) = e
        same b w (inr ne) = absurd (false≢true (sym out ∙ (need.group_is l).1 (b, a, w, by_votes, ne)))

    module _ (fewest : ℕ) (is : IsFewestHeld group a terms.seats (length a) fewest) where
      -- a list of the group has the fewest that one of them has, since some list of the group holds
      -- one seat less than the last that is awarded
      inside : (l : ℕ) → get_or group l false ≡ true → IsLeast terms.rule terms.poll terms.seats l fewest
      inside l marked = from some_tie
        where
          from : (k : ℕ) × (m : ℕ) × IsTie (vote_race terms) a k m → IsLeast terms.rule terms.poll terms.seats l fewest
          from tie =
              let P : ℕ → Type 0 = IsLeast terms.rule terms.poll terms.seats l in
              subst P (sym one_less) (least_if_tie terms r a v k m t class class_is l (in_class l marked))
            where
              k : ℕ
              k = tie.0

              m : ℕ
              m = tie.1

              t : IsTie (vote_race terms) a tie.0 tie.1
              t = tie.2

              class : List Bool
              class = class_of terms.poll tie.0

              class_is : IsClassOf terms.poll tie.0 (class_of terms.poll tie.0)
              class_is = class-is terms.poll tie.0 sound.poll

              of_class : IsNeed terms.rule terms.poll terms.seats (class_of terms.poll tie.0) (sum_before (holds_at (class_of terms.poll tie.0) a (get_or a tie.0 0)) (length a))
              of_class = need_if_tie terms r a v tie.0 tie.1 t class class_is

              in_class : (x : ℕ) → get_or group x false ≡ true → get_or (class_of terms.poll tie.0) x false ≡ true
              in_class x marked = (of_class.group_is x).1 ((need.group_is x).0 marked)

              lists : IsEligible terms.poll tie.0 × IsEligible terms.poll tie.1 × (votes_of terms.poll tie.0 ≡ votes_of terms.poll tie.1) × (get_or a tie.0 0 ≡ get_or a tie.1 0 + 1)
              lists = tied_lists terms r a v tie.0 tie.1 t

              other : get_or group tie.1 false ≡ true
              other = (need.group_is tie.1).1 ((of_class.group_is tie.1).0 ((class_is tie.1).1 (lists.1, sym lists.2)))

              at_most : fewest ≤ get_or a tie.1 0
              at_most = is.at_least tie.1 (omega (arith, sound.poll.listed tie.1 lists.1, long)) other

              one_less : fewest ≡ get_or a tie.0 0 - 1
              one_less = by_cases is.reached
                where
                  held : (x : ℕ) → get_or a x 0 ≡ fewest → (get_or a x 0 ≡ get_or a tie.0 0) ⊎ (get_or a x 0 + 1 ≡ get_or a tie.0 0) → fewest ≡ get_or a tie.0 0 - 1
                  held x e (inl h) = omega (arith, at_most, lists.3, e, h)
                  held x e (inr h) = omega (arith, at_most, lists.3, e, h)

                  by_cases : (fewest ≡ terms.seats) ⊎ ((x : ℕ) × (get_or group x false ≡ true) × (get_or a x 0 ≡ fewest)) → fewest ≡ get_or a tie.0 0 - 1
                  by_cases (inl e) = omega (arith, at_most, lists.3, e, get_or-le-sum a tie.0, v.total)
                  by_cases (inr x) = held x.0 x.2 (class_holds_in terms r a v tie.0 tie.1 t class class_is a v x.0 (in_class x.0 x.1))

      least_at : (l : ℕ) → IsLeast terms.rule terms.poll terms.seats l (with_fewest group a fewest l)
      least_at l = by_mark (cases_Bool (get_or group l false))
        where
          P : ℕ → Type 0
          P = IsLeast terms.rule terms.poll terms.seats l

          by_mark : (get_or group l false ≡ true) ⊎ (get_or group l false ≡ false) → IsLeast terms.rule terms.poll terms.seats l (with_fewest group a fewest l)
          by_mark (inl b) = subst (IsLeast terms.rule terms.poll terms.seats l) (sym (ap (λ c. cond c fewest (get_or a l 0)) b)) (inside l b)
          by_mark (inr b) = subst (IsLeast terms.rule terms.poll terms.seats l) (sym (ap (λ c. cond c fewest (get_or a l 0)) b)) (outside l b)

      -- these are the least seats
      pub needed_least : (least : List ℕ) → length least ≡ length a → ((l : ℕ) → l < length a → get_or least l 0 ≡ with_fewest group a fewest l) → AreLeastOn terms least
      needed_least least long_least given = record {
        one_each = long_least ∙ long;
        each = λ l lt. subst (IsLeast terms.rule terms.poll terms.seats l) (sym (given l (omega (arith, lt, long)))) (least_at l);
      }
