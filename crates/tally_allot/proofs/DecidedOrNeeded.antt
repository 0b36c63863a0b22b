-- The votes decide, or a lot is needed.
use Rattle.std.proofs.Common.{◌≡◌, ◌≤◌, ◌<◌, ◌+◌, ◌⊎◌, ◌∙◌, ◌&&◌, ℕ, zero, suc, List, [], Bool, true, false, eqb, get_or, length, map, refl, sym, ap, subst, inl, inr, arith}
use Rattle.std.specs.List.{range_with_len}
use Rattle.std.proofs.lemmas.Bool.{cases_eq, cases_lt, eq-eqb, eqb-true, false≢true}
use Rattle.std.proofs.lemmas.List.{get_or_past}
use Rattle.std.proofs.lemmas.List.FromFn.{get_or-map-range_with_len, length-map-range_with_len}
use Rattle.tally_law.specs.Allotment.{IsAllotment, Rule}
use Rattle.tally_law.specs.LotNeed.{IsDecidedByVotes, IsNeed}
use Rattle.tally_law.specs.Poll.{HasEligible, IsEligible, Poll, votes_of}
use Rattle.tally_allot_award.specs.internal.Premises.{IsRule, IsSound}
use Rattle.tally_allot_award.specs.internal.Race.{IsFair, IsTie}
use Rattle.tally_allot_award.specs.internal.Terms.{IsClassOf, Terms, vote_race}
use Rattle.tally_allot_award.proofs.NeedOfTie.{decided_if_no_tie, need_if_tie}
use Rattle.tally_allot_award.proofs.TermsRace.{AreRaces, are_races}
use Rattle.tally_allot.proofs.AllotmentLaws.{by_votes, exists}
use Rattle.tally_allot.proofs.LotLaws.{proper_without_lot}

-- some number below n is so, or none is
first_below : (P : ℕ → Type 0) → ((i : ℕ) → P i ⊎ ¬ P i) → (n : ℕ) → ((i : ℕ) × P i) ⊎ ((i : ℕ) → i < n → ¬ P i)
first_below P decide zero = inr (λ i lt. absurd (omega (arith, lt)))
first_below P decide (suc n) = here (decide n) (first_below P decide n)
  where
    here : P n ⊎ ¬ P n → ((i : ℕ) × P i) ⊎ ((i : ℕ) → i < n → ¬ P i) → ((i : ℕ) × P i) ⊎ ((i : ℕ) → i < suc n → ¬ P i)
    here (inl is) before = inl (n, is)
    here (inr not) (inl found) = inl found
    here (inr not) (inr none) = inr (λ i lt is. at i is (cases_eq i n) lt)
      where
        at : (i : ℕ) → P i → (i ≡ n) ⊎ (i ≡ n → ⊥) → i < suc n → ⊥
        at i is (inl same) lt = not (subst P same is)
        at i is (inr other) lt = none i (omega (arith, lt, other)) is

-- ---- ties

module _ (terms : Terms) (r : AreRaces terms) (a : List ℕ) (f : IsFair (vote_race terms) terms.seats a) where
  -- the last seat of one list ties with the next of another, or does not
  tied : (l m : ℕ) → IsTie (vote_race terms) a l m ⊎ ¬ IsTie (vote_race terms) a l m
  tied l m = go (cases_eq l m) (cases_lt ((vote_race terms).floor l) (get_or a l 0)) (cases_lt (get_or a m 0) ((vote_race terms).cap m))
    where
      go : (l ≡ m) ⊎ (l ≡ m → ⊥) → ((vote_race terms).floor l < get_or a l 0) ⊎ (get_or a l 0 ≤ (vote_race terms).floor l) → (get_or a m 0 < (vote_race terms).cap m) ⊎ ((vote_race terms).cap m ≤ get_or a m 0)
          → IsTie (vote_race terms) a l m ⊎ ¬ IsTie (vote_race terms) a l m
      go (inl same) wins runs = inr (λ tie. tie.apart same)
      go (inr apart) (inr lost) runs = inr (λ tie. omega (arith, lost, tie.wins))
      go (inr apart) (inl wins) (inr full) = inr (λ tie. omega (arith, full, tie.runs))
      go (inr apart) (inl wins) (inl runs) = by_rank (r.by_votes.decide l (get_or a l 0) m (get_or a m 0 + 1) (omega (arith, wins, f.high l)) (omega (arith, runs, f.low m)))
        where
          by_rank : (vote_race terms).Above l (get_or a l 0) m (get_or a m 0 + 1) ⊎ ¬ (vote_race terms).Above l (get_or a l 0) m (get_or a m 0 + 1) → IsTie (vote_race terms) a l m ⊎ ¬ IsTie (vote_race terms) a l m
          by_rank (inl above) = inr (λ tie. tie.tied above)
          by_rank (inr not) = inl (record { apart = apart; wins = wins; runs = runs; tied = not })

  -- some pairs tie, or none do
  some_tie : ((l : ℕ) × (m : ℕ) × IsTie (vote_race terms) a l m) ⊎ ((l m : ℕ) → IsTie (vote_race terms) a l m → ⊥)
  some_tie = all (first_below (λ l. (m : ℕ) × IsTie (vote_race terms) a l m) with_some (vote_race terms).count)
    where
      inside_last : (l m : ℕ) → IsTie (vote_race terms) a l m → l < (vote_race terms).count
      inside_last l m tie = r.within l (omega (arith, tie.wins, f.high l))

      inside_next : (l m : ℕ) → IsTie (vote_race terms) a l m → m < (vote_race terms).count
      inside_next l m tie = r.within m (omega (arith, tie.runs, f.low m))

      with_some : (l : ℕ) → ((m : ℕ) × IsTie (vote_race terms) a l m) ⊎ ¬ ((m : ℕ) × IsTie (vote_race terms) a l m)
      with_some l = go (first_below (IsTie (vote_race terms) a l) (tied l) (vote_race terms).count)
        where
          go : ((m : ℕ) × IsTie (vote_race terms) a l m) ⊎ ((m : ℕ) → m < (vote_race terms).count → ¬ IsTie (vote_race terms) a l m) → ((m : ℕ) × IsTie (vote_race terms) a l m) ⊎ ¬ ((m : ℕ) × IsTie (vote_race terms) a l m)
          go (inl found) = inl found
          go (inr none) = inr (λ found. none found.0 (inside_next l found.0 found.1) found.1)

      all : ((l : ℕ) × ((m : ℕ) × IsTie (vote_race terms) a l m)) ⊎ ((l : ℕ) → l < (vote_race terms).count → ¬ ((m : ℕ) × IsTie (vote_race terms) a l m)) → ((l : ℕ) × (m : ℕ) × IsTie (vote_race terms) a l m) ⊎ ((l m : ℕ) → IsTie (vote_race terms) a l m → ⊥)
      all (inl found) = inl (found.0, found.1.0, found.1.1)
      all (inr none) = inr (λ l m tie. none l (inside_last l m tie) (m, tie))

-- ---- the group of a tie

-- the marks of the eligible lists with the votes of one
abbrev pub class_of : Poll → ℕ → List Bool
class_of poll l = map (λ x. get_or poll.eligible x false && eqb (votes_of poll x) (votes_of poll l)) (range_with_len 0 (length poll.votes))

pub class-is : (poll : Poll) (l : ℕ) → IsSound poll → IsClassOf poll l (class_of poll l)
class-is poll l sound x = (there, back)
  where
    mark : ℕ → Bool
    mark k = get_or poll.eligible k false && eqb (votes_of poll k) (votes_of poll l)

    at_list : x < length poll.votes → get_or (class_of poll l) x false ≡ mark x
    at_list lt = get_or-map-range_with_len mark 0 (length poll.votes) x x false lt (omega arith)

    both : (e v : Bool) → (e && v) ≡ true → (e ≡ true) × (v ≡ true)
    both true true is = (refl, refl)
    both true false is = cc
    both false v is = cc

    there : get_or (class_of poll l) x false ≡ true → IsEligible poll x × (votes_of poll x ≡ votes_of poll l)
    there is = go (cases_lt x (length poll.votes))
      where
        go : (x < length poll.votes) ⊎ (length poll.votes ≤ x) → IsEligible poll x × (votes_of poll x ≡ votes_of poll l)
        go (inl lt) =
            let two = both (get_or poll.eligible x false) (eqb (votes_of poll x) (votes_of poll l)) (sym (at_list lt) ∙ is) in
            (two.0, eqb-true (votes_of poll x) (votes_of poll l) two.1)
        go (inr past) =
            let none : get_or (class_of poll l) x false ≡ false = get_or_past (class_of poll l) x false (omega (arith, past, length-map-range_with_len mark 0 (length poll.votes))) in
            absurd (false≢true (sym none ∙ is))

    back : IsEligible poll x × (votes_of poll x ≡ votes_of poll l) → get_or (class_of poll l) x false ≡ true
    back is = at_list (sound.listed x is.0) ∙ ap (λ b. b && eqb (votes_of poll x) (votes_of poll l)) is.0 ∙ eq-eqb (votes_of poll x) (votes_of poll l) is.1

-- ---- what the votes come to

-- The votes decide, or a lot is needed, among a group and for this many seats.
pub decided-or_need : (rule : Rule) (poll : Poll) (seats : ℕ) → IsRule rule → IsSound poll → 1 ≤ seats → HasEligible poll
    → IsDecidedByVotes rule poll seats ⊎ ((group : List Bool) × (in_question : ℕ) × IsNeed rule poll seats group in_question)
decided-or_need rule poll seats d sound some has = go (some_tie terms r w.0 fair)
  where
    terms : Terms
    terms = record { rule = rule; poll = poll; lot = []; seats = seats }

    r : AreRaces terms
    r = are_races rule poll [] seats d sound some

    w : (a : List ℕ) × IsAllotment rule poll [] seats a
    w = exists rule poll [] seats d sound some has (proper_without_lot poll)

    fair : IsFair (vote_race terms) seats w.0
    fair = r.to_fair w.0 (by_votes rule poll [] seats w.0 d sound some w.1)

    go : ((l : ℕ) × (m : ℕ) × IsTie (vote_race terms) w.0 l m) ⊎ ((l m : ℕ) → IsTie (vote_race terms) w.0 l m → ⊥)
        → IsDecidedByVotes rule poll seats ⊎ ((group : List Bool) × (in_question : ℕ) × IsNeed rule poll seats group in_question)
    go (inl tie) =
        let group = class_of poll tie.0 in
        let need = need_if_tie terms r w.0 fair tie.0 tie.1 tie.2 group (class-is poll tie.0 sound) in
        inr (group, _, need)
    go (inr none) = inl (decided_if_no_tie terms r w.0 fair none)
