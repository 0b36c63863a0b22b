-- Hare's rule as a race: each eligible list has its whole quotas, and runs for one seat more.
use Rattle.std.proofs.Common.{◌≡◌, ℕ, ◌+◌, ◌*◌, ◌/◌, ◌%◌, ◌<◌, ◌≤◌, ◌≢◌, ◌⊎◌, List, [], Bool, true, false, cond, length, get_or, sum, refl, sym, inl, inr, ap, arith}
use Rattle.std.proofs.lemmas.Bool.{cases_lt, cases_eq}
use Rattle.tally_law.specs.Poll.{Poll, IsEligible, votes_of, SharesOut, eligible_votes}
use Rattle.tally_setup.specs.declared.profile.LotRule.TheVariants.{Fixed}
use Rattle.tally_law.specs.Lot.{place_of, ComesFirst}
use Rattle.tally_law.specs.HareAllotment.{Claim, claim_of, ClaimsAbove, ClaimsAboveByVotes, whole_quotas, remainder, IsHareAllotment, IsHareAllotmentByVotes}
use Rattle.tally_allot_award.specs.internal.Race.{IsPair, NotBelow, IsFair, IsTie}
use Rattle.tally_allot_award.specs.internal.Terms.{IsSound, quotas_for, most_for, remainder_race, placed_remainder_race}
use Rattle.tally_allot_award.proofs.Race.{IsOrderly}
use Rattle.tally_allot_award.proofs.Ties.{IsInClasses}
use Rattle.tally_allot_award.proofs.DivisorRace.{eligible_or_not}

-- x is not below y by remainder and votes, as inequalities
pub record IsLevelOrAbove (x y : Claim) : Type 0 where
  pub remainder_le : y.remainder ≤ x.remainder
  pub votes_le : x.remainder ≡ y.remainder → y.votes ≤ x.votes

pub from_not_above : (x y : Claim) → ¬ ClaimsAboveByVotes y x → IsLevelOrAbove x y
from_not_above x y h = record { remainder_le = by_remainder (cases_lt x.remainder y.remainder); votes_le = λ e. by_votes e (cases_lt x.votes y.votes) }
  where
    by_remainder : (x.remainder < y.remainder) ⊎ (y.remainder ≤ x.remainder) → y.remainder ≤ x.remainder
    by_remainder (inl lt) = absurd (h (inl lt))
    by_remainder (inr ge) = ge

    by_votes : x.remainder ≡ y.remainder → (x.votes < y.votes) ⊎ (y.votes ≤ x.votes) → y.votes ≤ x.votes
    by_votes e (inl lt) = absurd (h (inr (sym e, lt)))
    by_votes e (inr ge) = ge

pub to_not_above : (x y : Claim) → IsLevelOrAbove x y → ¬ ClaimsAboveByVotes y x
to_not_above x y w (inl lt) = omega (arith, w.remainder_le)
to_not_above x y w (inr t) = omega (arith, w.votes_le (sym t.0), t.1)

pub decide_by_votes : (x y : Claim) → ClaimsAboveByVotes x y ⊎ ¬ ClaimsAboveByVotes x y
decide_by_votes x y = by_numbers (cases_lt y.remainder x.remainder) (cases_eq x.remainder y.remainder) (cases_lt y.votes x.votes)
  where
    by_numbers : (y.remainder < x.remainder) ⊎ (x.remainder ≤ y.remainder) → (x.remainder ≡ y.remainder) ⊎ (x.remainder ≡ y.remainder → ⊥) → (y.votes < x.votes) ⊎ (x.votes ≤ y.votes) → ClaimsAboveByVotes x y ⊎ ¬ ClaimsAboveByVotes x y
    by_numbers (inl lt) _ _ = inl (inl lt)
    by_numbers (inr ge) (inl e) (inl lt) = inl (inr (e, lt))
    by_numbers (inr ge) (inl e) (inr le) = inr (to_not_above y x (record { remainder_le = ge; votes_le = λ _. le }))
    by_numbers (inr ge) (inr ne) _ = inr (to_not_above y x (record { remainder_le = ge; votes_le = λ e. absurd (ne (sym e)) }))

pub chain_by_votes : (x y z : Claim) → ¬ ClaimsAboveByVotes y x → ¬ ClaimsAboveByVotes z y → ¬ ClaimsAboveByVotes z x
chain_by_votes x y z h k =
    let v = from_not_above x y h in
    let w = from_not_above y z k in
    to_not_above x z (record {
      remainder_le = omega (arith, v.remainder_le, w.remainder_le);
      votes_le = λ e. let a : x.remainder ≡ y.remainder = omega (arith, v.remainder_le, w.remainder_le) in let b : y.remainder ≡ z.remainder = omega (arith, v.remainder_le, w.remainder_le) in omega (arith, v.votes_le a, w.votes_le b);
    })

pub asym_by_votes : (x y : Claim) → ClaimsAboveByVotes x y → ¬ ClaimsAboveByVotes y x
asym_by_votes x y (inl lt) (inl gt) = omega arith
asym_by_votes x y (inl lt) (inr t) = omega (arith, t.0)
asym_by_votes x y (inr s) (inl gt) = omega (arith, s.0)
asym_by_votes x y (inr s) (inr t) = omega (arith, s.1, t.1)

pub level_from_neither : (x y : Claim) → ¬ ClaimsAboveByVotes x y → ¬ ClaimsAboveByVotes y x → (x.remainder ≡ y.remainder) × (x.votes ≡ y.votes)
level_from_neither x y h k =
    let v = from_not_above y x h in
    let w = from_not_above x y k in
    let e : x.remainder ≡ y.remainder = omega (arith, v.remainder_le, w.remainder_le) in
    (e, omega (arith, v.votes_le (sym e), w.votes_le e))

-- the same with places
pub record IsLevelOrAbovePlaced (x y : Claim) : Type 0 where
  pub by_votes : IsLevelOrAbove x y
  pub place_le : x.remainder ≡ y.remainder → x.votes ≡ y.votes → x.place ≤ y.place

pub from_not_above_placed : (x y : Claim) → ¬ ClaimsAbove y x → IsLevelOrAbovePlaced x y
from_not_above_placed x y h = record { by_votes = from_not_above x y (λ ab. h (inl ab)); place_le = λ e v. by_place e v (cases_lt y.place x.place) }
  where
    by_place : x.remainder ≡ y.remainder → x.votes ≡ y.votes → (y.place < x.place) ⊎ (x.place ≤ y.place) → x.place ≤ y.place
    by_place e v (inl lt) = absurd (h (inr (sym e, sym v, lt)))
    by_place e v (inr ge) = ge

pub to_not_above_placed : (x y : Claim) → IsLevelOrAbovePlaced x y → ¬ ClaimsAbove y x
to_not_above_placed x y w (inl ab) = to_not_above x y w.by_votes ab
to_not_above_placed x y w (inr t) = omega (arith, w.place_le (sym t.0) (sym t.1), t.2)

pub decide : (x y : Claim) → ClaimsAbove x y ⊎ ¬ ClaimsAbove x y
decide x y = by_numbers (decide_by_votes x y) (cases_eq x.remainder y.remainder) (cases_eq x.votes y.votes) (cases_lt x.place y.place)
  where
    by_numbers : ClaimsAboveByVotes x y ⊎ ¬ ClaimsAboveByVotes x y → (x.remainder ≡ y.remainder) ⊎ (x.remainder ≡ y.remainder → ⊥) → (x.votes ≡ y.votes) ⊎ (x.votes ≡ y.votes → ⊥) → (x.place < y.place) ⊎ (y.place ≤ x.place) → ClaimsAbove x y ⊎ ¬ ClaimsAbove x y
    by_numbers (inl ab) _ _ _ = inl (inl ab)
    by_numbers (inr nb) (inl e) (inl v) (inl lt) = inl (inr (e, v, lt))
    by_numbers (inr nb) (inl e) (inl v) (inr ge) = inr (to_not_above_placed y x (record { by_votes = from_not_above y x nb; place_le = λ _ _. ge }))
    by_numbers (inr nb) (inl e) (inr nv) _ = inr (to_not_above_placed y x (record { by_votes = from_not_above y x nb; place_le = λ _ v. absurd (nv (sym v)) }))
    by_numbers (inr nb) (inr ne) _ _ = inr (to_not_above_placed y x (record { by_votes = from_not_above y x nb; place_le = λ e _. absurd (ne (sym e)) }))

pub asym : (x y : Claim) → ClaimsAbove x y → ¬ ClaimsAbove y x
asym x y (inl ab) (inl ab') = asym_by_votes x y ab ab'
asym x y (inl (inl lt)) (inr t) = omega (arith, lt, t.0)
asym x y (inl (inr s)) (inr t) = omega (arith, s.1, t.1)
asym x y (inr t) (inl (inl lt)) = omega (arith, lt, t.0)
asym x y (inr t) (inl (inr s)) = omega (arith, s.1, t.1)
asym x y (inr t) (inr s) = omega (arith, t.2, s.2)

pub chain : (x y z : Claim) → ¬ ClaimsAbove y x → ¬ ClaimsAbove z y → ¬ ClaimsAbove z x
chain x y z h k =
    let v = from_not_above_placed x y h in
    let w = from_not_above_placed y z k in
    let both = from_not_above x z (chain_by_votes x y z (λ ab. h (inl ab)) (λ ab. k (inl ab))) in
    to_not_above_placed x z (record {
      by_votes = both;
      place_le = λ e same.
          let a : x.remainder ≡ y.remainder = omega (arith, v.by_votes.remainder_le, w.by_votes.remainder_le) in
          let b : y.remainder ≡ z.remainder = omega (arith, v.by_votes.remainder_le, w.by_votes.remainder_le) in
          let p : y.votes ≤ x.votes = v.by_votes.votes_le a in
          let q : z.votes ≤ y.votes = w.by_votes.votes_le b in
          omega (arith, v.place_le a (omega arith), w.place_le b (omega arith));
    })

pub quotas_for-eligible : (poll : Poll) (seats l : ℕ) → IsEligible poll l → quotas_for poll seats l ≡ whole_quotas poll seats l
quotas_for-eligible poll seats l e = ap (λ b. cond b (whole_quotas poll seats l) 0) e

pub most_for-eligible : (poll : Poll) (seats l : ℕ) → IsEligible poll l → most_for poll seats l ≡ whole_quotas poll seats l + 1
most_for-eligible poll seats l e = ap (λ b. cond b (whole_quotas poll seats l + 1) 0) e

pub none_for-ineligible : (poll : Poll) (seats l : ℕ) → ¬ IsEligible poll l → (quotas_for poll seats l ≡ 0) × (most_for poll seats l ≡ 0)
none_for-ineligible poll seats l ne = by_test (get_or poll.eligible l false) ne
  where
    by_test : (b : Bool) → ¬ (b ≡ true) → (cond b (whole_quotas poll seats l) 0 ≡ 0) × (cond b (whole_quotas poll seats l + 1) 0 ≡ 0)
    by_test true ne = absurd (ne refl)
    by_test false ne = (refl, refl)

pub eligible_if_runs : (poll : Poll) (seats l n : ℕ) → n < most_for poll seats l → IsEligible poll l
eligible_if_runs poll seats l n h = by_test (eligible_or_not poll l)
  where
    by_test : IsEligible poll l ⊎ ¬ IsEligible poll l → IsEligible poll l
    by_test (inl e) = e
    by_test (inr ne) = absurd (omega (arith, none_for-ineligible poll seats l ne))

-- a claim that is above with its place is above by the votes, or is level and has the earlier place
pub placed_by : (poll : Poll) (lot : List ℕ) (seats l m : ℕ) → ClaimsAbove (claim_of poll lot seats l) (claim_of poll lot seats m) → ClaimsAboveByVotes (claim_of poll [] seats l) (claim_of poll [] seats m) ⊎ ((¬ ClaimsAboveByVotes (claim_of poll [] seats m) (claim_of poll [] seats l)) × (place_of lot l < place_of lot m))
placed_by poll lot seats l m (inl ab) = inl ab
placed_by poll lot seats l m (inr t) = inr (to_not_above (claim_of poll [] seats l) (claim_of poll [] seats m) (record { remainder_le = omega (arith, t.0); votes_le = λ _. omega (arith, t.1) }), t.2)

module _ (poll : Poll) (sound : IsSound poll) (seats : ℕ) where
  eligible_of : (l k : ℕ) → IsPair (remainder_race poll seats) l k → IsEligible poll l
  eligible_of l k p = eligible_if_runs poll seats l 0 (omega (arith, p))

  -- the one seat that a list runs for
  seat_of : (l k : ℕ) → IsPair (remainder_race poll seats) l k → k ≡ whole_quotas poll seats l + 1
  seat_of l k p =
      let e = eligible_of l k p in
      omega (arith, p, quotas_for-eligible poll seats l e, most_for-eligible poll seats l e)

  pub remainder_race-within : (l : ℕ) → quotas_for poll seats l < most_for poll seats l → l < length poll.votes
  remainder_race-within l h = sound.listed l (eligible_if_runs poll seats l _ h)

  one_pair : (l j k : ℕ) → IsPair (remainder_race poll seats) l j → IsPair (remainder_race poll seats) l k → j < k → ⊥
  one_pair l j k p q lt = omega (arith, seat_of l j p, seat_of l k q)

  pub remainder_race-orderly : IsOrderly (remainder_race poll seats)
  remainder_race-orderly =
      record {
        decide = λ l k m j _ _. decide_by_votes (claim_of poll [] seats l) (claim_of poll [] seats m);
        asym = λ l k m j _ _ ab. asym_by_votes (claim_of poll [] seats l) (claim_of poll [] seats m) ab;
        chain = λ l k m j n i _ _ _ h h'. chain_by_votes (claim_of poll [] seats l) (claim_of poll [] seats m) (claim_of poll [] seats n) h h';
        falling = λ l j k p q lt. absurd (one_pair l j k p q lt);
      }

  pub placed_remainder_race-orderly : (lot : List ℕ) → IsOrderly (placed_remainder_race poll lot seats)
  placed_remainder_race-orderly lot =
      record {
        decide = λ l k m j _ _. decide (claim_of poll lot seats l) (claim_of poll lot seats m);
        asym = λ l k m j _ _ ab. asym (claim_of poll lot seats l) (claim_of poll lot seats m) ab;
        chain = λ l k m j n i _ _ _ h h'. chain (claim_of poll lot seats l) (claim_of poll lot seats m) (claim_of poll lot seats n) h h';
        falling = λ l j k p q lt. absurd (one_pair l j k p q lt);
      }

  -- of claims that are level the one of the lower place is above
  pub remainder_race-tie_placed : (lot : List ℕ) (l m : ℕ) → ¬ ClaimsAboveByVotes (claim_of poll [] seats l) (claim_of poll [] seats m) → ¬ ClaimsAboveByVotes (claim_of poll [] seats m) (claim_of poll [] seats l) → place_of lot l < place_of lot m → ClaimsAbove (claim_of poll lot seats l) (claim_of poll lot seats m)
  remainder_race-tie_placed lot l m h h' lower =
      let level = level_from_neither (claim_of poll [] seats l) (claim_of poll [] seats m) h h' in
      inr (level.0, level.1, lower)

  pub remainder_race-classes : IsInClasses (remainder_race poll seats) (votes_of poll)
  remainder_race-classes = record { tied_alike = tied_alike; alike_tied = alike_tied; alike_runs = alike_runs }
    where
      same_quotas : (l m : ℕ) → votes_of poll l ≡ votes_of poll m → whole_quotas poll seats l ≡ whole_quotas poll seats m
      same_quotas l m same = ap (λ v. (v * seats) / eligible_votes poll) same

      same_remainder : (l m : ℕ) → votes_of poll l ≡ votes_of poll m → remainder poll seats l ≡ remainder poll seats m
      same_remainder l m same = ap (λ v. (v * seats) % eligible_votes poll) same

      tied_alike : (l k m j : ℕ) → IsPair (remainder_race poll seats) l k → IsPair (remainder_race poll seats) m j → NotBelow (remainder_race poll seats) l k m j → NotBelow (remainder_race poll seats) m j l k → (votes_of poll l ≡ votes_of poll m) × (k ≡ j)
      tied_alike l k m j p q h h' =
          let level = level_from_neither (claim_of poll [] seats l) (claim_of poll [] seats m) h' h in
          (level.1, omega (arith, seat_of l k p, seat_of m j q, same_quotas l m level.1))

      alike_tied : (l m k : ℕ) → IsPair (remainder_race poll seats) l k → IsPair (remainder_race poll seats) m k → votes_of poll l ≡ votes_of poll m → NotBelow (remainder_race poll seats) l k m k
      alike_tied l m k p q same = to_not_above (claim_of poll [] seats l) (claim_of poll [] seats m) (record { remainder_le = omega (arith, same_remainder l m same); votes_le = λ _. omega (arith, same) })

      alike_runs : (l m : ℕ) → quotas_for poll seats l < most_for poll seats l → quotas_for poll seats m < most_for poll seats m → votes_of poll l ≡ votes_of poll m → (quotas_for poll seats l ≡ quotas_for poll seats m) × (most_for poll seats l ≡ most_for poll seats m)
      alike_runs l m p q same =
          let el = eligible_if_runs poll seats l _ p in
          let em = eligible_if_runs poll seats m _ q in
          let e = same_quotas l m same in
          (omega (arith, quotas_for-eligible poll seats l el, quotas_for-eligible poll seats m em), omega (arith, most_for-eligible poll seats l el, most_for-eligible poll seats m em))

  -- what the definitions and a race have in common
  abbrev WholeOrMore : List ℕ → ℕ → Type 0
  WholeOrMore a l = (get_or a l 0 ≡ whole_quotas poll seats l) ⊎ (get_or a l 0 ≡ whole_quotas poll seats l + 1)

  bounds_from : (a : List ℕ) → SharesOut poll seats a → ((l : ℕ) → IsEligible poll l → WholeOrMore a l) → (l : ℕ) → (quotas_for poll seats l ≤ get_or a l 0) × (get_or a l 0 ≤ most_for poll seats l)
  bounds_from a s w l = by_test (eligible_or_not poll l)
    where
      within : IsEligible poll l → WholeOrMore a l → (quotas_for poll seats l ≤ get_or a l 0) × (get_or a l 0 ≤ most_for poll seats l)
      within e (inl h) = (omega (arith, quotas_for-eligible poll seats l e), omega (arith, most_for-eligible poll seats l e))
      within e (inr h) = (omega (arith, quotas_for-eligible poll seats l e), omega (arith, most_for-eligible poll seats l e))

      by_test : IsEligible poll l ⊎ ¬ IsEligible poll l → (quotas_for poll seats l ≤ get_or a l 0) × (get_or a l 0 ≤ most_for poll seats l)
      by_test (inl e) = within e (w l e)
      by_test (inr ne) = let z = none_for-ineligible poll seats l ne in let y = s.eligible_only l ne in (omega (arith, z), omega (arith, z))

  whole_or_more_from : (a : List ℕ) → ((l : ℕ) → quotas_for poll seats l ≤ get_or a l 0) → ((l : ℕ) → get_or a l 0 ≤ most_for poll seats l) → (l : ℕ) → IsEligible poll l → WholeOrMore a l
  whole_or_more_from a low high l e = by_test (cases_eq (get_or a l 0) (whole_quotas poll seats l))
    where
      by_test : (get_or a l 0 ≡ whole_quotas poll seats l) ⊎ (get_or a l 0 ≡ whole_quotas poll seats l → ⊥) → WholeOrMore a l
      by_test (inl h) = inl h
      by_test (inr ne) = inr (omega (arith, low l, high l, quotas_for-eligible poll seats l e, most_for-eligible poll seats l e))

  shares_from : (a : List ℕ) → length a ≡ length poll.votes → ((l : ℕ) → get_or a l 0 ≤ most_for poll seats l) → sum a ≡ seats → SharesOut poll seats a
  shares_from a long high whole = record { one_each = long; eligible_only = λ l ne. omega (arith, high l, none_for-ineligible poll seats l ne); whole = whole }

  -- a list above its whole quotas has one more, and one below its most has none more
  has_more : (a : List ℕ) → ((l : ℕ) → get_or a l 0 ≤ most_for poll seats l) → (l : ℕ) → quotas_for poll seats l < get_or a l 0 → IsEligible poll l × (get_or a l 0 ≡ whole_quotas poll seats l + 1)
  has_more a high l win =
      let e = eligible_if_runs poll seats l (quotas_for poll seats l) (omega (arith, high l)) in
      (e, omega (arith, high l, quotas_for-eligible poll seats l e, most_for-eligible poll seats l e))

  has_no_more : (a : List ℕ) → ((l : ℕ) → quotas_for poll seats l ≤ get_or a l 0) → (m : ℕ) → get_or a m 0 < most_for poll seats m → IsEligible poll m × (get_or a m 0 ≡ whole_quotas poll seats m)
  has_no_more a low m room =
      let e = eligible_if_runs poll seats m _ room in
      (e, omega (arith, low m, quotas_for-eligible poll seats m e, most_for-eligible poll seats m e))

  pub fair_from_by_votes : (a : List ℕ) → IsHareAllotmentByVotes poll seats a → IsFair (remainder_race poll seats) seats a
  fair_from_by_votes a w =
      let b = bounds_from a w.shares w.whole_or_one_more in
      record {
        one_each = w.shares.one_each;
        low = λ l. (b l).0;
        high = λ l. (b l).1;
        total = w.shares.whole;
        last_not_below_next = λ l m ne win room.
            let x = has_more a (λ i. (b i).1) l win in let y = has_no_more a (λ i. (b i).0) m room in w.more_not_below_without l m x.0 y.0 x.1 y.1;
      }

  apart_by_seats : (a : List ℕ) (l m : ℕ) → get_or a l 0 ≡ whole_quotas poll seats l + 1 → get_or a m 0 ≡ whole_quotas poll seats m → l ≢ m
  apart_by_seats a l m p q e =
      let x : get_or a l 0 ≡ get_or a m 0 = ap (λ i. get_or a i 0) e in
      let y : whole_quotas poll seats l ≡ whole_quotas poll seats m = ap (λ i. whole_quotas poll seats i) e in
      omega arith

  pub by_votes_from_fair : (a : List ℕ) → IsFair (remainder_race poll seats) seats a → IsHareAllotmentByVotes poll seats a
  by_votes_from_fair a f =
      record {
        shares = shares_from a f.one_each f.high f.total;
        whole_or_one_more = whole_or_more_from a f.low f.high;
        more_not_below_without = λ l m el em p q. f.last_not_below_next l m (apart_by_seats a l m p q) (omega (arith, quotas_for-eligible poll seats l el)) (omega (arith, most_for-eligible poll seats m em));
      }

  -- an allotment is one by the votes alone in which each tie goes to the list that comes first
  pub by_votes_from_allotment : (lot : List ℕ) (a : List ℕ) → IsHareAllotment poll lot seats a → IsHareAllotmentByVotes poll seats a
  by_votes_from_allotment lot a w =
      record { shares = w.shares; whole_or_one_more = w.whole_or_one_more; more_not_below_without = λ l m el em p q back. asym (claim_of poll lot seats l) (claim_of poll lot seats m) (w.more_above_without l m el em p q) (inl back) }

  pub choice_from_allotment : (lot : List ℕ) (a : List ℕ) → IsHareAllotment poll lot seats a → (l m : ℕ) → IsTie (remainder_race poll seats) a l m → ComesFirst Fixed lot l m (get_or a l 0)
  choice_from_allotment lot a w l m t =
      let b = bounds_from a w.shares w.whole_or_one_more in
      let x = has_more a (λ i. (b i).1) l t.wins in
      let y = has_no_more a (λ i. (b i).0) m t.runs in
      by_rank (w.more_above_without l m x.0 y.0 x.1 y.1)
    where
      by_rank : ClaimsAbove (claim_of poll lot seats l) (claim_of poll lot seats m) → ComesFirst Fixed lot l m (get_or a l 0)
      by_rank (inl ab) = absurd (t.tied ab)
      by_rank (inr u) = inl ((λ x. x), u.2)

  pub allotment_from_choice : (lot : List ℕ) (a : List ℕ) → IsFair (remainder_race poll seats) seats a → ((l m : ℕ) → IsTie (remainder_race poll seats) a l m → ComesFirst Fixed lot l m (get_or a l 0)) → IsHareAllotment poll lot seats a
  allotment_from_choice lot a f choice = record { shares = shares_from a f.one_each f.high f.total; whole_or_one_more = whole_or_more_from a f.low f.high; more_above_without = above }
    where
      above : (l m : ℕ) → IsEligible poll l → IsEligible poll m → get_or a l 0 ≡ whole_quotas poll seats l + 1 → get_or a m 0 ≡ whole_quotas poll seats m → ClaimsAbove (claim_of poll lot seats l) (claim_of poll lot seats m)
      above l m el em p q = by_rank (decide_by_votes (claim_of poll [] seats l) (claim_of poll [] seats m))
        where
          apart : l ≢ m
          apart = apart_by_seats a l m p q

          wins : quotas_for poll seats l < get_or a l 0
          wins = omega (arith, quotas_for-eligible poll seats l el)

          room : get_or a m 0 < most_for poll seats m
          room = omega (arith, most_for-eligible poll seats m em)

          earlier : ComesFirst Fixed lot l m (get_or a l 0) → place_of lot l < place_of lot m
          earlier (inl c) = c.1
          earlier (inr c) = absurd c.0

          by_rank : ClaimsAboveByVotes (claim_of poll [] seats l) (claim_of poll [] seats m) ⊎ ¬ ClaimsAboveByVotes (claim_of poll [] seats l) (claim_of poll [] seats m) → ClaimsAbove (claim_of poll lot seats l) (claim_of poll lot seats m)
          by_rank (inl ab) = inl ab
          by_rank (inr nb) = remainder_race-tie_placed lot l m nb (f.last_not_below_next l m apart wins room) (earlier (choice l m (record { apart = apart; wins = wins; runs = room; tied = nb })))

  pub fair_by_votes : (lot : List ℕ) (n : ℕ) (a : List ℕ) → IsFair (placed_remainder_race poll lot seats) n a → IsFair (remainder_race poll seats) n a
  fair_by_votes lot n a f =
      record { one_each = f.one_each; low = f.low; high = f.high; total = f.total; last_not_below_next = λ l m ne win room ab. f.last_not_below_next l m ne win room (inl ab) }
