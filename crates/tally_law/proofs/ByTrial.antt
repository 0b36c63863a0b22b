-- Seats are the allotment where a test of each list and of each pair of lists says so. The tests
-- ask for more than an allotment does: that no list's last seat ties with another's next.
use Rattle.std.proofs.Common.{◌≡◌, ℕ, ◌+◌, ◌*◌, ◌<◌, ◌≤◌, ◌≢◌, ◌⊎◌, List, Bool, true, false, not, ◌||◌, ◌==◌, nat_lt, length, get_or, slice_index, sym, ◌∙◌, inl, inr, arith}
use Rattle.std.proofs.lemmas.Bool.{agree_below, agree_below_at, or_cases, cases_lt, eqb-true, eq-eqb, ltb-true, not_from_true, false≢true}
use Rattle.std.proofs.lemmas.List.{get_or_past}
use Rattle.tally_frac.specs.Fraction.{Fraction}
use Rattle.tally_setup.specs.declared.profile.LotRule.{LotRule}
use Rattle.tally_law.specs.Poll.{Poll, IsEligible, SharesOut}
use Rattle.tally_law.specs.DivisorAllotment.{IsAbove, IsDivisorAllotment, quotient_of}
use Rattle.tally_law.specs.HareAllotment.{IsHareAllotment, ClaimsAbove, claim_of, whole_quotas, remainder}

-- whether x is greater than y, as `IsGreater` has it
abbrev pub is_greater : Fraction → Fraction → Bool
is_greater x y = nat_lt (y.num * x.den) (x.num * y.den)

-- the test holds of each number below n
abbrev pub each : (ℕ → Bool) → ℕ → Bool
each test n = agree_below test (λ _. true) n

-- and of each pair of them
abbrev pub each_pair : (ℕ → ℕ → Bool) → ℕ → Bool
each_pair test n = each (λ l. each (test l) n) n

at : (test : ℕ → Bool) (n l : ℕ) → each test n ≡ true → l < n → test l ≡ true
at test n l e lt = agree_below_at test (λ _. true) n l e lt

at_pair : (test : ℕ → ℕ → Bool) (n l m : ℕ) → each_pair test n ≡ true → l < n → m < n → test l m ≡ true
at_pair test n l m e lt_l lt_m = at (test l) n m (at (λ i. each (test i) n) n l e lt_l) lt_m

listed : (poll : Poll) (l : ℕ) → IsEligible poll l → l < length poll.eligible
listed poll l e = by_cases (cases_lt l (length poll.eligible))
  where
    by_cases : (l < length poll.eligible) ⊎ (length poll.eligible ≤ l) → l < length poll.eligible
    by_cases (inl lt) = lt
    by_cases (inr ge) = absurd (false≢true (sym (get_or_past poll.eligible l false ge) ∙ e))

module _ (poll : Poll) (a : List ℕ) where
  -- list l takes part or has no seat
  abbrev pub takes_part_or_has_none : ℕ → Bool
  takes_part_or_has_none l = get_or poll.eligible l false || (get_or a l 0 == 0)

  pub eligible_alone : each takes_part_or_has_none (length a) ≡ true → (l : ℕ) → ¬ IsEligible poll l → slice_index a l ≡ 0
  eligible_alone e l ne = by_cases (cases_lt l (length a))
    where
      by_test : (get_or poll.eligible l false ≡ true) ⊎ ((get_or a l 0 == 0) ≡ true) → slice_index a l ≡ 0
      by_test (inl takes) = absurd (ne takes)
      by_test (inr none) = eqb-true (get_or a l 0) 0 none

      by_cases : (l < length a) ⊎ (length a ≤ l) → slice_index a l ≡ 0
      by_cases (inl lt) = by_test (or_cases _ _ (at takes_part_or_has_none (length a) l e lt))
      by_cases (inr ge) = get_or_past a l 0 ge

  module _ (nth : ℕ → ℕ) (unit : ℕ) where
    -- l and m are the same list, or l has no seat, or the quotient of its last is the greater
    abbrev pub last_is_greater : ℕ → ℕ → Bool
    last_is_greater l m =
        (l == m) || ((get_or a l 0 == 0) ||
        is_greater (quotient_of nth unit poll l (get_or a l 0)) (quotient_of nth unit poll m (get_or a m 0 + 1)))

    pub by_divisors : (lot_rule : LotRule) (lot : List ℕ) (seats : ℕ) → SharesOut poll seats a → each_pair last_is_greater (length poll.eligible) ≡ true → IsDivisorAllotment nth unit lot_rule poll lot seats a
    by_divisors lot_rule lot seats shares e =
        record {
          shares = shares;
          last_above_next = λ l m el em ne win. of_pair l m ne win (at_pair last_is_greater (length poll.eligible) l m e (listed poll l el) (listed poll m em));
        }
      where
        of_pair : (l m : ℕ) → l ≢ m → 1 ≤ slice_index a l → last_is_greater l m ≡ true → IsAbove nth unit lot_rule poll lot l (slice_index a l) m (slice_index a m + 1)
        of_pair l m ne win h = by_first (or_cases _ _ h)
          where
            by_second : ((get_or a l 0 == 0) ≡ true) ⊎ (is_greater (quotient_of nth unit poll l (get_or a l 0)) (quotient_of nth unit poll m (get_or a m 0 + 1)) ≡ true) → IsAbove nth unit lot_rule poll lot l (slice_index a l) m (slice_index a m + 1)
            by_second (inl none) = absurd (omega (arith, eqb-true (get_or a l 0) 0 none))
            by_second (inr greater) = inl (inl (ltb-true _ _ greater))

            by_first : ((l == m) ≡ true) ⊎ (((get_or a l 0 == 0) || is_greater (quotient_of nth unit poll l (get_or a l 0)) (quotient_of nth unit poll m (get_or a m 0 + 1))) ≡ true) → IsAbove nth unit lot_rule poll lot l (slice_index a l) m (slice_index a m + 1)
            by_first (inl same) = absurd (ne (eqb-true l m same))
            by_first (inr rest) = by_second (or_cases _ _ rest)

  module _ (seats : ℕ) where
    -- list l has its whole quotas, or one more
    abbrev pub has_quotas : ℕ → Bool
    has_quotas l = (get_or a l 0 == whole_quotas poll seats l) || (get_or a l 0 == whole_quotas poll seats l + 1)

    -- l has not one more, or m has, or the remainder of l is the greater
    abbrev pub remainder_is_greater : ℕ → ℕ → Bool
    remainder_is_greater l m =
        not (get_or a l 0 == whole_quotas poll seats l + 1) || (not (get_or a m 0 == whole_quotas poll seats m) ||
        nat_lt (remainder poll seats m) (remainder poll seats l))

    pub by_quotas : (lot : List ℕ) → SharesOut poll seats a → each has_quotas (length poll.eligible) ≡ true → each_pair remainder_is_greater (length poll.eligible) ≡ true → IsHareAllotment poll lot seats a
    by_quotas lot shares quotas pairs =
        record {
          shares = shares;
          whole_or_one_more = λ l el. of_list l (or_cases _ _ (at has_quotas (length poll.eligible) l quotas (listed poll l el)));
          more_above_without = λ l m el em more whole. of_pair l m more whole (or_cases _ _ (at_pair remainder_is_greater (length poll.eligible) l m pairs (listed poll l el) (listed poll m em)));
        }
      where
        of_list : (l : ℕ) → ((get_or a l 0 == whole_quotas poll seats l) ≡ true) ⊎ ((get_or a l 0 == whole_quotas poll seats l + 1) ≡ true) → (slice_index a l ≡ whole_quotas poll seats l) ⊎ (slice_index a l ≡ whole_quotas poll seats l + 1)
        of_list l (inl e) = inl (eqb-true _ _ e)
        of_list l (inr e) = inr (eqb-true _ _ e)

        is_not : (x y : ℕ) → x ≡ y → not (x == y) ≡ true → ⊥
        is_not x y e h = false≢true (sym (not_from_true (x == y) (eq-eqb x y e)) ∙ h)

        of_rest : (l m : ℕ) → slice_index a m ≡ whole_quotas poll seats m → (not (get_or a m 0 == whole_quotas poll seats m) ≡ true) ⊎ (nat_lt (remainder poll seats m) (remainder poll seats l) ≡ true) → ClaimsAbove (claim_of poll lot seats l) (claim_of poll lot seats m)
        of_rest l m whole (inl h) = absurd (is_not _ _ whole h)
        of_rest l m whole (inr greater) = inl (inl (ltb-true _ _ greater))

        of_pair : (l m : ℕ) → slice_index a l ≡ whole_quotas poll seats l + 1 → slice_index a m ≡ whole_quotas poll seats m → (not (get_or a l 0 == whole_quotas poll seats l + 1) ≡ true) ⊎ ((not (get_or a m 0 == whole_quotas poll seats m) || nat_lt (remainder poll seats m) (remainder poll seats l)) ≡ true) → ClaimsAbove (claim_of poll lot seats l) (claim_of poll lot seats m)
        of_pair l m more whole (inl h) = absurd (is_not _ _ more h)
        of_pair l m more whole (inr h) = of_rest l m whole (or_cases _ _ h)
