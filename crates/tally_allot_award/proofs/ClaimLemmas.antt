-- A heap of claims: whose the greatest one is, and what is left once its list has its seat.
use Rattle.std.proofs.Common.{◌≡◌, ℕ, ◌+◌, ◌<◌, ◌≤◌, ◌⊎◌, List, [], ◌∷◌, true, false, cond, eqb, ltb, length, get_or, set, sum_by, All, IsPermutation, refl, sym, ap, ◌∙◌, subst, inl, inr, arith, get_or-set_same, get_or-set_other}
use Rattle.std.proofs.lemmas.Bool.{cases_lt, cases_eq, cases_Bool, false≢true, eqb-true, eq-eqb, ne_eqb, lt-ltb, le-ltb}
use Rattle.std.proofs.lemmas.List.Elements.{All-nil, All-cons, All-head, All-tail}
use Rattle.std.proofs.lemmas.List.Sorted.{All-permutation, sum_by_pushed, sum_by_popped}
use Rattle.std.specs.BinaryHeap.{IsUpperBound}
use Rattle.std.specs.Cmp.{nat_cmp_is}
use Rattle.std.specs.Ordering.{nat_cmp, ordering_then, is_lt}
use Rattle.std.specs.declared.cmp.Ordering.TheVariants.{Less, Equal}
use Rattle.tally_allot_award.specs.internal.Claims.{IsClaimOf, claim_cmp, is_by, one_if_more, AreClaims}
use Rattle.tally_law.specs.HareAllotment.{Claim, claim_of, ClaimsAbove}
use Rattle.tally_law.specs.Poll.{Poll}
use Rattle.tally_allot_award.specs.internal.Race.{IsHighestNext}
use Rattle.tally_allot_award.specs.internal.Terms.{Terms, placed_remainder_race, quotas_for, most_for}
use Rattle.tally_allot_award.specs.declared.remainder_award.SeatClaim.{SeatClaim}
use Rattle.tally_allot_award.proofs.HareRace.{eligible_if_runs, quotas_for-eligible, most_for-eligible}
use Rattle.tally_allot_award.proofs.HeapLemmas.{found}

upper_at : (x : SeatClaim) (xs : List SeatClaim) → IsUpperBound claim_cmp x xs → All (λ y. is_lt (claim_cmp x y) ≡ false) xs
upper_at x [] h = All-nil (λ y. is_lt (claim_cmp x y) ≡ false)
upper_at x (y ∷ ys) h = All-cons (λ z. is_lt (claim_cmp x z) ≡ false) y ys h.0 (upper_at x ys h.1)

-- the claim as the definition of the allotment sees it
abbrev seen : SeatClaim → Claim
seen x = record { remainder = x.remainder; votes = x.votes; place = (x.place).0 }

less : (a b : ℕ) → a < b → nat_cmp a b ≡ Less
less a b h = sym (nat_cmp_is a b Less h)

level : (a b : ℕ) → a ≡ b → nat_cmp a b ≡ Equal
level a b h = sym (nat_cmp_is a b Equal h)

below_is_less : (x y : SeatClaim) → ClaimsAbove (seen y) (seen x) → is_lt (claim_cmp x y) ≡ true
below_is_less x y (inl (inl h)) = ap (λ o. is_lt (ordering_then o (ordering_then (nat_cmp x.votes y.votes) (ordering_then (nat_cmp (y.place).0 (x.place).0) (nat_cmp x.list y.list))))) (less x.remainder y.remainder h)
below_is_less x y (inl (inr h)) =
    ap (λ o. is_lt (ordering_then o (ordering_then (nat_cmp x.votes y.votes) (ordering_then (nat_cmp (y.place).0 (x.place).0) (nat_cmp x.list y.list))))) (level x.remainder y.remainder (sym h.0))
    ∙ ap (λ o. is_lt (ordering_then o (ordering_then (nat_cmp (y.place).0 (x.place).0) (nat_cmp x.list y.list)))) (less x.votes y.votes h.1)
below_is_less x y (inr h) =
    ap (λ o. is_lt (ordering_then o (ordering_then (nat_cmp x.votes y.votes) (ordering_then (nat_cmp (y.place).0 (x.place).0) (nat_cmp x.list y.list))))) (level x.remainder y.remainder (sym h.0))
    ∙ ap (λ o. is_lt (ordering_then o (ordering_then (nat_cmp (y.place).0 (x.place).0) (nat_cmp x.list y.list)))) (level x.votes y.votes (sym h.1))
    ∙ ap (λ o. is_lt (ordering_then o (nat_cmp x.list y.list))) (less (y.place).0 (x.place).0 h.2)

by_list : (l : ℕ) (x : SeatClaim) → 1 ≤ is_by l x → x.list ≡ l
by_list l x h = by_test (cases_Bool (eqb x.list l))
  where
    by_test : (eqb x.list l ≡ true) ⊎ (eqb x.list l ≡ false) → x.list ≡ l
    by_test (inl e) = eqb-true x.list l e
    by_test (inr e) = let none : is_by l x ≡ 0 = ap (λ b. cond b 1 0) e in absurd (omega (arith, none, h))

is_by_same : (l : ℕ) (x : SeatClaim) → x.list ≡ l → is_by l x ≡ 1
is_by_same l x e = ap (λ b. cond b 1 0) (eq-eqb x.list l e)

is_by_other : (l : ℕ) (x : SeatClaim) → (x.list ≡ l → ⊥) → is_by l x ≡ 0
is_by_other l x ne = ap (λ b. cond b 1 0) (ne_eqb x.list l ne)

pub more : (poll : Poll) (seats : ℕ) (a : List ℕ) (l : ℕ) → get_or a l 0 < most_for poll seats l → one_if_more poll seats a l ≡ 1
more poll seats a l h = ap (λ b. cond b 1 0) (lt-ltb (get_or a l 0) (most_for poll seats l) h)

pub no_more : (poll : Poll) (seats : ℕ) (a : List ℕ) (l : ℕ) → most_for poll seats l ≤ get_or a l 0 → one_if_more poll seats a l ≡ 0
no_more poll seats a l h = ap (λ b. cond b 1 0) (le-ltb (get_or a l 0) (most_for poll seats l) h)

if_more : (poll : Poll) (seats : ℕ) (a : List ℕ) (l : ℕ) → 1 ≤ one_if_more poll seats a l → get_or a l 0 < most_for poll seats l
if_more poll seats a l h = by_cases (cases_lt (get_or a l 0) (most_for poll seats l))
  where
    by_cases : (get_or a l 0 < most_for poll seats l) ⊎ (most_for poll seats l ≤ get_or a l 0) → get_or a l 0 < most_for poll seats l
    by_cases (inl lt) = lt
    by_cases (inr ge) = absurd (omega (arith, no_more poll seats a l ge, h))

-- a list that may hold more may hold one seat more than its whole quotas
pub one_seat : (poll : Poll) (seats l n : ℕ) → n < most_for poll seats l → most_for poll seats l ≡ quotas_for poll seats l + 1
one_seat poll seats l n h =
    let e = eligible_if_runs poll seats l n h in
    omega (arith, quotas_for-eligible poll seats l e, most_for-eligible poll seats l e)

-- a claim in place of what it says
seen_is : (terms : Terms) (x : SeatClaim) → IsClaimOf terms x → seen x ≡ claim_of terms.poll terms.lot terms.seats x.list
seen_is terms x c = rw (c.remainder_is, c.votes_is, c.place_is) refl

-- a heap without claims holds none of a list that may hold more
pub some_claim : (terms : Terms) (n : ℕ) (a : List ℕ) (items : List SeatClaim) → AreClaims terms n a items → length items ≡ 0 → (l : ℕ) → l < n → most_for terms.poll terms.seats l ≤ get_or a l 0
some_claim terms n a [] claims e l lt = by_cases (cases_lt (get_or a l 0) (most_for terms.poll terms.seats l))
  where
    by_cases : (get_or a l 0 < most_for terms.poll terms.seats l) ⊎ (most_for terms.poll terms.seats l ≤ get_or a l 0) → most_for terms.poll terms.seats l ≤ get_or a l 0
    by_cases (inl h) = absurd (omega (arith, claims.once l lt, more terms.poll terms.seats a l h))
    by_cases (inr h) = h
some_claim terms n a (x ∷ xs) claims e l lt = absurd (omega (arith, e))

module _ (terms : Terms) (n : ℕ) (a : List ℕ) (items rest : List SeatClaim) (x : SeatClaim) (claims : AreClaims terms n a items) (popped : IsPermutation items (x ∷ rest)) where
  abbrev IsOne : SeatClaim → Type 0
  IsOne y = IsClaimOf terms y

  parts : All IsOne (x ∷ rest)
  parts = All-permutation IsOne items (x ∷ rest) popped claims.each

  popped_is : IsOne x
  popped_is = All-head IsOne x rest parts

  counts : (l : ℕ) → sum_by (is_by l) rest + is_by l x ≡ sum_by (is_by l) items
  counts l = sum_by_popped (is_by l) x items rest popped

  pub popped_listed : x.list < n
  popped_listed = by_cases (cases_lt x.list n)
    where
      by_cases : (x.list < n) ⊎ (n ≤ x.list) → x.list < n
      by_cases (inl lt) = lt
      by_cases (inr ge) = absurd (omega (arith, counts x.list, claims.no_later x.list ge, is_by_same x.list x refl))

  pub popped_runs : get_or a x.list 0 < most_for terms.poll terms.seats x.list
  popped_runs = if_more terms.poll terms.seats a x.list (omega (arith, counts x.list, claims.once x.list popped_listed, is_by_same x.list x refl))

  none_left : sum_by (is_by x.list) rest ≡ 0
  none_left = omega (arith, counts x.list, claims.once x.list popped_listed, is_by_same x.list x refl, more terms.poll terms.seats a x.list popped_runs)

  -- what no claim is greater than is that of the list with the highest next pair
  pub popped_highest : ((m : ℕ) → get_or a m 0 < most_for terms.poll terms.seats m → m < n) → IsUpperBound claim_cmp x items → IsHighestNext (placed_remainder_race terms.poll terms.lot terms.seats) a x.list
  popped_highest listed bound = record { runs = popped_runs; highest = highest }
    where
      highest : (m : ℕ) → get_or a m 0 < most_for terms.poll terms.seats m → ¬ ClaimsAbove (claim_of terms.poll terms.lot terms.seats m) (claim_of terms.poll terms.lot terms.seats x.list)
      highest m runs above =
          let f = found (is_by m) items (omega (arith, claims.once m (listed m runs), more terms.poll terms.seats a m runs)) in
          let y = get_or items f.0 x in
          let list : y.list ≡ m = by_list m y (f.2 x) in
          let is : seen y ≡ claim_of terms.poll terms.lot terms.seats m = seen_is terms y (claims.each f.0 x f.1) ∙ ap (claim_of terms.poll terms.lot terms.seats) list in
          let P : Claim → Type 0 = λ c. ClaimsAbove c (claim_of terms.poll terms.lot terms.seats x.list) in
          let Q : Claim → Type 0 = λ c. ClaimsAbove (seen y) c in
          false≢true (sym (upper_at x items bound f.0 x f.1) ∙ below_is_less x y (subst Q (sym (seen_is terms x popped_is)) (subst P (sym is) above)))

  -- once its list has one seat more and so its most
  pub popped_rest : x.list < length a → most_for terms.poll terms.seats x.list ≤ get_or a x.list 0 + 1 → AreClaims terms n (set a x.list (get_or a x.list 0 + 1)) rest
  popped_rest inside full = record { each = All-tail IsOne x rest parts; once = λ l lt. once l lt (cases_eq l x.list); no_later = λ l ge. omega (arith, counts l, claims.no_later l ge) }
    where
      b : List ℕ
      b = set a x.list (get_or a x.list 0 + 1)

      at_list : get_or b x.list 0 ≡ get_or a x.list 0 + 1
      at_list = get_or-set_same a x.list (get_or a x.list 0 + 1) 0 inside

      once : (l : ℕ) → l < n → (l ≡ x.list) ⊎ (l ≡ x.list → ⊥) → sum_by (is_by l) rest ≡ one_if_more terms.poll terms.seats b l
      once l lt (inl e) =
          let P : ℕ → Type 0 = λ i. sum_by (is_by i) rest ≡ one_if_more terms.poll terms.seats b i in
          subst P (sym e) (none_left ∙ sym (no_more terms.poll terms.seats b x.list (omega (arith, at_list, full))))
      once l lt (inr ne) =
          let same : one_if_more terms.poll terms.seats b l ≡ one_if_more terms.poll terms.seats a l = ap (λ k. cond (ltb k (most_for terms.poll terms.seats l)) 1 0) (get_or-set_other a x.list l (get_or a x.list 0 + 1) 0 ne) in
          omega (arith, same, counts l, claims.once l lt, is_by_other l x (λ e. ne (sym e)))

module _ (terms : Terms) (n : ℕ) (a : List ℕ) (items : List SeatClaim) (claims : AreClaims terms n a items) where
  pub one_passed : most_for terms.poll terms.seats n ≤ get_or a n 0 → AreClaims terms (n + 1) a items
  one_passed full = record { each = claims.each; once = λ l lt. once l lt (cases_eq l n); no_later = λ l ge. claims.no_later l (omega arith) }
    where
      once : (l : ℕ) → l < n + 1 → (l ≡ n) ⊎ (l ≡ n → ⊥) → sum_by (is_by l) items ≡ one_if_more terms.poll terms.seats a l
      once l lt (inl e) = claims.no_later l (omega arith) ∙ sym (ap (one_if_more terms.poll terms.seats a) e ∙ no_more terms.poll terms.seats a n full)
      once l lt (inr ne) = claims.once l (omega arith)

  pub one_pushed : get_or a n 0 < most_for terms.poll terms.seats n → (x : SeatClaim) → IsClaimOf terms x → x.list ≡ n → (others : List SeatClaim) → IsPermutation (x ∷ items) others → AreClaims terms (n + 1) a others
  one_pushed runs x is list others pushed =
      record {
        each = All-permutation (IsClaimOf terms) (x ∷ items) others pushed (All-cons (IsClaimOf terms) x items is claims.each);
        once = λ l lt. once l lt (cases_eq l n);
        no_later = λ l ge. omega (arith, total l, is_by_other l x (λ e. omega (arith, e, list)), claims.no_later l (omega arith));
      }
    where
      total : (l : ℕ) → sum_by (is_by l) others ≡ is_by l x + sum_by (is_by l) items
      total l = sum_by_pushed (is_by l) x items others pushed

      once : (l : ℕ) → l < n + 1 → (l ≡ n) ⊎ (l ≡ n → ⊥) → sum_by (is_by l) others ≡ one_if_more terms.poll terms.seats a l
      once l lt (inl e) = omega (arith, total l, is_by_same l x (list ∙ sym e), claims.no_later l (omega arith), ap (one_if_more terms.poll terms.seats a) e, more terms.poll terms.seats a n runs)
      once l lt (inr ne) = omega (arith, total l, is_by_other l x (λ e. ne (sym e ∙ list)), claims.once l (omega arith))
