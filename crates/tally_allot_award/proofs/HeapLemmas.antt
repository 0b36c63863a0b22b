-- A heap of the next pairs: what its greatest one is, and what is next once that has won.
use Rattle.std.proofs.Common.{◌≡◌, ℕ, suc, ◌+◌, ◌<◌, ◌≤◌, ◌≢◌, ◌⊎◌, List, [], ◌∷◌, Bool, true, false, cond, eqb, length, get_or, set, sum, sum_by, All, IsPermutation, refl, sym, ap, ◌∙◌, subst, inl, inr, arith, get_or-set_same, get_or-set_other}
use Rattle.std.proofs.lemmas.Bool.{cases_lt, cases_eq, cases_Bool, false≢true, eqb-true, eq-eqb, ne_eqb}
use Rattle.std.proofs.lemmas.List.Elements.{All-nil, All-cons, All-head, All-tail}
use Rattle.std.proofs.lemmas.List.Sorted.{All-permutation, sum_by_pushed, sum_by_popped}
use Rattle.std.proofs.lemmas.List.Sums.{sum_by-cons, get_or-le-sum_by}
use Rattle.std.specs.BinaryHeap.{IsUpperBound}
use Rattle.std.specs.Ordering.{nat_cmp, ordering_then, is_lt}
use Rattle.std.specs.declared.cmp.Ordering.{Ordering}
use Rattle.std.specs.declared.cmp.Ordering.TheVariants.{Less}
use Rattle.tally_frac.specs.Rank.{RanksAbove}
use Rattle.tally_frac.specs.internal.RankOrder.{rank_cmp, rank_cmp-less}
use Rattle.tally_allot_award.specs.internal.NextPairs.{Keyed, keyed_pair, keyed_cmp, HaveKeys, is_of, one_if_eligible, AreNext}
use Rattle.tally_law.specs.Poll.{Poll, IsEligible}
use Rattle.tally_allot_award.specs.internal.Race.{IsHighestNext}
use Rattle.tally_allot_award.specs.internal.Terms.{Terms, divisor_under, lot_rule_of, pair_on, placed_divisor_race}
use Rattle.tally_allot_award.proofs.DivisorRace.{seats_for-eligible, runs_if_eligible}
use Rattle.tally_allot_award.proofs.Vectors.{get_or-le-sum}

upper_at : (x : Keyed) (xs : List Keyed) → IsUpperBound keyed_cmp x xs → All (λ y. is_lt (keyed_cmp x y) ≡ false) xs
upper_at x [] h = All-nil (λ y. is_lt (keyed_cmp x y) ≡ false)
upper_at x (y ∷ ys) h = All-cons (λ z. is_lt (keyed_cmp x z) ≡ false) y ys h.0 (upper_at x ys h.1)

not_less : (a b c : Ordering) → is_lt (ordering_then (ordering_then a b) c) ≡ false → a ≡ Less → ⊥
not_less a b c h e = false≢true (sym h ∙ ap (λ o. is_lt (ordering_then (ordering_then o b) c)) e)

-- where a tuple is not less than another, its pair does not rank below
not_below : (terms : Terms) → HaveKeys terms → (l k m j : ℕ) → IsEligible terms.poll l → IsEligible terms.poll m → 1 ≤ k → k ≤ 501 → 1 ≤ j → j ≤ 501 → is_lt (keyed_cmp (keyed_pair terms l k) (keyed_pair terms m j)) ≡ false → ¬ RanksAbove (pair_on terms m j) (pair_on terms l k)
not_below terms keys l k m j el em one few one' few' h above =
    not_less (rank_cmp (pair_on terms l k) (pair_on terms m j)) (nat_cmp l m) (nat_cmp k j) h
    ((rank_cmp-less (pair_on terms l k) (pair_on terms m j) (keys l k el one few) (keys m j em one' few')).1 above)

-- where a total is not 0, some element counts
pub found : {X : Type 0} (f : X → ℕ) (xs : List X) → 1 ≤ sum_by f xs → (i : ℕ) × (i < length xs) × ((d : X) → 1 ≤ f (get_or xs i d))
found f [] h = absurd (omega (arith, h))
found {X} f (x ∷ xs) h = by_cases (found f xs) (cases_lt 0 (f x))
  where
    by_cases : (1 ≤ sum_by f xs → (i : ℕ) × (i < length xs) × ((d : X) → 1 ≤ f (get_or xs i d))) → (0 < f x) ⊎ (f x ≤ 0) → (i : ℕ) × (i < length (x ∷ xs)) × ((d : X) → 1 ≤ f (get_or (x ∷ xs) i d))
    by_cases rest (inl lt) = (0, omega arith, λ d. omega arith)
    by_cases rest (inr le) = let r = rest (omega (arith, h, sum_by-cons f x xs)) in (suc r.0, omega (arith, r.1), λ d. r.2 d)

of_list : (l : ℕ) (x : Keyed) → 1 ≤ is_of l x → x.1 ≡ l
of_list l x h = by_test (cases_Bool (eqb x.1 l))
  where
    by_test : (eqb x.1 l ≡ true) ⊎ (eqb x.1 l ≡ false) → x.1 ≡ l
    by_test (inl e) = eqb-true x.1 l e
    by_test (inr e) = let none : is_of l x ≡ 0 = ap (λ b. cond b 1 0) e in absurd (omega (arith, none, h))

is_of_same : (l : ℕ) (x : Keyed) → x.1 ≡ l → is_of l x ≡ 1
is_of_same l x e = ap (λ b. cond b 1 0) (eq-eqb x.1 l e)

is_of_other : (l : ℕ) (x : Keyed) → (x.1 ≡ l → ⊥) → is_of l x ≡ 0
is_of_other l x ne = ap (λ b. cond b 1 0) (ne_eqb x.1 l ne)

marked : (poll : Poll) (l : ℕ) → IsEligible poll l → one_if_eligible poll l ≡ 1
marked poll l e = ap (λ b. cond b 1 0) e

if_marked : (poll : Poll) (l : ℕ) → 1 ≤ one_if_eligible poll l → IsEligible poll l
if_marked poll l h = by_test (get_or poll.eligible l false) h
  where
    by_test : (b : Bool) → 1 ≤ cond b 1 0 → b ≡ true
    by_test true h = refl
    by_test false h = absurd (omega (arith, h))

-- a heap without pairs holds none of an eligible list
pub some_next : (terms : Terms) (n : ℕ) (a : List ℕ) (items : List Keyed) → AreNext terms n a items → length items ≡ 0 → (l : ℕ) → l < n → IsEligible terms.poll l → ⊥
some_next terms n a [] next e l lt el = omega (arith, next.once l lt, marked terms.poll l el)
some_next terms n a (x ∷ xs) next e l lt el = omega (arith, e)

module _ (terms : Terms) (n : ℕ) (a : List ℕ) (items rest : List Keyed) (x : Keyed) (next : AreNext terms n a items) (popped : IsPermutation items (x ∷ rest)) where
  abbrev Next : List ℕ → Keyed → Type 0
  Next a y = y ≡ keyed_pair terms y.1 (get_or a y.1 0 + 1)

  parts : All (Next a) (x ∷ rest)
  parts = All-permutation (Next a) items (x ∷ rest) popped next.each

  popped_is : Next a x
  popped_is = All-head (Next a) x rest parts

  pub popped_seat : x.2 ≡ get_or a x.1 0 + 1
  popped_seat = ap (λ (y : Keyed). y.2) popped_is

  counts : (l : ℕ) → sum_by (is_of l) rest + is_of l x ≡ sum_by (is_of l) items
  counts l = sum_by_popped (is_of l) x items rest popped

  pub popped_listed : x.1 < n
  popped_listed = by_cases (cases_lt x.1 n)
    where
      by_cases : (x.1 < n) ⊎ (n ≤ x.1) → x.1 < n
      by_cases (inl lt) = lt
      by_cases (inr ge) = absurd (omega (arith, counts x.1, next.no_later x.1 ge, is_of_same x.1 x refl))

  pub popped_eligible : IsEligible terms.poll x.1
  popped_eligible = if_marked terms.poll x.1 (omega (arith, counts x.1, next.once x.1 popped_listed, is_of_same x.1 x refl))

  none_left : sum_by (is_of x.1) rest ≡ 0
  none_left = omega (arith, counts x.1, next.once x.1 popped_listed, is_of_same x.1 x refl, marked terms.poll x.1 popped_eligible)

  pub popped_few : (seats : ℕ) → sum a < seats → seats ≤ 500 → x.2 + 1 ≤ 501
  popped_few seats room few = omega (arith, popped_seat, get_or-le-sum a x.1)

  -- what no tuple is greater than is the highest of the next pairs
  pub popped_highest : (seats : ℕ) → HaveKeys terms → ((l : ℕ) → IsEligible terms.poll l → l < n) → sum a < seats → seats ≤ 500 → IsUpperBound keyed_cmp x items → IsHighestNext (placed_divisor_race (divisor_under terms.rule) (lot_rule_of terms.rule) terms.poll terms.lot seats) a x.1
  popped_highest seats keys listed room few bound = record { runs = omega (arith, seats_for-eligible terms.poll seats x.1 popped_eligible, get_or-le-sum a x.1, room); highest = highest }
    where
      highest : (m : ℕ) → get_or a m 0 < (placed_divisor_race (divisor_under terms.rule) (lot_rule_of terms.rule) terms.poll terms.lot seats).cap m → ¬ RanksAbove (pair_on terms m (get_or a m 0 + 1)) (pair_on terms x.1 (get_or a x.1 0 + 1))
      highest m runs =
          let em : IsEligible terms.poll m = runs_if_eligible terms.poll seats m (get_or a m 0) runs in
          let f = found (is_of m) items (omega (arith, next.once m (listed m em), marked terms.poll m em)) in
          let y = get_or items f.0 x in
          let list : y.1 ≡ m = of_list m y (f.2 x) in
          let is : y ≡ keyed_pair terms m (get_or a m 0 + 1) = next.each f.0 x f.1 ∙ ap (λ l. keyed_pair terms l (get_or a l 0 + 1)) list in
          let P : Keyed → Type 0 = λ z. is_lt (keyed_cmp z y) ≡ false in
          let Q : Keyed → Type 0 = λ z. is_lt (keyed_cmp (keyed_pair terms x.1 (get_or a x.1 0 + 1)) z) ≡ false in
          not_below terms keys x.1 (get_or a x.1 0 + 1) m (get_or a m 0 + 1) popped_eligible em (omega arith) (omega (arith, get_or-le-sum a x.1, room)) (omega arith) (omega (arith, get_or-le-sum a m, room)) (subst Q is (subst P popped_is (upper_at x items bound f.0 x f.1)))

  -- one seat more for its list, whose next pair takes its place
  pub pushed_next : (more : List Keyed) → x.1 < length a → IsPermutation (keyed_pair terms x.1 (x.2 + 1) ∷ rest) more → AreNext terms n (set a x.1 x.2) more
  pushed_next more inside pushed = record { each = All-permutation (Next b) (new ∷ rest) more pushed (All-cons (Next b) new rest new_is rest_are); once = λ l lt. omega (arith, total l, counts l, next.once l lt); no_later = λ l ge. omega (arith, total l, counts l, next.no_later l ge) }
    where
      b : List ℕ
      b = set a x.1 x.2

      new : Keyed
      new = keyed_pair terms x.1 (x.2 + 1)

      total : (l : ℕ) → sum_by (is_of l) more ≡ is_of l x + sum_by (is_of l) rest
      total l = sum_by_pushed (is_of l) new rest more pushed

      new_is : Next b new
      new_is = ap (λ k. keyed_pair terms x.1 (k + 1)) (sym (get_or-set_same a x.1 x.2 0 inside))

      rest_are : All (Next b) rest
      rest_are k d lt =
          let y = get_or rest k d in
          let ne : y.1 ≢ x.1 = λ e. omega (arith, get_or-le-sum_by (is_of x.1) rest k d lt, none_left, is_of_same x.1 y e) in
          All-tail (Next a) x rest parts k d lt ∙ ap (λ s. keyed_pair terms y.1 (s + 1)) (sym (get_or-set_other a x.1 y.1 x.2 0 ne))

module _ (terms : Terms) (n : ℕ) (a : List ℕ) (items : List Keyed) (next : AreNext terms n a items) where
  abbrev IsNext : Keyed → Type 0
  IsNext y = y ≡ keyed_pair terms y.1 (get_or a y.1 0 + 1)

  pub one_passed : get_or terms.poll.eligible n false ≡ false → AreNext terms (n + 1) a items
  one_passed not = record { each = next.each; once = once; no_later = λ l ge. next.no_later l (omega arith) }
    where
      once : (l : ℕ) → l < n + 1 → sum_by (is_of l) items ≡ one_if_eligible terms.poll l
      once l lt = by_cases (cases_eq l n)
        where
          by_cases : (l ≡ n) ⊎ (l ≡ n → ⊥) → sum_by (is_of l) items ≡ one_if_eligible terms.poll l
          by_cases (inl e) = next.no_later l (omega arith) ∙ sym (ap (λ i. one_if_eligible terms.poll i) e ∙ ap (λ b. cond b 1 0) not)
          by_cases (inr ne) = next.once l (omega arith)

  pub one_pushed : IsEligible terms.poll n → get_or a n 0 ≡ 0 → (more : List Keyed) → IsPermutation (keyed_pair terms n 1 ∷ items) more → AreNext terms (n + 1) a more
  one_pushed e none more pushed = record { each = All-permutation IsNext (new ∷ items) more pushed (All-cons IsNext new items new_is next.each); once = once; no_later = λ l ge. omega (arith, total l, is_of_other l new (λ q. omega arith), next.no_later l (omega arith)) }
    where
      new : Keyed
      new = keyed_pair terms n 1

      total : (l : ℕ) → sum_by (is_of l) more ≡ is_of l new + sum_by (is_of l) items
      total l = sum_by_pushed (is_of l) new items more pushed

      new_is : IsNext new
      new_is = ap (λ k. keyed_pair terms n (k + 1)) (sym none)

      once : (l : ℕ) → l < n + 1 → sum_by (is_of l) more ≡ one_if_eligible terms.poll l
      once l lt = by_cases (cases_eq l n)
        where
          by_cases : (l ≡ n) ⊎ (l ≡ n → ⊥) → sum_by (is_of l) more ≡ one_if_eligible terms.poll l
          by_cases (inl q) = omega (arith, total l, is_of_same l new (sym q), next.no_later l (omega arith), ap (λ i. one_if_eligible terms.poll i) q, marked terms.poll n e)
          by_cases (inr ne) = omega (arith, total l, is_of_other l new (λ q. ne (sym q)), next.once l (omega arith))
