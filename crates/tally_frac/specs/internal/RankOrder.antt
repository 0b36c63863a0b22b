-- The strict rank as an answer of a comparison, and why it is a total order.
use Rattle.std.specs.Prelude.{◌≡◌, ◌*◌, ◌<◌, ◌≤◌, ◌⊎◌, ◌↔◌, Bool, true, ◌==◌, ◌&&◌, max, refl}
use Rattle.std.specs.Prelude.{nat_eq}
use Rattle.std.specs.declared.cmp.Ordering.{Ordering}
use Rattle.std.specs.declared.cmp.Ordering.TheVariants.{Less, Equal, Greater}
use Rattle.std.specs.Ordering.{nat_cmp, on, flip_args, then_cmp, ordering_then, ordering_reverse}
use Rattle.std.specs.Ordering.{eq_of_both, eq_by_cmp, is_eq}
use Rattle.std.specs.Cmp.{IsTotalOrder, IsEquivalence, nat_cmp_total, nat_eq_equiv, then_total}
use Rattle.std.specs.Cmp.{on_total, back_total, and_equiv, on_equiv, first_so, second_so, both_ways}
use Rattle.std.specs.Cmp.{tied_itself, Equal-is}
use Rattle.std.proofs.Common.{arith, sym, ◌∙◌, ap, subst, inl, inr, eqb-true}
use Rattle.std.proofs.Math.Nat.{le_of_mul-le-mul_left}
use Rattle.tally_frac.specs.Fraction.{Fraction}
use Rattle.tally_frac.specs.internal.FractionOrder.{fraction_cmp, fractions_total, equal_means}
use Rattle.tally_frac.specs.internal.FractionOrder.{greater_means, is_equal, is_greater}
use Rattle.tally_frac.specs.Rank.{Pair, quotient, RanksAboveByVotes, TiesByVotes, RanksAbove}
use Rattle.tally_frac.specs.Rank.{IsWithinLimits}

-- A divisor of 0, which no key has, is read as 1: so the order is total on all pairs.
abbrev pub read_quotient : Pair → Fraction
read_quotient p = record { num = p.votes; den = max 1 p.divisor }

-- by the weak rank: Greater where `RanksAboveByVotes p q`, Equal where `TiesByVotes p q`
abbrev pub weak_cmp : Pair → Pair → Ordering
weak_cmp = then_cmp (on read_quotient fraction_cmp) (on (λ p. p.votes) nat_cmp)

-- by the strict rank: Greater where `RanksAbove p q`
abbrev pub strict_cmp : Pair → Pair → Ordering
strict_cmp = then_cmp weak_cmp (flip_args (on (λ p. p.place) nat_cmp))

-- The order of keys is the strict rank. The divisor settles what that leaves open between pairs
-- without votes, so that only equal pairs compare as equal.
abbrev pub rank_cmp : Pair → Pair → Ordering
rank_cmp = then_cmp strict_cmp (on (λ p. p.divisor) nat_cmp)

read_quotient-positive : (p : Pair) → 1 ≤ (read_quotient p).den
read_quotient-positive p = omega arith

pub weak_cmp-total : IsTotalOrder weak_cmp
weak_cmp-total = then_total (fractions_total read_quotient read_quotient-positive)
    (on_total (λ p. p.votes) nat_cmp_total)

pub strict_cmp-total : IsTotalOrder strict_cmp
strict_cmp-total = then_total weak_cmp-total (back_total (on_total (λ p. p.place) nat_cmp_total))

pub rank_cmp-total : IsTotalOrder rank_cmp
rank_cmp-total = then_total strict_cmp-total (on_total (λ p. p.divisor) nat_cmp_total)

-- every part alike
abbrev pub same_pair : Pair → Pair → Bool
same_pair = eq_of_both (on (λ p. p.votes) nat_eq)
    (eq_of_both (on (λ p. p.divisor) nat_eq) (on (λ p. p.place) nat_eq))

pub same_pair-equiv : IsEquivalence same_pair
same_pair-equiv = and_equiv (on_equiv (λ p. p.votes) nat_eq_equiv)
    (and_equiv (on_equiv (λ p. p.divisor) nat_eq_equiv) (on_equiv (λ p. p.place) nat_eq_equiv))

pub same_pair-means : (p q : Pair) → same_pair p q ≡ true → p ≡ q
same_pair-means p q e =
    let votes : p.votes ≡ q.votes = eqb-true _ _ (first_so _ _ e) in
    let rest =
    second_so (p.votes == q.votes) ((p.divisor == q.divisor) && (p.place == q.place)) e in
    let divisor : p.divisor ≡ q.divisor = eqb-true _ _ (first_so _ _ rest) in
    let place : p.place ≡ q.place = eqb-true _ _ (second_so (p.divisor == q.divisor) _ rest) in
    λ i. record { votes = votes i; divisor = divisor i; place = place i }

then-equal : (a b : Ordering) → ordering_then a b ≡ Equal → (a ≡ Equal) × (b ≡ Equal)
then-equal Less b e = (e, cc)
then-equal Equal b e = (refl, e)
then-equal Greater b e = (e, cc)

pub rank_cmp-equal : (p q : Pair) → rank_cmp p q ≡ Equal → p ≡ q
rank_cmp-equal p q e =
    let at_divisor = then-equal (strict_cmp p q) _ e in
    let at_place = then-equal (weak_cmp p q) _ at_divisor.0 in
    let at_votes = then-equal (fraction_cmp (read_quotient p) (read_quotient q)) _ at_place.0 in
    let votes : p.votes ≡ q.votes = equal_means _ _ at_votes.1 in
    let place : p.place ≡ q.place = sym (equal_means q.place p.place at_place.1) in
    let divisor : p.divisor ≡ q.divisor = equal_means _ _ at_divisor.1 in
    λ i. record { votes = votes i; divisor = divisor i; place = place i }

pub same_pair-ties : (p q : Pair) → same_pair p q ≡ eq_by_cmp rank_cmp p q
same_pair-ties p q =
    both_ways (same_pair p q) (eq_by_cmp rank_cmp p q)
    (λ e. subst (λ r. eq_by_cmp rank_cmp p r ≡ true) (same_pair-means p q e)
    (ap is_eq (tied_itself rank_cmp-total p)))
    (λ e. subst (λ r. same_pair p r ≡ true) (rank_cmp-equal p q ((Equal-is (rank_cmp p q)).0 e))
    (same_pair-equiv.refl p))

-- ---- The answers and the ranks

then-greater : (a b : Ordering) → ordering_then a b ≡ Greater → (a ≡ Greater) ⊎
    ((a ≡ Equal) × (b ≡ Greater))
then-greater Less b e = cc
then-greater Equal b e = inr (refl, e)
then-greater Greater b e = inl refl

is_then-greater : (a b : Ordering) → (a ≡ Greater) ⊎ ((a ≡ Equal) × (b ≡ Greater)) →
    ordering_then a b ≡ Greater
is_then-greater a b (inl h) = ap (λ r. ordering_then r b) h
is_then-greater a b (inr h) = ap (λ r. ordering_then r b) h.0 ∙ h.1

is_then-equal : (a b : Ordering) → a ≡ Equal → b ≡ Equal → ordering_then a b ≡ Equal
is_then-equal a b h k = ap (λ r. ordering_then r b) h ∙ k

read_quotient-same : (p : Pair) → 1 ≤ p.divisor → read_quotient p ≡ quotient p
read_quotient-same p h =
    let same : max 1 p.divisor ≡ p.divisor = omega arith in
    λ i. record { num = p.votes; den = same i }

-- two pairs that tie by votes, and have some, have one divisor
pub tie-divisor : (p q : Pair) → 1 ≤ p.votes → TiesByVotes p q → p.divisor ≡ q.divisor
tie-divisor p q some h =
    let same : p.votes ≡ q.votes = h.1 in
    let cross : p.votes * q.divisor ≡ q.votes * p.divisor = h.0 in
    let level : p.votes * q.divisor ≡ p.votes * p.divisor =
    cross ∙ ap (λ n. n * p.divisor) (sym same) in
    let below : p.divisor ≤ q.divisor = le_of_mul-le-mul_left {k = p.votes} (omega arith) some in
    let above : q.divisor ≤ p.divisor = le_of_mul-le-mul_left {k = p.votes} (omega arith) some in
    omega arith

module _ (p q : Pair) (first : 1 ≤ p.divisor) (second : 1 ≤ q.divisor) where
  read_alike : fraction_cmp (read_quotient p) (read_quotient q)
      ≡ fraction_cmp (quotient p) (quotient q)
  read_alike i = fraction_cmp (read_quotient-same p first i) (read_quotient-same q second i)

  weak_forth : (weak_cmp p q ≡ Greater) → RanksAboveByVotes p q
  weak_forth e =
      elim (then-greater (fraction_cmp (read_quotient p) (read_quotient q))
      (nat_cmp p.votes q.votes) e) [
        | inl h ↦ inl (greater_means _ _ (sym read_alike ∙ h))
        | inr h ↦ inr (equal_means _ _ (sym read_alike ∙ h.0), greater_means _ _ h.1)
      ]

  weak_back : RanksAboveByVotes p q → (weak_cmp p q ≡ Greater)
  weak_back (inl h) = is_then-greater _ _ (inl (read_alike ∙ is_greater _ _ h))
  weak_back (inr h) = is_then-greater _ _ (inr (read_alike ∙ is_equal _ _ h.0, is_greater _ _ h.1))

  pub weak_cmp-greater : (weak_cmp p q ≡ Greater) ↔ RanksAboveByVotes p q
  weak_cmp-greater = (weak_forth, weak_back)

  ties_forth : (weak_cmp p q ≡ Equal) → TiesByVotes p q
  ties_forth e =
      let parts = then-equal (fraction_cmp (read_quotient p) (read_quotient q))
      (nat_cmp p.votes q.votes) e in
      (equal_means _ _ (sym read_alike ∙ parts.0), equal_means _ _ parts.1)

  ties_back : TiesByVotes p q → (weak_cmp p q ≡ Equal)
  ties_back h = is_then-equal _ _ (read_alike ∙ is_equal _ _ h.0) (is_equal _ _ h.1)

  pub weak_cmp-equal : (weak_cmp p q ≡ Equal) ↔ TiesByVotes p q
  weak_cmp-equal = (ties_forth, ties_back)

  strict_forth : (strict_cmp p q ≡ Greater) → RanksAbove p q
  strict_forth e =
      elim (then-greater (weak_cmp p q) (nat_cmp q.place p.place) e) [
        | inl h ↦ inl (weak_forth h)
        | inr h ↦ inr (ties_forth h.0, greater_means _ _ h.1)
      ]

  strict_back : RanksAbove p q → (strict_cmp p q ≡ Greater)
  strict_back (inl h) = is_then-greater _ _ (inl (weak_back h))
  strict_back (inr h) = is_then-greater _ _ (inr (ties_back h.0, is_greater _ _ h.1))

  pub strict_cmp-greater : (strict_cmp p q ≡ Greater) ↔ RanksAbove p q
  strict_cmp-greater = (strict_forth, strict_back)

  rank_forth : 1 ≤ p.votes → (rank_cmp p q ≡ Greater) → RanksAbove p q
  rank_forth some e =
      elim (then-greater (strict_cmp p q) (nat_cmp p.divisor q.divisor) e) [
        | inl h ↦ strict_forth h
        | inr h ↦
            let ties : TiesByVotes p q = ties_forth (then-equal (weak_cmp p q) _ h.0).0 in
            let same : p.divisor ≡ q.divisor = tie-divisor p q some ties in
            let more : q.divisor < p.divisor = greater_means _ _ h.1 in
            absurd (omega arith)
      ]

  pub rank_cmp-above : 1 ≤ p.votes → (rank_cmp p q ≡ Greater) ↔ RanksAbove p q
  rank_cmp-above some = (rank_forth some, λ h. is_then-greater _ _ (inl (strict_back h)))

-- ---- Keys

greater_if_less : (a b : Ordering) → a ≡ ordering_reverse b → a ≡ Less → b ≡ Greater
greater_if_less a Less e h = cc
greater_if_less a Equal e h = cc
greater_if_less a Greater e h = refl

module _ (p q : Pair) (at_p : IsWithinLimits p) (at_q : IsWithinLimits q) where
  -- a key is greater where its pair ranks above
  pub rank_cmp-greater : (rank_cmp p q ≡ Greater) ↔ RanksAbove p q
  rank_cmp-greater = rank_cmp-above p q at_p.some_divisor at_q.some_divisor at_p.some_votes

  pub rank_cmp-less : (rank_cmp p q ≡ Less) ↔ RanksAbove q p
  rank_cmp-less =
      let other_way : (rank_cmp q p ≡ Greater) ↔ RanksAbove q p =
      rank_cmp-above q p at_q.some_divisor at_p.some_divisor at_q.some_votes in (
        λ e. other_way.0 (greater_if_less _ _ (rank_cmp-total.antisymm p q) e),
        λ h. rank_cmp-total.antisymm p q ∙ ap ordering_reverse (other_way.1 h),
      )
