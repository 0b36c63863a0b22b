-- What follows from the ranks' being the answers of total orders.
use Rattle.std.proofs.Common.{◌≡◌, ◌≤◌, ◌∙◌, sym, ap, ◌⊎◌, inl, inr, false, refl}
use Rattle.std.specs.declared.cmp.Ordering.{Ordering}
use Rattle.std.specs.declared.cmp.Ordering.TheVariants.{Less, Equal, Greater}
use Rattle.std.specs.Ordering.{ordering_reverse, is_lt}
use Rattle.std.specs.Cmp.{IsTotalOrder, alike_right}
use Rattle.tally_frac.specs.Rank.{Pair, RanksAboveByVotes, TiesByVotes, RanksAbove, IsWithinLimits}
use Rattle.tally_frac.specs.internal.RankOrder.{weak_cmp-total, weak_cmp-greater, weak_cmp-equal, strict_cmp-total, strict_cmp-greater, rank_cmp, rank_cmp-equal, rank_cmp-greater}

greater-chain : {K : Type 0} {R : K → K → Ordering} → IsTotalOrder R → (x y z : K) → R x y ≡ Greater → R y z ≡ Greater → R x z ≡ Greater
greater-chain {K} {R} o x y z h k =
    let first : R y x ≡ Less = o.antisymm y x ∙ ap ordering_reverse h in
    let second : R z y ≡ Less = o.antisymm z y ∙ ap ordering_reverse k in
    o.antisymm x z ∙ ap ordering_reverse (o.trans z y x second first)

-- what a total order decides, and what of it chains
module _ {K : Type 0} {R : K → K → Ordering} (o : IsTotalOrder R) where
  is_greater_or_not : (x y : K) → (R x y ≡ Greater) ⊎ ¬ (R x y ≡ Greater)
  is_greater_or_not x y = by_answer (R x y)
    where
      by_answer : (answer : Ordering) → (answer ≡ Greater) ⊎ ¬ (answer ≡ Greater)
      by_answer Less = inr (λ e. cc)
      by_answer Equal = inr (λ e. cc)
      by_answer Greater = inl refl

  greater_one_way : (x y : K) → R x y ≡ Greater → ¬ (R y x ≡ Greater)
  greater_one_way x y h k =
      let back : R y x ≡ Less = o.antisymm y x ∙ ap ordering_reverse h in
      let both : Less ≡ Greater = sym back ∙ k in
      cc

  equal_if_neither : (x y : K) → ¬ (R x y ≡ Greater) → ¬ (R y x ≡ Greater) → R x y ≡ Equal
  equal_if_neither x y h k = by_answer (R x y) refl
    where
      by_answer : (answer : Ordering) → R x y ≡ answer → R x y ≡ Equal
      by_answer Less e = absurd (k (o.antisymm y x ∙ ap ordering_reverse e))
      by_answer Equal e = e
      by_answer Greater e = absurd (h e)

  not_greater-chain : (x y z : K) → ¬ (R y x ≡ Greater) → ¬ (R z y ≡ Greater) → ¬ (R z x ≡ Greater)
  not_greater-chain x y z h k above = by_answer (R y x) refl
    where
      by_answer : (answer : Ordering) → R y x ≡ answer → ⊥
      by_answer Less e = k (greater-chain o z x y above (o.antisymm x y ∙ ap ordering_reverse e))
      by_answer Equal e = k (alike_right o y x z e ∙ above)
      by_answer Greater e = h e

module _ (p q r : Pair) (at_p : 1 ≤ p.divisor) (at_q : 1 ≤ q.divisor) (at_r : 1 ≤ r.divisor) where
  pub weak-chain : RanksAboveByVotes p q → RanksAboveByVotes q r → RanksAboveByVotes p r
  weak-chain h k = (weak_cmp-greater p r at_p at_r).0 (greater-chain weak_cmp-total p q r ((weak_cmp-greater p q at_p at_q).1 h) ((weak_cmp-greater q r at_q at_r).1 k))

  pub tied-above : TiesByVotes p q → RanksAboveByVotes q r → RanksAboveByVotes p r
  tied-above h k = (weak_cmp-greater p r at_p at_r).0 (weak_cmp-total.congr p q r ((weak_cmp-equal p q at_p at_q).1 h) ∙ (weak_cmp-greater q r at_q at_r).1 k)

  pub tied-below : RanksAboveByVotes p q → TiesByVotes q r → RanksAboveByVotes p r
  tied-below h k = (weak_cmp-greater p r at_p at_r).0 (sym (alike_right weak_cmp-total q r p ((weak_cmp-equal q r at_q at_r).1 k)) ∙ (weak_cmp-greater p q at_p at_q).1 h)

  pub strict-chain : RanksAbove p q → RanksAbove q r → RanksAbove p r
  strict-chain h k = (strict_cmp-greater p r at_p at_r).0 (greater-chain strict_cmp-total p q r ((strict_cmp-greater p q at_p at_q).1 h) ((strict_cmp-greater q r at_q at_r).1 k))

-- one of two pairs above the other or not, and what is not below
module _ (p q : Pair) (at_p : 1 ≤ p.divisor) (at_q : 1 ≤ q.divisor) where
  pub weak-decided : RanksAboveByVotes p q ⊎ ¬ RanksAboveByVotes p q
  weak-decided =
      elim (is_greater_or_not weak_cmp-total p q) [
        | inl h ↦ inl ((weak_cmp-greater p q at_p at_q).0 h)
        | inr h ↦ inr (λ above. h ((weak_cmp-greater p q at_p at_q).1 above))
      ]

  pub weak-one_way : RanksAboveByVotes p q → ¬ RanksAboveByVotes q p
  weak-one_way h k = greater_one_way weak_cmp-total p q ((weak_cmp-greater p q at_p at_q).1 h) ((weak_cmp-greater q p at_q at_p).1 k)

  pub ties_if_neither : ¬ RanksAboveByVotes p q → ¬ RanksAboveByVotes q p → TiesByVotes p q
  ties_if_neither h k = (weak_cmp-equal p q at_p at_q).0 (equal_if_neither weak_cmp-total p q (λ e. h ((weak_cmp-greater p q at_p at_q).0 e)) (λ e. k ((weak_cmp-greater q p at_q at_p).0 e)))

  pub strict-decided : RanksAbove p q ⊎ ¬ RanksAbove p q
  strict-decided =
      elim (is_greater_or_not strict_cmp-total p q) [
        | inl h ↦ inl ((strict_cmp-greater p q at_p at_q).0 h)
        | inr h ↦ inr (λ above. h ((strict_cmp-greater p q at_p at_q).1 above))
      ]

  pub strict-one_way : RanksAbove p q → ¬ RanksAbove q p
  strict-one_way h k = greater_one_way strict_cmp-total p q ((strict_cmp-greater p q at_p at_q).1 h) ((strict_cmp-greater q p at_q at_p).1 k)

module _ (p q r : Pair) (at_p : 1 ≤ p.divisor) (at_q : 1 ≤ q.divisor) (at_r : 1 ≤ r.divisor) where
  pub weak-not_below : ¬ RanksAboveByVotes q p → ¬ RanksAboveByVotes r q → ¬ RanksAboveByVotes r p
  weak-not_below h k above =
      not_greater-chain weak_cmp-total p q r (λ e. h ((weak_cmp-greater q p at_q at_p).0 e)) (λ e. k ((weak_cmp-greater r q at_r at_q).0 e)) ((weak_cmp-greater r p at_r at_p).1 above)

  pub strict-not_below : ¬ RanksAbove q p → ¬ RanksAbove r q → ¬ RanksAbove r p
  strict-not_below h k above =
      not_greater-chain strict_cmp-total p q r (λ e. h ((strict_cmp-greater q p at_q at_p).0 e)) (λ e. k ((strict_cmp-greater r q at_r at_q).0 e)) ((strict_cmp-greater r p at_r at_p).1 above)

-- A key that a comparison does not find less ranks above the other, or is the
-- same. `whole` is what the comparison makes of the keys' answer: the answer
-- itself, or what a comparison of tuples that begin with keys goes on with
not_less-at : (p q : Pair) → IsWithinLimits p → IsWithinLimits q → (whole : Ordering → Ordering) → whole Less ≡ Less → (answer : Ordering) → rank_cmp p q ≡ answer → is_lt (whole answer) ≡ false → RanksAbove p q ⊎ (p ≡ q)
not_less-at p q at_p at_q whole first Less e h = cc
not_less-at p q at_p at_q whole first Equal e h = inr (rank_cmp-equal p q e)
not_less-at p q at_p at_q whole first Greater e h = inl ((rank_cmp-greater p q at_p at_q).0 e)

pub not_less : (p q : Pair) → IsWithinLimits p → IsWithinLimits q → (whole : Ordering → Ordering) → whole Less ≡ Less → is_lt (whole (rank_cmp p q)) ≡ false → RanksAbove p q ⊎ (p ≡ q)
not_less p q at_p at_q whole first h = not_less-at p q at_p at_q whole first (rank_cmp p q) refl h
