-- Why the divisors of each rule are positive, rise, keep their limit and rise slowly. No promise to
-- a caller speaks of it.
use Rattle.std.specs.Prelude.{ℕ, ◌≡◌, ◌<◌, ◌≤◌, ◌+◌, ◌*◌, ◌-◌, ◌⊎◌, if◌then◌else◌}
use Rattle.std.proofs.Common.{arith, ap, inl, inr}
use Rattle.std.proofs.lemmas.Bool.{cases_eq, eq-eqb, ne_eqb}
use Rattle.tally_frac.specs.Divisors.{divisor_of, modified_sainte_lague_divisor, unit_of}
use Rattle.tally_frac.specs.declared.divisors.DivisorRule.{DivisorRule}
use Rattle.tally_frac.specs.declared.divisors.DivisorRule.TheVariants.{DHondt, SainteLague}
use Rattle.tally_frac.specs.declared.divisors.DivisorRule.TheVariants.{ModifiedSainteLague}
use Rattle.tally_frac.specs.Limits.{greatest_divisor, last_divisor}

pub first_is : (k : ℕ) → k ≡ 1 → modified_sainte_lague_divisor k ≡ 7
first_is k e = ap (λ b. if b then 7 else 10 * k - 5) (eq-eqb k 1 e)

pub later_is : (k : ℕ) → (k ≡ 1 → ⊥) → modified_sainte_lague_divisor k ≡ 10 * k - 5
later_is k ne = ap (λ b. if b then 7 else 10 * k - 5) (ne_eqb k 1 ne)

pub modified-positive : (k : ℕ) → 1 ≤ k → 1 ≤ modified_sainte_lague_divisor k
modified-positive k first = by_cases (cases_eq k 1)
  where
    by_cases : (k ≡ 1) ⊎ (k ≡ 1 → ⊥) → 1 ≤ modified_sainte_lague_divisor k
    by_cases (inl e) = omega (arith, first_is k e)
    by_cases (inr ne) = omega (arith, later_is k ne)

pub modified-rises : (j k : ℕ) → 1 ≤ j → j < k →
    modified_sainte_lague_divisor j < modified_sainte_lague_divisor k
modified-rises j k first later = by_cases (cases_eq j 1)
  where
    at_k : modified_sainte_lague_divisor k ≡ 10 * k - 5
    at_k = later_is k (λ e. omega (arith, e, first, later))

    by_cases : (j ≡ 1) ⊎ (j ≡ 1 → ⊥) →
        modified_sainte_lague_divisor j < modified_sainte_lague_divisor k
    by_cases (inl e) = omega (arith, first_is j e, at_k, later)
    by_cases (inr ne) = omega (arith, later_is j ne, at_k, first, later)

pub modified-at_most : (k : ℕ) → 1 ≤ k → k ≤ last_divisor →
    modified_sainte_lague_divisor k ≤ greatest_divisor
modified-at_most k first last = by_cases (cases_eq k 1)
  where
    by_cases : (k ≡ 1) ⊎ (k ≡ 1 → ⊥) → modified_sainte_lague_divisor k ≤ greatest_divisor
    by_cases (inl e) = omega (arith, first_is k e)
    by_cases (inr ne) = omega (arith, later_is k ne, last)

pub modified-rises_slowly : (k : ℕ) → 1 ≤ k →
    modified_sainte_lague_divisor (k + 1) ≤ 3 * modified_sainte_lague_divisor k
modified-rises_slowly k first = by_cases (cases_eq k 1)
  where
    next : modified_sainte_lague_divisor (k + 1) ≡ 10 * (k + 1) - 5
    next = later_is (k + 1) (λ e. omega (arith, first, e))

    by_cases : (k ≡ 1) ⊎ (k ≡ 1 → ⊥) →
        modified_sainte_lague_divisor (k + 1) ≤ 3 * modified_sainte_lague_divisor k
    by_cases (inl e) = omega (arith, next, first_is k e, e)
    by_cases (inr ne) = omega (arith, next, later_is k ne, first)

-- ---- Of each rule

pub divisors-positive : (rule : DivisorRule) (k : ℕ) → 1 ≤ k → 1 ≤ divisor_of rule k
divisors-positive DHondt k first = first
divisors-positive SainteLague k first = omega (arith, first)
divisors-positive ModifiedSainteLague k first = modified-positive k first

pub divisors-rise : (rule : DivisorRule) (j k : ℕ) → 1 ≤ j → j < k →
    divisor_of rule j < divisor_of rule k
divisors-rise DHondt j k first later = later
divisors-rise SainteLague j k first later = omega (arith, first, later)
divisors-rise ModifiedSainteLague j k first later = modified-rises j k first later

pub divisors-at_most : (rule : DivisorRule) (k : ℕ) → 1 ≤ k → k ≤ last_divisor →
    divisor_of rule k ≤ greatest_divisor
divisors-at_most DHondt k first last = omega (arith, last)
divisors-at_most SainteLague k first last = omega (arith, last)
divisors-at_most ModifiedSainteLague k first last = modified-at_most k first last

pub units-from_one : (rule : DivisorRule) → 1 ≤ unit_of rule
units-from_one DHondt = omega arith
units-from_one SainteLague = omega arith
units-from_one ModifiedSainteLague = omega arith

pub units-to_five : (rule : DivisorRule) → unit_of rule ≤ 5
units-to_five DHondt = omega arith
units-to_five SainteLague = omega arith
units-to_five ModifiedSainteLague = omega arith

-- each is at most three times the one before: D'Hondt's twice, Sainte-Laguë's three times and the
-- modified rule's 15/7 times
pub divisors-rise_slowly : (rule : DivisorRule) (k : ℕ) → 1 ≤ k →
    divisor_of rule (k + 1) ≤ 3 * divisor_of rule k
divisors-rise_slowly DHondt k first = omega (arith, first)
divisors-rise_slowly SainteLague k first = omega (arith, first)
divisors-rise_slowly ModifiedSainteLague k first = modified-rises_slowly k first
