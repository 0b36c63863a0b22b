-- The divisors of the divisor rules: the votes of a list are divided by the first, the second, the
-- third and so on of them.
use Rattle.std.specs.Prelude.{ℕ, ◌-◌, ◌*◌, ◌==◌, if◌then◌else◌}
use Rattle.tally_frac.specs.declared.divisors.DivisorRule.{DivisorRule}
use Rattle.tally_frac.specs.declared.divisors.DivisorRule.TheVariants.{DHondt, SainteLague}
use Rattle.tally_frac.specs.declared.divisors.DivisorRule.TheVariants.{ModifiedSainteLague}

-- D'Hondt: 1, 2, 3 and so on up to the number of seats (LOREG article 163.1 b) and c)); Jefferson's
-- method in Balinski and Young, Fair Representation
abbrev pub dhondt_divisor : ℕ → ℕ
dhondt_divisor k = k

-- Sainte-Laguë: the odd numbers 1, 3, 5 and so on (Balinski and Young, Fair Representation, where
-- it is Webster's method)
abbrev pub sainte_lague_divisor : ℕ → ℕ
sainte_lague_divisor k = 2 * k - 1

-- Modified Sainte-Laguë: 1.4, and then the odd numbers 3, 5, 7 and so on, in fifths (the first
-- divisor of the Scandinavian election laws; Balinski and Young, Fair Representation)
abbrev pub modified_sainte_lague_divisor : ℕ → ℕ
modified_sainte_lague_divisor k = if k == 1 then 7 else 10 * k - 5

-- the k-th divisor of a rule
abbrev pub divisor_of : DivisorRule → ℕ → ℕ
divisor_of DHondt k = dhondt_divisor k
divisor_of SainteLague k = sainte_lague_divisor k
divisor_of ModifiedSainteLague k = modified_sainte_lague_divisor k

-- the unit of a rule's divisors: what each is to be divided by
abbrev pub unit_of : DivisorRule → ℕ
unit_of DHondt = 1
unit_of SainteLague = 1
unit_of ModifiedSainteLague = 5
