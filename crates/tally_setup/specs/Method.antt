-- The methods of a profile: their words in a setup, and which of them have divisors.
use Rattle.std.specs.Prelude.{ℕ, List, Option, None, Some, if◌then◌else◌, codes}
use Rattle.std.specs.Str.{bytes_eq}
use Rattle.tally_frac.specs.declared.divisors.DivisorRule.{DivisorRule}
use Rattle.tally_frac.specs.declared.divisors.DivisorRule.TheVariants as rule
use Rattle.tally_setup.specs.declared.profile.Method.{Method}
use Rattle.tally_setup.specs.declared.profile.Method.TheVariants.{DHondt, SainteLague}
use Rattle.tally_setup.specs.declared.profile.Method.TheVariants.{ModifiedSainteLague, Hare}

-- the method of a word
abbrev pub method_named : List ℕ → Option Method
method_named word =
    if bytes_eq word (codes "dhondt") then Some DHondt
    else if bytes_eq word (codes "sainte-lague") then Some SainteLague
    else if bytes_eq word (codes "modified-sainte-lague") then Some ModifiedSainteLague
    else if bytes_eq word (codes "hare") then Some Hare
    else None

-- the divisor rule of a method, and none for Hare's
abbrev pub divisor_rule_of : Method → Option DivisorRule
divisor_rule_of DHondt = Some rule.DHondt
divisor_rule_of SainteLague = Some rule.SainteLague
divisor_rule_of ModifiedSainteLague = Some rule.ModifiedSainteLague
divisor_rule_of Hare = None
