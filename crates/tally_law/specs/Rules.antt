-- The rule and the poll that a profile makes.
use Rattle.std.specs.Prelude.{ℕ, List, Option, None, Some}
use Rattle.tally_frac.specs.Divisors.{divisor_of, unit_of}
use Rattle.tally_frac.specs.declared.divisors.DivisorRule.{DivisorRule}
use Rattle.tally_setup.specs.Method.{divisor_rule_of}
use Rattle.tally_setup.specs.Threshold.{eligible_lists}
use Rattle.tally_setup.specs.declared.profile.LotRule.{LotRule}
use Rattle.tally_setup.specs.declared.profile.Method.{Method}
use Rattle.tally_setup.specs.declared.profile.Profile.{Profile}
use Rattle.tally_law.specs.Poll.{Poll}
use Rattle.tally_law.specs.Allotment.{Rule, divisors, hare}

-- the rule by the divisors of a divisor rule, whose lots decide so, and Hare's where there is none
abbrev pub rule_with : Option DivisorRule → LotRule → Rule
rule_with (Some rule) lot_rule = divisors (divisor_of rule) (unit_of rule) lot_rule
rule_with None lot_rule = hare

-- the rule of a method whose lots decide so
abbrev pub rule_by : Method → LotRule → Rule
rule_by method lot_rule = rule_with (divisor_rule_of method) lot_rule

abbrev pub rule_of : Profile → Rule
rule_of profile = rule_by profile.method profile.lot

-- the votes of the lists, and those that reach the profile's threshold
abbrev pub poll_of : Profile → List ℕ → ℕ → Poll
poll_of profile votes blank =
    record { votes = votes; eligible = eligible_lists profile votes blank }
