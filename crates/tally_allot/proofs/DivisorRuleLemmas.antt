-- The rule of a method, where its divisor rule is known.
use Rattle.std.proofs.Common.{◌≡◌, Option, None, Some, sym, ap, ◌∙◌}
use Rattle.tally_frac.specs.declared.divisors.DivisorRule.{DivisorRule}
use Rattle.tally_frac.specs.internal.DivisorLaws.{divisors-positive, divisors-rise, units-from_one}
use Rattle.tally_setup.specs.Method.{divisor_rule_of}
use Rattle.tally_setup.specs.declared.profile.LotRule.{LotRule}
use Rattle.tally_setup.specs.declared.profile.Method.{Method}
use Rattle.tally_law.specs.Rules.{rule_by, rule_with}
use Rattle.tally_allot_award.specs.internal.Terms.{IsRule}

-- the rule of what was found is the rule of the method
pub named : (method : Method) (lot_rule : LotRule) {found found' : Option DivisorRule} → found ≡ found' → found ≡ divisor_rule_of method →
    rule_with found' lot_rule ≡ rule_by method lot_rule
named method lot_rule e h = ap (λ (r : Option DivisorRule). rule_with r lot_rule) (sym e ∙ h)

-- the divisors of a rule are positive and rise
pub rule_with-is : (found : Option DivisorRule) (lot_rule : LotRule) → IsRule (rule_with found lot_rule)
rule_with-is (Some rule) lot_rule = (record { positive = divisors-positive rule; rises = divisors-rise rule }, units-from_one rule)
rule_with-is None lot_rule = tt

pub rule_by-is : (method : Method) (lot_rule : LotRule) → IsRule (rule_by method lot_rule)
rule_by-is method lot_rule = rule_with-is (divisor_rule_of method) lot_rule
