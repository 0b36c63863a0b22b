-- The words that a setup has for a rule.
use Rattle.std.specs.Prelude.{ℕ, List, codes}
use Rattle.tally_setup.specs.declared.profile.Base.{Base}
use Rattle.tally_setup.specs.declared.profile.Base.TheVariants as base
use Rattle.tally_setup.specs.declared.profile.LotRule.{LotRule}
use Rattle.tally_setup.specs.declared.profile.LotRule.TheVariants as lots
use Rattle.tally_setup.specs.declared.profile.Method.{Method}
use Rattle.tally_setup.specs.declared.profile.Method.TheVariants as method

abbrev pub method_word : Method → List ℕ
method_word method.DHondt = codes "dhondt"
method_word method.SainteLague = codes "sainte-lague"
method_word method.ModifiedSainteLague = codes "modified-sainte-lague"
method_word method.Hare = codes "hare"

abbrev pub base_word : Base → List ℕ
base_word base.Valid = codes "valid"
base_word base.Lists = codes "lists"

abbrev pub lot_rule_word : LotRule → List ℕ
lot_rule_word lots.Fixed = codes "fixed"
lot_rule_word lots.Alternating = codes "alternating"
