use Rattle.std.proofs.Common.{◌≡◌, ◌≤◌, ◌∙◌, true, Option, Some, ap, sym, arith}
use Rattle.tally_frac.specs.declared.divisors.DivisorRule.{DivisorRule}
use Rattle.tally_returns.specs.View.{View}
use Rattle.tally_setup.specs.Constituency.{Constituency}
use Rattle.tally_setup.specs.Method.{divisor_rule_of}
use Rattle.tally_law.specs.Rules.{rule_with}
use Rattle.tally_report.specs.QuotientsText.{quotients_of}
use Rattle.tally_report.proofs.QuotientLemmas.{IfOk-then, most-lawful}
use Rattle.tally_report.proofs.quotients.quotients_text.Goals as goal

pub returns-in-Some-clause-text : goal.returns-in-Some-clause-text
returns-in-Some-clause-text c =
    let con = c.args.con.now in
    let view = c.args.view.now in
    let few : con.seats ≤ 500 = omega (arith, c.con.invariant.seats, ap (λ (k : Constituency). k.seats) c.con.view_is) in
    let certified : view.certified ≡ true = sym (ap (λ (v : View). v.certified) c.view.view_is) ∙ c.if-not-view.false in
    let found : divisor_rule_of con.profile.method ≡ Some c.in-Some.rule = ap (λ (k : Constituency). divisor_rule_of k.profile.method) (sym c.con.view_is) ∙ sym c.divisor_rule.ensures.rule ∙ c.in-Some.is in
    IfOk-then c.text_by.result c.text_by.ensures.text
    (λ text is lawful. is (most-lawful con view few certified lawful) ∙ ap (λ (r : Option DivisorRule). quotients_of (rule_with r con.profile.lot) con view) (sym found))
