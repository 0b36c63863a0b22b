use Rattle.std.proofs.Common.{rules, ◌≡◌, ◌∙◌, true, is_some, sym, ap}
use Rattle.tally_setup.specs.Constituency.{Constituency}
use Rattle.tally_setup.specs.Method.{divisor_rule_of}
use Rattle.tally_report_result.specs.Parts.{has_divisors, is_decided}
use Rattle.tally_report_result.proofs.PartLemmas.{decided-parts}
use Rattle.tally_report_result.proofs.parts.parts_in.Goals as goal

pub returns-clause-parts : goal.returns-clause-parts
returns-clause-parts c lawful =
    let con = c.args.con.now in
    let view = c.args.view.now in
    let found = c.in_ok-status.field-0 in
    let decided : is_decided found.status ≡ true = search rules in
    let divisors : has_divisors con ≡ true = ap is_some (ap (λ (k : Constituency). divisor_rule_of k.profile.method) (sym c.con.view_is) ∙ sym c.divisor_rule.ensures.rule ∙ c.in-Some.is) in
    decided-parts con view found.status found.seats.items c.in_ok-short.short.items c.in_ok-awards.awards.items lawful decided divisors (c.in_ok-status.ensures.seats lawful) c.in_ok-short.ensures.numbers c.in_ok-awards.ensures.awards
