use Rattle.std.proofs.Common.{rules, ◌∙◌, length, sym, ap}
use Rattle.tally_setup.specs.Method.{divisor_rule_of}
use Rattle.tally_report_lines.proofs.AwardLemmas.{each-among}
use Rattle.tally_report_allotment.proofs.found.found_by_divisors.Goals as goal

pub returns-in_err-short-clause-fault : goal.returns-in_err-short-clause-fault
returns-in_err-short-clause-fault c = rw (← c.as_slice-votes.ensures.value, ← c.deref.ensures.value) (search rules)

pub returns-in_err-won-clause-fault : goal.returns-in_err-won-clause-fault
returns-in_err-won-clause-fault c = rw (← c.as_slice-votes.ensures.value, ← c.deref-2.ensures.value) (search rules)

pub returns-clause-won : goal.returns-clause-won
returns-clause-won c =
    let asked = c.args.asked.now in
    each-among (divisor_rule_of asked.profile.method) asked.profile.lot asked.profile c.as_slice-votes.result.now asked.blank c.deref-2.result.now asked.seats c.in_ok-won.won.items (length asked.lists.items)
    c.in_ok-won.ensures.awards (ap length c.as_slice-votes.ensures.value ∙ sym asked.one_each)
