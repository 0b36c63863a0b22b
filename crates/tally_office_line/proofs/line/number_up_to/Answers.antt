use Rattle.std.proofs.Common.{◌≤◌, rules}
use Rattle.tally_office_line.proofs.NumberLemmas.{no_number, number_within_most}
use Rattle.tally_office_line.proofs.line.number_up_to.Goals as goal

pub returns-else-number-most-clause-number : goal.returns-else-number-most-clause-number
returns-else-number-most-clause-number c =
    let few : c.in-Ok.number ≤ c.args.most = search rules in
    number_within_most c.args.most c.args.text.now c.in-Ok.number c.in-Ok.ensures.value.0.0.0 c.in-Ok.ensures.value.0.0.1 c.in-Ok.ensures.value.0.1 few

pub returns-in-Err-clause-number : goal.returns-in-Err-clause-number
returns-in-Err-clause-number c = no_number c.args.most c.args.text.now c.in-Err.ensures.value.0
