use Rattle.std.proofs.Common.{rules}
use Rattle.tally_report.proofs.AwardLemmas.{certified-outcome}
use Rattle.tally_report.proofs.awards.awards_text.Goals as goal

pub returns-clause-text : goal.returns-clause-text
returns-clause-text c = λ lawful.
    let view = c.args.view.now in
    (c.in_ok-awards.awards.items, c.in_ok-awards.ensures.awards view.seats (certified-outcome c.args.con.now view lawful (search rules)), search rules)
