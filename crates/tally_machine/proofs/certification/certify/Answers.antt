use Rattle.tally_allot.specs.AllotFault.{IsFaultOf}
use Rattle.tally_allot.specs.declared.fault.AllotFault.{AllotFault}
use Rattle.std.proofs.Common.{◌∙◌, Err, subst, sym}
use Rattle.tally_machine_law.specs.Certification.{seats_by_outcome, count_checks}
use Rattle.tally_machine_law.specs.Outcome.{poll_in, rule_in}
use Rattle.tally_returns.specs.Checks.{first_refusal}
use Rattle.tally_returns.specs.declared.refusal.Refusal.TheVariants.{LotMissing, Store}
use Rattle.tally_machine_law.proofs.CertificationLemmas.{certifies, certifies-missing, reported-by_outcome}
use Rattle.tally_machine.proofs.certification.certify.Goals as goal

pub returns-in-Ok-clause-seats : goal.returns-in-Ok-clause-seats
returns-in-Ok-clause-seats c = certifies c.args.con.now c.args.view.now c.args.edition c.in-Ok.seats.items c.in_ok-check_count.ensures.passed c.in-Ok.ensures.seats

pub returns-in-LotMissing-clause-refused :
    goal.returns-in-LotMissing-clause-refused
returns-in-LotMissing-clause-refused c = λ _.
    let missing = subst (λ (f : AllotFault). IsFaultOf (rule_in c.args.con.now) (poll_in c.args.con.now c.args.view.now) c.args.con.now.seats c.args.view.now.lot f) c.in-LotMissing.is c.in-Err.ensures.fault in
    reported-by_outcome c.args.con.now c.args.view.now seats_by_outcome Store (first_refusal (count_checks c.args.view.now c.args.edition)) (Err (LotMissing c.in-LotMissing.group c.in-LotMissing.seats))
    (certifies-missing c.args.con.now c.args.view.now c.args.edition c.in-LotMissing.group c.in-LotMissing.seats c.in_ok-check_count.ensures.passed
    (missing.0, missing.1, missing.2, sym c.limit-marks.ensures.marks ∙ c.limit-marks.ensures.limit))
