use Rattle.std.proofs.Common.{◌≡◌, ◌∙◌, Some, sym, String, Global}
use Rattle.tally_report.specs.Reports.{report_fault}
use Rattle.tally_office_commands.proofs.ShowLemmas.{fault-other, given-none, withheld}
use Rattle.tally_office_commands.proofs.show.text_of.Goals as goal

pub report_text-requires : goal.report_text-requires
report_text-requires c = c.requires c.in-Some.con.now (sym c.in-Some.ensures.found)

pub returns-in-Ok-clause-text : goal.returns-in-Ok-clause-text
returns-in-Ok-clause-text c con found enough =
    let both : Some c.in-Some.con.now ≡ Some con = c.in-Some.ensures.found ∙ found in
    let same : con ≡ c.in-Some.con.now = cc in
    let at = rw same at enough in
    rw same (given-none (report_fault c.in-Some.con.now c.args.view.now c.args.which) c.in-Ok.text c.in-Ok.ensures.fault, c.in-Ok.ensures.text at)

pub returns-in-Err-clause-trouble : goal.returns-in-Err-clause-trouble
returns-in-Err-clause-trouble c con found =
    let both : Some c.in-Some.con.now ≡ Some con = c.in-Some.ensures.found ∙ found in
    let same : con ≡ c.in-Some.con.now = cc in
    rw same (rw c.trouble_of_report.ensures.trouble (withheld (String Global) (report_fault c.in-Some.con.now c.args.view.now c.args.which) c.in-Err.fault c.in-Err.ensures.fault))

pub returns-in-Err-clause-other : goal.returns-in-Err-clause-other
returns-in-Err-clause-other c = fault-other c.in-Err.fault c.trouble_of_report.result c.trouble_of_report.ensures.trouble
