use Rattle.std.proofs.Common.{◌≡◌, List, ℕ, IfSome, string_bytes, subst, sym}
use Rattle.tally_desk_answer.specs.Answer.{answer_text}
use Rattle.tally_desk_answer.specs.declared.status.AnswerStatus.TheVariants.{Done}
use Rattle.tally_desk_answer.specs.declared.status.BodyType.TheVariants.{Text}
use Rattle.tally_desk.proofs.DeskLemmas.{granted, report-answered}
use Rattle.tally_desk.proofs.show.report_shown.Goals as goal

pub report_text-requires : goal.report_text-requires
report_text-requires c = c.requires c.in_ok-con.con.now (sym c.in_ok-con.ensures.found)

pub returns-in-Ok : goal.returns-in-Ok
returns-in-Ok c =
    report-answered c.args.setup.now c.args.code c.in_ok-con.con.now c.args.view.now c.args.which c.done_answer.result (string_bytes c.in-Ok.text) (sym c.in_ok-con.ensures.found) (granted _ c.in-Ok.text c.in-Ok.ensures.fault) c.in-Ok.ensures.text
    (subst (λ (b : List ℕ). IfSome c.done_answer.result (λ out. out.items ≡ answer_text Done Text b)) c.as_bytes.ensures.value c.done_answer.ensures)
