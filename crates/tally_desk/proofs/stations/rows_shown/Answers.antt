use Rattle.std.proofs.Common.{◌≡◌, ◌∙◌, ℕ, List, IfSome, subst, sym}
use Rattle.tally_desk_answer.specs.Answer.{answer_text}
use Rattle.tally_desk_answer.specs.declared.status.AnswerStatus.TheVariants.{Done}
use Rattle.tally_desk_answer.specs.declared.status.BodyType.TheVariants.{Text}
use Rattle.tally_report_names.specs.declared.shown.StationsReport.{StationsReport}
use Rattle.tally_desk.specs.internal.RowsAnswer.{rows_answer}
use Rattle.tally_desk.proofs.DeskLemmas.{of-found}
use Rattle.tally_desk.proofs.stations.rows_shown.Goals as goal

pub returns-in-Ok-stations_text : goal.returns-in-Ok-stations_text
returns-in-Ok-stations_text c =
    of-found c.args.setup.now c.args.code c.in_ok-con.con.now c.done_answer-in-Ok-stations_text.result (λ con text. text ≡ rows_answer c.args.report con c.args.rows.now) (sym c.in_ok-con.ensures.found)
    (subst (λ (report : StationsReport). IfSome c.done_answer-in-Ok-stations_text.result (λ out. out.items ≡ rows_answer report c.in_ok-con.con.now c.args.rows.now)) (sym c.in-Stations.is)
    (subst (λ (b : List ℕ). IfSome c.done_answer-in-Ok-stations_text.result (λ out. out.items ≡ answer_text Done Text b)) (c.as_bytes.ensures.value ∙ c.in-Ok-stations_text.ensures.text) c.done_answer-in-Ok-stations_text.ensures))
