use Rattle.std.proofs.Common.{◌≡◌, ◌∙◌, ℕ, List, IfSome, subst, sym}
use Rattle.serde_json.specs.Written.{compact_text}
use Rattle.tally_desk_answer.specs.Answer.{answer_text}
use Rattle.tally_desk_answer.specs.Shown.{shown_con}
use Rattle.tally_desk_answer.specs.declared.status.AnswerStatus.TheVariants.{Done}
use Rattle.tally_desk_answer.specs.declared.status.BodyType.TheVariants.{Json}
use Rattle.tally_desk.proofs.DeskLemmas.{of-found}
use Rattle.tally_desk.proofs.show.con_shown.Goals as goal

pub returns-in-Ok : goal.returns-in-Ok
returns-in-Ok c =
    of-found c.args.setup.now c.args.code c.in_ok-con.con.now c.done_answer.result (λ con text. text ≡ answer_text Done Json (compact_text (shown_con con c.args.view.now))) (sym c.in_ok-con.ensures.found)
    (subst (λ (b : List ℕ). IfSome c.done_answer.result (λ out. out.items ≡ answer_text Done Json b)) (c.as_bytes.ensures.value ∙ c.in-Ok.ensures) c.done_answer.ensures)
