use Rattle.std.proofs.Common.{◌≡◌, ◌∙◌, ℕ, List, IfSome, subst}
use Rattle.tally_desk_answer.specs.Answer.{answer_text}
use Rattle.tally_desk_answer.specs.declared.status.AnswerStatus.TheVariants.{Done}
use Rattle.tally_desk_answer.specs.declared.status.BodyType.TheVariants.{Text}
use Rattle.tally_desk.proofs.show.progress_answer.Goals as goal

pub returns-in-Ok : goal.returns-in-Ok
returns-in-Ok c =
    subst (λ (b : List ℕ). IfSome c.done_answer.result (λ out. out.items ≡ answer_text Done Text b)) (c.as_bytes.ensures.value ∙ c.in-Ok.ensures.text) c.done_answer.ensures
