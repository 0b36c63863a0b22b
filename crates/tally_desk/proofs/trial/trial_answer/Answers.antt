use Rattle.std.proofs.Common.{◌≡◌, ◌∙◌, ℕ, List, IfSome, subst}
use Rattle.tally_desk_answer.specs.Answer.{answer_text}
use Rattle.tally_desk_answer.specs.declared.status.AnswerStatus.TheVariants.{Done}
use Rattle.tally_desk_answer.specs.declared.status.BodyType.TheVariants.{Text}
use Rattle.tally_desk.proofs.trial.trial_answer.Goals as goal

pub returns-in-Ok-trial_lines-clause-text : goal.returns-in-Ok-trial_lines-clause-text
returns-in-Ok-trial_lines-clause-text c =
    rw c.in-Ok.is (subst (λ (b : List ℕ). IfSome c.done_answer.result (λ out. out.items ≡ answer_text Done Text b)) (c.as_bytes.ensures.value ∙ c.in-Ok-trial_lines.ensures) c.done_answer.ensures)
