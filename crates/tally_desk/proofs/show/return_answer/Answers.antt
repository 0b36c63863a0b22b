use Rattle.std.proofs.Common.{◌≡◌, ◌∙◌, ℕ, List, IfSome, ap, subst}
use Rattle.serde_json.specs.Written.{compact_text}
use Rattle.tally_desk_answer.specs.Shown.{shown_return}
use Rattle.tally_desk_answer.specs.Answer.{answer_text}
use Rattle.tally_desk_answer.specs.declared.status.AnswerStatus.TheVariants.{Done}
use Rattle.tally_desk_answer.specs.declared.status.BodyType.TheVariants.{Json}
use Rattle.tally_desk.proofs.show.return_answer.Goals as goal

pub returns-in-Ok : goal.returns-in-Ok
returns-in-Ok c =
    subst (λ (b : List ℕ). IfSome c.done_answer.result (λ out. out.items ≡ answer_text Done Json b)) (c.as_bytes.ensures.value ∙ c.in-Ok.ensures ∙ ap (λ (code : List ℕ). compact_text (shown_return code c.args.kept.now)) c.as_str.ensures.text) c.done_answer.ensures
