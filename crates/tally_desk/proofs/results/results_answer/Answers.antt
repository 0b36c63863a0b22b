use Rattle.std.proofs.Common.{◌≡◌, List, ℕ, IfSome, string_bytes, subst}
use Rattle.tally_desk_answer.specs.Answer.{answer_text}
use Rattle.tally_desk_answer.specs.declared.status.AnswerStatus.TheVariants.{Done}
use Rattle.tally_desk_answer.specs.declared.status.BodyType.TheVariants.{Json}
use Rattle.tally_desk.proofs.DeskLemmas.{results-answered}
use Rattle.tally_desk.proofs.results.results_answer.Goals as goal

pub returns-in-Ok : goal.returns-in-Ok
returns-in-Ok c =
    results-answered c.args.setup.now c.args.views.now c.done_answer.result (string_bytes c.in-Ok.text) c.in-Ok.ensures.text
    (subst (λ (b : List ℕ). IfSome c.done_answer.result (λ out. out.items ≡ answer_text Done Json b)) c.as_bytes.ensures.value c.done_answer.ensures)
