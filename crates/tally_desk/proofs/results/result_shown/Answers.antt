use Rattle.std.proofs.Common.{◌≡◌, List, ℕ, IfSome, string_bytes, subst, sym}
use Rattle.tally_machine_law.specs.Outcome.{IsLawfulView}
use Rattle.tally_desk_answer.specs.Answer.{answer_text}
use Rattle.tally_desk_answer.specs.declared.status.AnswerStatus.TheVariants.{Done}
use Rattle.tally_desk_answer.specs.declared.status.BodyType.TheVariants.{Json}
use Rattle.tally_desk.specs.Requests.{IsResultAnswer}
use Rattle.tally_desk.proofs.DeskLemmas.{of-found, result-answered}
use Rattle.tally_desk.proofs.results.result_shown.Goals as goal

pub result_text-requires : goal.result_text-requires
result_text-requires c = c.requires c.in_ok-con.con.now (sym c.in_ok-con.ensures.found)

pub returns-in-Ok : goal.returns-in-Ok
returns-in-Ok c =
    let view = c.args.view.now in
    of-found c.args.setup.now c.args.code c.in_ok-con.con.now c.done_answer.result (λ con text. IsLawfulView con view → IsResultAnswer con view text) (sym c.in_ok-con.ensures.found)
    (result-answered c.in_ok-con.con.now view c.done_answer.result (string_bytes c.in-Ok.text) c.in-Ok.ensures.text
    (subst (λ (b : List ℕ). IfSome c.done_answer.result (λ out. out.items ≡ answer_text Done Json b)) c.as_bytes.ensures.value c.done_answer.ensures))
