use Rattle.std.proofs.Common.{◌≡◌, ◌∙◌, Some, List, Ok, Err, subst, sym}
use Rattle.serde_json.specs.Written.{compact_text}
use Rattle.tally_desk_answer.specs.Answer.{answer_text}
use Rattle.tally_desk_answer.specs.Shown.{shown_con}
use Rattle.tally_desk_answer.specs.declared.status.AnswerStatus.TheVariants as status
use Rattle.tally_desk_answer.specs.declared.status.BodyType.TheVariants as body
use Rattle.tally_setup.specs.Constituency.{Constituency}
use Rattle.tally_setup.specs.Setup.{constituency_with}
use Rattle.tally_returns.specs.declared.reply.Reply.TheVariants as reply
use Rattle.tally_keeper.specs.Shown.{AnswersShowCon}
use Rattle.tally_desk.specs.Requests as desk
use Rattle.tally_desk.specs.Requests.{AtCon}
use Rattle.tally_desk.proofs.DeskLemmas.{gives, con-answer}
use Rattle.tally_report_overview.proofs.ViewLemmas.{kept-shown}
use Rattle.tally_desk.proofs.show.show_con.Goals as goal

pub returns-in-Err-clause-gives : goal.returns-in-Err-clause-gives
returns-in-Err-clause-gives g c sure =
    let k = g.K.Keeper in
    let setup = k.constituencies c.args.keeper.now in
    let old = k.content c.args.keeper.now in
    let new = k.content c.show_con.new.self in
    let m = c.args.message.now in
    con-answer c.setup.result.now setup old new m c.deref.result.now c.in-Some.code c.con_in_target.result (λ code con. desk.ShowsCon setup old con code) c.refusal-in-Err.result.items
    c.con_in_target.ensures c.setup.ensures.setup c.deref.ensures.value c.in-Some.is
    (λ place found. (Err c.in-Err.refusal, (subst (λ r. AnswersShowCon setup old c.in-Some.code r new) c.in-Err.is (c.show_con.ensures.shows sure)).1, c.refusal-in-Err.ensures))

pub returns-in-Ok-clause-gives : goal.returns-in-Ok-clause-gives
returns-in-Ok-clause-gives g c sure =
    let k = g.K.Keeper in
    let setup = k.constituencies c.args.keeper.now in
    let old = k.content c.args.keeper.now in
    let new = k.content c.show_con.new.self in
    let m = c.args.message.now in
    let shows : AnswersShowCon setup old c.in-Some.code (Ok c.in-Ok.view) new = subst (λ r. AnswersShowCon setup old c.in-Some.code r new) c.in-Ok.is (c.show_con.ensures.shows sure) in
    let kept : new ≡ old = kept-shown setup old new c.in-Some.code (Ok c.in-Ok.view) shows in
    let same : c.setup-in-Ok.result.now ≡ setup = c.setup-in-Ok.ensures.setup ∙ c.show_con.ensures.stays.setup in
    gives (AtCon setup old m (λ code con. desk.ShowsCon setup old con code)) (λ text. (con : Constituency) → constituency_with c.in-Some.code c.setup-in-Ok.result.now ≡ Some con → text ≡ answer_text status.Done body.Json (compact_text (shown_con con c.in-Ok.view)))
    old new c.con_shown.result c.con_shown.ensures
    (λ text has. con-answer c.setup.result.now setup old new m c.deref.result.now c.in-Some.code c.con_in_target.result (λ code con. desk.ShowsCon setup old con code) text
    c.con_in_target.ensures c.setup.ensures.setup c.deref.ensures.value c.in-Some.is
    (λ con found. (
      Ok (reply.Con (record c.in-Ok.view { past = shows.0 })),
      shows.1,
      has con (subst (λ (x : List Constituency). constituency_with c.in-Some.code x ≡ Some con) (sym same) found),
    )))
    kept
