use Rattle.std.proofs.Common.{◌≡◌, ◌∙◌, Some, List, Ok, Err, subst, sym}
use Rattle.tally_machine_law.specs.Outcome.{IsLawfulView}
use Rattle.tally_setup.specs.Constituency.{Constituency}
use Rattle.tally_setup.specs.Setup.{constituency_with}
use Rattle.tally_returns.specs.declared.reply.Reply.TheVariants as reply
use Rattle.tally_report_overview.specs.Views.{ShowsWhole}
use Rattle.tally_desk.specs.Requests.{AtCon, IsResultAnswer, ShowsResult}
use Rattle.tally_desk.proofs.DeskLemmas.{gives, con-answer}
use Rattle.tally_desk.proofs.results.show_result.Goals as goal

pub returns-in-Err-clause-gives : goal.returns-in-Err-clause-gives
returns-in-Err-clause-gives g c sure =
    let k = g.K.Keeper in
    let setup = k.constituencies c.args.keeper.now in
    let old = k.content c.args.keeper.now in
    let new = k.content c.whole_view.new.keeper in
    let m = c.args.message.now in
    con-answer c.setup.result.now setup old new m c.deref.result.now c.in-Some.code c.con_in_target.result (λ code con. ShowsResult setup old con code) c.refusal-in-Err.result.items
    c.con_in_target.ensures c.setup.ensures.setup c.deref.ensures.value c.in-Some.is
    (λ place found. (Err c.in-Err.refusal, subst (λ r. ShowsWhole setup old c.in-Some.code r new) c.in-Err.is (c.whole_view.ensures.shows sure), c.refusal-in-Err.ensures))

pub returns-in-Ok-clause-gives : goal.returns-in-Ok-clause-gives
returns-in-Ok-clause-gives g c sure =
    let k = g.K.Keeper in
    let setup = k.constituencies c.args.keeper.now in
    let old = k.content c.args.keeper.now in
    let new = k.content c.whole_view.new.keeper in
    let m = c.args.message.now in
    let kept = rw c.in-Ok.is at c.whole_view.ensures.kept sure in
    let lawful = rw c.in-Ok.is at c.whole_view.ensures.lawful sure in
    let shows : ShowsWhole setup old c.in-Some.code (Ok c.in-Ok.view) new = subst (λ r. ShowsWhole setup old c.in-Some.code r new) c.in-Ok.is (c.whole_view.ensures.shows sure) in
    let same : c.setup-in-Ok.result.now ≡ setup = c.setup-in-Ok.ensures.setup ∙ c.whole_view.ensures.stays.setup in
    gives (AtCon setup old m (λ code con. ShowsResult setup old con code)) (λ text. (con : Constituency) → constituency_with c.in-Some.code c.setup-in-Ok.result.now ≡ Some con → IsLawfulView con c.in-Ok.view → IsResultAnswer con c.in-Ok.view text)
    old new c.result_shown.result c.result_shown.ensures
    (λ text has. con-answer c.setup.result.now setup old new m c.deref.result.now c.in-Some.code c.con_in_target.result (λ code con. ShowsResult setup old con code) text
    c.con_in_target.ensures c.setup.ensures.setup c.deref.ensures.value c.in-Some.is
    (λ con found. (
      Ok (reply.Con c.in-Ok.view),
      shows,
      has con (subst (λ (x : List Constituency). constituency_with c.in-Some.code x ≡ Some con) (sym same) found) (lawful con found),
    )))
    kept

pub result_shown-requires : goal.result_shown-requires
result_shown-requires g c con found =
    let k = g.K.Keeper in
    let fits = rw c.in-Ok.is at c.whole_view.ensures.fits in
    let same : c.setup-in-Ok.result.now ≡ k.constituencies c.args.keeper.now = c.setup-in-Ok.ensures.setup ∙ c.whole_view.ensures.stays.setup in
    fits con (subst (λ (x : List Constituency). constituency_with c.in-Some.code x ≡ Some con) same found)
