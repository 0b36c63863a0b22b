use Rattle.std.proofs.Common.{◌≡◌, ◌∙◌, Some, List, Ok, Err, subst, sym}
use Rattle.tally_report.specs.Reports.{IsEnoughFor}
use Rattle.tally_setup.specs.Constituency.{Constituency}
use Rattle.tally_setup.specs.Setup.{constituency_with}
use Rattle.tally_returns.specs.declared.reply.Reply.TheVariants as reply
use Rattle.tally_report_overview.specs.Views.{ShowsFor}
use Rattle.tally_desk.specs.Reports.{IsReportText}
use Rattle.tally_desk.specs.Requests.{AtCon, Reports}
use Rattle.tally_desk.proofs.DeskLemmas.{gives, con-answer, text-whole}
use Rattle.tally_desk.proofs.show.show_report.Goals as goal

pub returns-in-Err-clause-gives : goal.returns-in-Err-clause-gives
returns-in-Err-clause-gives g c sure =
    let k = g.K.Keeper in
    let setup = k.constituencies c.args.keeper.now in
    let old = k.content c.args.keeper.now in
    let new = k.content c.view_for.new.keeper in
    let m = c.args.message.now in
    con-answer c.setup.result.now setup old new m c.deref.result.now c.in-Some.code c.con_in_target.result (λ code con. Reports setup old con code c.args.which) c.refusal-in-Err.result.items
    c.con_in_target.ensures c.setup.ensures.setup c.deref.ensures.value c.in-Some.is
    (λ place found. (Err c.in-Err.refusal, (subst (λ r. ShowsFor c.args.which setup old c.in-Some.code r new) c.in-Err.is (c.view_for.ensures.shows sure)).1, c.refusal-in-Err.ensures))

pub returns-in-Ok-clause-gives : goal.returns-in-Ok-clause-gives
returns-in-Ok-clause-gives g c sure =
    let k = g.K.Keeper in
    let setup = k.constituencies c.args.keeper.now in
    let old = k.content c.args.keeper.now in
    let new = k.content c.view_for.new.keeper in
    let m = c.args.message.now in
    let kept = rw c.in-Ok.is at c.view_for.ensures.kept sure in
    let enough = rw c.in-Ok.is at c.view_for.ensures.enough sure in
    let shows : ShowsFor c.args.which setup old c.in-Some.code (Ok c.in-Ok.view) new = subst (λ r. ShowsFor c.args.which setup old c.in-Some.code r new) c.in-Ok.is (c.view_for.ensures.shows sure) in
    let same : c.setup-in-Ok.result.now ≡ setup = c.setup-in-Ok.ensures.setup ∙ c.view_for.ensures.stays.setup in
    gives (AtCon setup old m (λ code con. Reports setup old con code c.args.which)) (λ text. (con : Constituency) → constituency_with c.in-Some.code c.setup-in-Ok.result.now ≡ Some con → IsEnoughFor c.args.which con c.in-Ok.view → IsReportText con c.in-Ok.view c.args.which text)
    old new c.report_shown.result c.report_shown.ensures
    (λ text has. con-answer c.setup.result.now setup old new m c.deref.result.now c.in-Some.code c.con_in_target.result (λ code con. Reports setup old con code c.args.which) text
    c.con_in_target.ensures c.setup.ensures.setup c.deref.ensures.value c.in-Some.is
    (λ con found. (
      Ok (reply.Con (record c.in-Ok.view { past = shows.0 })),
      shows.1,
      text-whole c.args.which con c.in-Ok.view shows.0 text shows.2
          (has con (subst (λ (x : List Constituency). constituency_with c.in-Some.code x ≡ Some con) (sym same) found) (enough con found)),
    )))
    kept

pub report_shown-requires : goal.report_shown-requires
report_shown-requires g c con found =
    let k = g.K.Keeper in
    let fits = rw c.in-Ok.is at c.view_for.ensures.fits in
    let same : c.setup-in-Ok.result.now ≡ k.constituencies c.args.keeper.now = c.setup-in-Ok.ensures.setup ∙ c.view_for.ensures.stays.setup in
    fits con (subst (λ (x : List Constituency). constituency_with c.in-Some.code x ≡ Some con) same found)
