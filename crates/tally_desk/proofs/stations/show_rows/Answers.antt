use Rattle.std.proofs.Common.{◌≡◌, ◌∙◌, Some, List, Ok, Err, ap, subst, sym}
use Rattle.tally_setup.specs.Constituency.{Constituency}
use Rattle.tally_setup.specs.Setup.{constituency_with}
use Rattle.tally_keeper.specs.Shown.{ShowsReturns}
use Rattle.tally_desk.specs.internal.RowsAnswer.{rows_answer}
use Rattle.tally_desk.specs.Requests.{AtCon, ShowsRows}
use Rattle.tally_desk.proofs.DeskLemmas.{gives, con-answer, kept-rows}
use Rattle.tally_desk.proofs.stations.show_rows.Goals as goal

pub returns-in-Err-clause-gives : goal.returns-in-Err-clause-gives
returns-in-Err-clause-gives g c sure =
    let k = g.K.Keeper in
    let setup = k.constituencies c.args.keeper.now in
    let old = k.content c.args.keeper.now in
    let new = k.content c.show_returns.new.self in
    let m = c.args.message.now in
    con-answer c.setup.result.now setup old new m c.deref.result.now c.in-Some.code c.con_in_target.result (λ code con. ShowsRows setup old code (rows_answer c.args.report con)) c.refusal-in-Err.result.items
    c.con_in_target.ensures c.setup.ensures.setup c.deref.ensures.value c.in-Some.is
    (λ con found. (Err c.in-Err.refusal, subst (λ r. ShowsReturns setup old c.in-Some.code r new) c.in-Err.is (c.show_returns.ensures.shows sure), c.refusal-in-Err.ensures))

pub returns-in-Ok-clause-gives : goal.returns-in-Ok-clause-gives
returns-in-Ok-clause-gives g c sure =
    let k = g.K.Keeper in
    let setup = k.constituencies c.args.keeper.now in
    let old = k.content c.args.keeper.now in
    let new = k.content c.show_returns.new.self in
    let m = c.args.message.now in
    let shows : ShowsReturns setup old c.in-Some.code (Ok c.in-Ok.rows) new = subst (λ r. ShowsReturns setup old c.in-Some.code r new) c.in-Ok.is (c.show_returns.ensures.shows sure) in
    let same : c.setup-in-Ok.result.now ≡ setup = c.setup-in-Ok.ensures.setup ∙ c.show_returns.ensures.stays.setup in
    gives (AtCon setup old m (λ code con. ShowsRows setup old code (rows_answer c.args.report con)))
    (λ text. (con : Constituency) → constituency_with c.in-Some.code c.setup-in-Ok.result.now ≡ Some con → text ≡ rows_answer c.args.report con c.deref-in-Ok.result.now)
    old new c.rows_shown.result c.rows_shown.ensures
    (λ text has. con-answer c.setup.result.now setup old new m c.deref.result.now c.in-Some.code c.con_in_target.result (λ code con. ShowsRows setup old code (rows_answer c.args.report con)) text
    c.con_in_target.ensures c.setup.ensures.setup c.deref.ensures.value c.in-Some.is
    (λ con found. (
      Ok c.in-Ok.rows,
      shows,
      has con (subst (λ (x : List Constituency). constituency_with c.in-Some.code x ≡ Some con) (sym same) found)
          ∙ ap (rows_answer c.args.report con) c.deref-in-Ok.ensures.value,
    )))
    (kept-rows setup old new c.in-Some.code c.in-Ok.rows shows)
