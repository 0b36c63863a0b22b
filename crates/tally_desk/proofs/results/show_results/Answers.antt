use Rattle.std.proofs.Common.{◌≡◌, ◌∙◌, List, Ok, sym, subst}
use Rattle.std.specs.List.{AllZip}
use Rattle.tally_machine_law.specs.Outcome.{IsLawfulView}
use Rattle.tally_returns.specs.View.{View}
use Rattle.tally_setup.specs.Constituency.{Constituency}
use Rattle.tally_desk.specs.Requests.{AreResultsAnswer, ShowsResults}
use Rattle.tally_report_overview.specs.Views.{ShowsAllWhole}
use Rattle.tally_desk.proofs.DeskLemmas.{gives}
use Rattle.tally_desk.proofs.results.show_results.Goals as goal

pub returns-in-Ok-clause-gives : goal.returns-in-Ok-clause-gives
returns-in-Ok-clause-gives g c sure =
    let k = g.K.Keeper in
    let setup = k.constituencies c.args.keeper.now in
    let old = k.content c.args.keeper.now in
    let new = k.content c.whole_views.new.keeper in
    let shows : ShowsAllWhole setup old (Ok c.in-Ok.views) new = subst (λ r. ShowsAllWhole setup old r new) c.in-Ok.is (c.whole_views.ensures.shows sure) in
    let lawful : AllZip IsLawfulView setup c.in-Ok.views.items = rw c.in-Ok.is at c.whole_views.ensures.lawful sure in
    let same : c.setup.result.now ≡ setup = c.setup.ensures.setup ∙ c.whole_views.ensures.stays.setup in
    gives (ShowsResults setup old) (λ text. AllZip IsLawfulView c.setup.result.now c.deref.result.now → AreResultsAnswer c.setup.result.now c.deref.result.now text) old new c.results_answer.result c.results_answer.ensures
    (λ text has. (
      Ok c.in-Ok.views,
      shows,
      subst (λ (v : List View). AreResultsAnswer setup v text) c.deref.ensures.value
          (subst (λ (s : List Constituency). AreResultsAnswer s c.deref.result.now text) same
          (has (subst (λ (s : List Constituency). AllZip IsLawfulView s c.deref.result.now) (sym same) (subst (λ (v : List View). AllZip IsLawfulView setup v) (sym c.deref.ensures.value) lawful)))),
    ))
    shows.1
