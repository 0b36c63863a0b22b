use Rattle.std.proofs.Common.{◌≡◌, ◌∙◌, List, sym, subst, string_bytes}
use Rattle.std.proofs.lemmas.Result.{IfOk-weaker}
use Rattle.std.specs.List.{AllZip}
use Rattle.tally_machine_law.specs.Outcome.{IsLawfulView}
use Rattle.tally_setup.specs.Constituency.{Constituency}
use Rattle.tally_returns.specs.View.{View}
use Rattle.tally_report_overview.specs.Views.{ShowsAllWhole}
use Rattle.tally_report_result.specs.Result.{AreResultsText}
use Rattle.tally_office_commands.specs.Results.{AreResultsShown, IsLineOf}
use Rattle.tally_office_commands.proofs.results.show_results.Goals as goal

pub returns-in-Ok-clause-shown : goal.returns-in-Ok-clause-shown
returns-in-Ok-clause-shown g c sure =
    let k = g.K.Keeper in
    let setup = k.constituencies c.args.keeper.now in
    let old = k.content c.args.keeper.now in
    let new = k.content c.whole_views.new.keeper in
    let shows = subst (λ r. ShowsAllWhole setup old r new) c.in-Ok.is (c.whole_views.ensures.shows sure) in
    let lawful : AllZip IsLawfulView setup c.in-Ok.views.items = rw c.in-Ok.is at c.whole_views.ensures.lawful sure in
    let same : c.setup.result.now ≡ setup = c.setup.ensures.setup ∙ c.whole_views.ensures.stays.setup in
    IfOk-weaker c.line_of_results.result (λ t. AllZip IsLawfulView c.setup.result.now c.deref.result.now → IsLineOf (AreResultsText c.setup.result.now c.deref.result.now) (string_bytes t)) (λ t. AreResultsShown setup old (string_bytes t) new)
    (λ t has. (
      c.in-Ok.views,
      shows,
      subst (λ (v : List View). IsLineOf (AreResultsText setup v) (string_bytes t)) c.deref.ensures.value
          (subst (λ (s : List Constituency). IsLineOf (AreResultsText s c.deref.result.now) (string_bytes t)) same
          (has (subst (λ (s : List Constituency). AllZip IsLawfulView s c.deref.result.now) (sym same) (subst (λ (v : List View). AllZip IsLawfulView setup v) (sym c.deref.ensures.value) lawful)))),
    ))
    c.line_of_results.ensures.text
