use Rattle.std.proofs.Common.{◌≡◌, ◌∙◌, List, Ok, ap, subst}
use Rattle.tally_desk_answer.specs.Answer.{answer_text}
use Rattle.tally_desk_answer.specs.declared.status.AnswerStatus.TheVariants.{Done}
use Rattle.tally_desk_answer.specs.declared.status.BodyType.TheVariants.{Text}
use Rattle.tally_report_overview.specs.CountryText.{country_text}
use Rattle.tally_returns.specs.View.{View}
use Rattle.tally_setup.specs.Constituency.{Constituency}
use Rattle.tally_desk.specs.Requests.{ShowsCountry}
use Rattle.tally_report_overview.specs.Views.{ShowsAll}
use Rattle.tally_desk.proofs.DeskLemmas.{gives}
use Rattle.tally_desk.proofs.country.show_country.Goals as goal

pub returns-in-Ok-clause-gives : goal.returns-in-Ok-clause-gives
returns-in-Ok-clause-gives g c sure =
    let k = g.K.Keeper in
    let setup = k.constituencies c.args.keeper.now in
    let old = k.content c.args.keeper.now in
    let new = k.content c.all_views.new.keeper in
    let shows : ShowsAll setup old (Ok c.in-Ok.views) new = subst (λ r. ShowsAll setup old r new) c.in-Ok.is (c.all_views.ensures.shows sure) in
    let same : c.setup.result.now ≡ setup = c.setup.ensures.setup ∙ c.all_views.ensures.stays.setup in
    gives (ShowsCountry setup old) (λ text. text ≡ answer_text Done Text (country_text c.setup.result.now c.deref.result.now)) old new c.country_answer.result c.country_answer.ensures
    (λ text is. (
      Ok c.in-Ok.views,
      shows,
      is ∙ ap (λ (s : List Constituency). answer_text Done Text (country_text s c.deref.result.now)) same
          ∙ ap (λ (v : List View). answer_text Done Text (country_text setup v)) c.deref.ensures.value,
    ))
    shows.1
