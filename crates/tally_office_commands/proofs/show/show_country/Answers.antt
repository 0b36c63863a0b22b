use Rattle.std.proofs.Common.{◌≡◌, ◌∙◌, List, ap, subst, string_bytes}
use Rattle.std.proofs.lemmas.Result.{IfOk-weaker}
use Rattle.tally_setup.specs.Constituency.{Constituency}
use Rattle.tally_report_overview.specs.CountryText.{country_text}
use Rattle.tally_report_overview.specs.Views.{ShowsAll}
use Rattle.tally_office_commands.specs.Show.{IsCountryShown}
use Rattle.tally_office_commands.proofs.show.show_country.Goals as goal

pub returns-in-Ok-clause-shown : goal.returns-in-Ok-clause-shown
returns-in-Ok-clause-shown g c sure =
    let k = g.K.Keeper in
    let setup = k.constituencies c.args.keeper.now in
    let old = k.content c.args.keeper.now in
    let new = k.content c.all_views.new.keeper in
    let shows = subst (λ r. ShowsAll setup old r new) c.in-Ok.is (c.all_views.ensures.shows sure) in
    let same : c.setup.result.now ≡ setup = c.setup.ensures.setup ∙ c.all_views.ensures.stays.setup in
    IfOk-weaker c.text_of_country.result (λ t. string_bytes t ≡ country_text c.setup.result.now c.deref.result.now) (λ t. IsCountryShown setup old (string_bytes t) new)
    (λ t is. (c.in-Ok.views, shows, is ∙ ap (λ (s : List Constituency). country_text s c.deref.result.now) same ∙ ap (country_text setup) c.deref.ensures.value))
    c.text_of_country.ensures.text
