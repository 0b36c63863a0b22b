use Rattle.std.proofs.Common.{◌≡◌, ◌∙◌, ℕ, List, Some, Ok, ap, sym, subst, string_bytes}
use Rattle.std.proofs.lemmas.Result.{IfOk-weaker}
use Rattle.tally_setup.specs.Constituency.{Constituency}
use Rattle.tally_setup.specs.Setup.{constituency_with}
use Rattle.tally_keeper.specs.Shown.{ShowsReturns}
use Rattle.tally_report_overview.specs.StationsReport.{stations_report}
use Rattle.tally_office_commands.specs.Show.{AreStationsShown}
use Rattle.tally_office_commands.proofs.ShowLemmas.{con-known, known-found}
use Rattle.tally_office_commands.proofs.show.show_stations.Goals as goal

pub returns-in-Err-clause-unknown : goal.returns-in-Err-clause-unknown
returns-in-Err-clause-unknown g c none =
    let k = g.K.Keeper in
    let known = con-known c.code_named.result c.args.con.now c.in-Some.code c.setup.result.now (k.constituencies c.args.keeper.now) c.code_named.ensures c.setup.ensures.setup c.in-Some.is in
    absurd (known-found none known.1)

pub returns-in-Ok-clause-unknown : goal.returns-in-Ok-clause-unknown
returns-in-Ok-clause-unknown g c none =
    let k = g.K.Keeper in
    let known = con-known c.code_named.result c.args.con.now c.in-Some.code c.setup.result.now (k.constituencies c.args.keeper.now) c.code_named.ensures c.setup.ensures.setup c.in-Some.is in
    absurd (known-found none known.1)

pub returns-in-Ok-clause-shown : goal.returns-in-Ok-clause-shown
returns-in-Ok-clause-shown g c sure =
    let k = g.K.Keeper in
    let setup = k.constituencies c.args.keeper.now in
    let old = k.content c.args.keeper.now in
    let new = k.content c.show_returns.new.self in
    let text = c.args.con.now in
    let code = c.in-Some.code in
    let which = c.args.which in
    let known = con-known c.code_named.result text code c.setup.result.now setup c.code_named.ensures c.setup.ensures.setup c.in-Some.is in
    let answered = subst (λ r. ShowsReturns setup old code r new) c.in-Ok.is (c.show_returns.ensures.shows sure) in
    let shows = subst (λ (q : List ℕ). ShowsReturns setup old q (Ok c.in-Ok.rows) new) known.2 answered in
    let same : c.setup-in-Ok.result.now ≡ setup = c.setup-in-Ok.ensures.setup ∙ c.show_returns.ensures.stays.setup in
    let found = subst (λ (q : List ℕ). constituency_with q setup ≡ Some known.0) (sym known.2) known.1 in
    IfOk-weaker c.text_of_stations.result (λ t. (con : Constituency) → constituency_with code c.setup-in-Ok.result.now ≡ Some con → string_bytes t ≡ stations_report which con c.deref.result.now)
    (λ t. AreStationsShown setup old text which (string_bytes t) new)
    (λ t given. (
      known.0,
      c.in-Ok.rows,
      known.1,
      shows,
      given known.0 (subst (λ (s : List Constituency). constituency_with code s ≡ Some known.0) (sym same) found) ∙ ap (stations_report which known.0) c.deref.ensures.value,
    ))
    c.text_of_stations.ensures.text
