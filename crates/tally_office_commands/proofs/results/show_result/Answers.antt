use Rattle.std.proofs.Common.{◌≡◌, ◌∙◌, ℕ, List, Some, Ok, Err, sym, subst, string_bytes}
use Rattle.std.proofs.lemmas.Result.{IfOk-weaker, IfErr-weaker}
use Rattle.tally_machine_law.specs.Outcome.{IsLawfulView}
use Rattle.tally_setup.specs.Constituency.{Constituency}
use Rattle.tally_setup.specs.Setup.{constituency_with}
use Rattle.tally_returns.specs.declared.ask.Ask.TheVariants.{ShowCon}
use Rattle.tally_report_overview.specs.Views.{ShowsWhole}
use Rattle.tally_report_result.specs.Result.{IsResultText}
use Rattle.tally_office_commands.specs.Results.{IsLineOf, IsResultShown, IsResultTrouble}
use Rattle.tally_office_trouble.specs.declared.trouble.Trouble.{Trouble}
use Rattle.tally_office_trouble.specs.declared.trouble.Trouble.TheVariants as trouble
use Rattle.tally_office_commands.proofs.ResultLemmas.{result-trouble}
use Rattle.tally_office_commands.proofs.ShowLemmas.{con-known, known-found, memory-refused}
use Rattle.tally_office_commands.proofs.results.show_result.Goals as goal

pub returns-in-Err-clause-unknown : goal.returns-in-Err-clause-unknown
returns-in-Err-clause-unknown g c none =
    let k = g.K.Keeper in
    let known = con-known c.code_named.result c.args.con.now c.in-Some.code c.setup.result.now (k.constituencies c.args.keeper.now) c.code_named.ensures c.setup.ensures.setup c.in-Some.is in
    absurd (known-found none known.1)

pub returns-in-Err-clause-trouble : goal.returns-in-Err-clause-trouble
returns-in-Err-clause-trouble g c sure =
    let k = g.K.Keeper in
    let setup = k.constituencies c.args.keeper.now in
    let old = k.content c.args.keeper.now in
    let new = k.content c.whole_view.new.keeper in
    let text = c.args.con.now in
    let known = con-known c.code_named.result text c.in-Some.code c.setup.result.now setup c.code_named.ensures c.setup.ensures.setup c.in-Some.is in
    let answered = subst (λ r. ShowsWhole setup old c.in-Some.code r new) c.in-Err.is (c.whole_view.ensures.shows sure) in
    let shows = subst (λ (code : List ℕ). ShowsWhole setup old code (Err c.in-Err.refusal) new) known.2 answered in
    rw c.trouble_of.ensures.trouble (result-trouble setup old new text known.0 c.in-Err.refusal known.1 shows)

pub returns-in-Ok-clause-unknown : goal.returns-in-Ok-clause-unknown
returns-in-Ok-clause-unknown g c none =
    let k = g.K.Keeper in
    let known = con-known c.code_named.result c.args.con.now c.in-Some.code c.setup.result.now (k.constituencies c.args.keeper.now) c.code_named.ensures c.setup.ensures.setup c.in-Some.is in
    absurd (known-found none known.1)

pub returns-in-Ok-clause-shown : goal.returns-in-Ok-clause-shown
returns-in-Ok-clause-shown g c sure =
    let k = g.K.Keeper in
    let setup = k.constituencies c.args.keeper.now in
    let old = k.content c.args.keeper.now in
    let new = k.content c.whole_view.new.keeper in
    let text = c.args.con.now in
    let code = c.in-Some.code in
    let view = c.in-Ok.view in
    let known = con-known c.code_named.result text code c.setup.result.now setup c.code_named.ensures c.setup.ensures.setup c.in-Some.is in
    let answered = subst (λ r. ShowsWhole setup old code r new) c.in-Ok.is (c.whole_view.ensures.shows sure) in
    let shows = subst (λ (code : List ℕ). ShowsWhole setup old code (Ok view) new) known.2 answered in
    let kept = rw c.in-Ok.is at c.whole_view.ensures.kept sure in
    let lawful = rw c.in-Ok.is at c.whole_view.ensures.lawful sure in
    let same : c.setup-in-Ok.result.now ≡ setup = c.setup-in-Ok.ensures.setup ∙ c.whole_view.ensures.stays.setup in
    let found = subst (λ (q : List ℕ). constituency_with q setup ≡ Some known.0) (sym known.2) known.1 in
    IfOk-weaker c.line_of_result.result (λ t. (con : Constituency) → constituency_with code c.setup-in-Ok.result.now ≡ Some con → IsLawfulView con view → IsLineOf (IsResultText con view) (string_bytes t))
    (λ t. IsResultShown setup old text (string_bytes t) new)
    (λ t given. (
      known.0,
      view,
      known.1,
      (shows, kept),
      given known.0 (subst (λ (s : List Constituency). constituency_with code s ≡ Some known.0) (sym same) found) (lawful known.0 found),
    ))
    c.line_of_result.ensures.text

pub returns-in-Ok-clause-trouble : goal.returns-in-Ok-clause-trouble
returns-in-Ok-clause-trouble g c sure =
    let k = g.K.Keeper in
    let setup = k.constituencies c.args.keeper.now in
    let old = k.content c.args.keeper.now in
    let new = k.content c.whole_view.new.keeper in
    let text = c.args.con.now in
    let code = c.in-Some.code in
    let known = con-known c.code_named.result text code c.setup.result.now setup c.code_named.ensures c.setup.ensures.setup c.in-Some.is in
    let kept = rw c.in-Ok.is at c.whole_view.ensures.kept sure in
    let same : c.setup-in-Ok.result.now ≡ setup = c.setup-in-Ok.ensures.setup ∙ c.whole_view.ensures.stays.setup in
    let found = subst (λ (q : List ℕ). constituency_with q setup ≡ Some known.0) (sym known.2) known.1 in
    IfErr-weaker c.line_of_result.result (λ t. (con : Constituency) → constituency_with code c.setup-in-Ok.result.now ≡ Some con → t ≡ trouble.Memory)
    (λ t. IsResultTrouble setup old text t new)
    (λ t why.
    subst (λ (x : Trouble). IsResultTrouble setup old text x new) (sym (why known.0 (subst (λ (s : List Constituency). constituency_with code s ≡ Some known.0) (sym same) found)))
    (memory-refused setup old new (ShowCon text) kept))
    c.line_of_result.ensures.trouble

pub line_of_result-requires : goal.line_of_result-requires
line_of_result-requires g c con found =
    let k = g.K.Keeper in
    let fits = rw c.in-Ok.is at c.whole_view.ensures.fits in
    let same : c.setup-in-Ok.result.now ≡ k.constituencies c.args.keeper.now = c.setup-in-Ok.ensures.setup ∙ c.whole_view.ensures.stays.setup in
    fits con (subst (λ (x : List Constituency). constituency_with c.in-Some.code x ≡ Some con) same found)
