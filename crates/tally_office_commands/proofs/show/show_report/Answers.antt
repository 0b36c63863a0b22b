use Rattle.std.proofs.Common.{◌≡◌, ◌∙◌, ℕ, List, Option, Some, Ok, Err, sym, subst, string_bytes}
use Rattle.std.proofs.lemmas.Result.{IfOk-weaker, IfErr-weaker}
use Rattle.tally_setup.specs.Constituency.{Constituency}
use Rattle.tally_setup.specs.Setup.{constituency_with}
use Rattle.tally_returns.specs.View.{View}
use Rattle.tally_report_overview.specs.Views.{ShowsFor}
use Rattle.tally_report_overview.proofs.ViewLemmas.{fault-whole, report-whole}
use Rattle.tally_report.specs.declared.fault.ReportFault.{ReportFault}
use Rattle.tally_report.specs.Reports.{IsEnoughFor, report_fault}
use Rattle.tally_office_commands.specs.Show.{IsGiven, IsReportShown, IsReportTrouble}
use Rattle.tally_office_commands.specs.internal.Withheld.{IsWithheld}
use Rattle.tally_office_commands.proofs.ShowLemmas.{con-known, con-trouble, fault-trouble, known-found, other-store}
use Rattle.tally_office_commands.proofs.show.show_report.Goals as goal

pub returns-in-Err-clause-unknown : goal.returns-in-Err-clause-unknown
returns-in-Err-clause-unknown g c none =
    let k = g.K.Keeper in
    let known = con-known c.code_named.result c.args.con.now c.in-Some.code c.setup.result.now (k.constituencies c.args.keeper.now) c.code_named.ensures c.setup.ensures.setup c.in-Some.is in
    absurd (known-found none known.1)

pub returns-in-Err-clause-trouble : goal.returns-in-Err-clause-trouble
returns-in-Err-clause-trouble g c sure =
    let k = g.K.Keeper in
    let setup = k.constituencies c.args.keeper.now in
    let old = k.content c.args.keeper.now in
    let new = k.content c.view_for.new.keeper in
    let text = c.args.con.now in
    let known = con-known c.code_named.result text c.in-Some.code c.setup.result.now setup c.code_named.ensures c.setup.ensures.setup c.in-Some.is in
    let answered = subst (λ r. ShowsFor c.args.which setup old c.in-Some.code r new) c.in-Err.is (c.view_for.ensures.shows sure) in
    let shows = subst (λ (code : List ℕ). ShowsFor c.args.which setup old code (Err c.in-Err.refusal) new) known.2 answered in
    rw c.trouble_of.ensures.trouble (con-trouble setup old new text c.args.which known.0 c.in-Err.refusal known.1 shows.1)

pub returns-in-Ok-clause-unknown : goal.returns-in-Ok-clause-unknown
returns-in-Ok-clause-unknown g c none =
    let k = g.K.Keeper in
    let known = con-known c.code_named.result c.args.con.now c.in-Some.code c.setup.result.now (k.constituencies c.args.keeper.now) c.code_named.ensures c.setup.ensures.setup c.in-Some.is in
    absurd (known-found none known.1)

pub returns-in-Ok-clause-shown : goal.returns-in-Ok-clause-shown
returns-in-Ok-clause-shown g c sure =
    let k = g.K.Keeper in
    let setup = k.constituencies c.args.keeper.now in
    let old = k.content c.args.keeper.now in
    let new = k.content c.view_for.new.keeper in
    let text = c.args.con.now in
    let code = c.in-Some.code in
    let which = c.args.which in
    let known = con-known c.code_named.result text code c.setup.result.now setup c.code_named.ensures c.setup.ensures.setup c.in-Some.is in
    let answered = subst (λ r. ShowsFor which setup old code r new) c.in-Ok.is (c.view_for.ensures.shows sure) in
    let shows = subst (λ (code : List ℕ). ShowsFor which setup old code (Ok c.in-Ok.view) new) known.2 answered in
    let whole : View = record c.in-Ok.view { past = shows.0 } in
    let kept = rw c.in-Ok.is at c.view_for.ensures.kept sure in
    let enough = rw c.in-Ok.is at c.view_for.ensures.enough sure in
    let same : c.setup-in-Ok.result.now ≡ setup = c.setup-in-Ok.ensures.setup ∙ c.view_for.ensures.stays.setup in
    let found = subst (λ (q : List ℕ). constituency_with q setup ≡ Some known.0) (sym known.2) known.1 in
    IfOk-weaker c.text_of.result (λ t. (con : Constituency) → constituency_with code c.setup-in-Ok.result.now ≡ Some con → IsEnoughFor which con c.in-Ok.view → IsGiven con c.in-Ok.view which (string_bytes t))
    (λ t. IsReportShown setup old text which (string_bytes t) new)
    (λ t given.
    let is = given known.0 (subst (λ (s : List Constituency). constituency_with code s ≡ Some known.0) (sym same) found) (enough known.0 found) in (
      known.0,
      whole,
      known.1,
      (shows.1, kept),
      (sym (fault-whole which known.0 c.in-Ok.view shows.0) ∙ is.0, report-whole which known.0 c.in-Ok.view shows.0 (string_bytes t) shows.2 is.1),
    ))
    c.text_of.ensures.text

pub returns-in-Ok-clause-trouble : goal.returns-in-Ok-clause-trouble
returns-in-Ok-clause-trouble g c sure =
    let k = g.K.Keeper in
    let setup = k.constituencies c.args.keeper.now in
    let old = k.content c.args.keeper.now in
    let new = k.content c.view_for.new.keeper in
    let text = c.args.con.now in
    let code = c.in-Some.code in
    let which = c.args.which in
    let known = con-known c.code_named.result text code c.setup.result.now setup c.code_named.ensures c.setup.ensures.setup c.in-Some.is in
    let answered = subst (λ r. ShowsFor which setup old code r new) c.in-Ok.is (c.view_for.ensures.shows sure) in
    let shows = subst (λ (code : List ℕ). ShowsFor which setup old code (Ok c.in-Ok.view) new) known.2 answered in
    let whole : View = record c.in-Ok.view { past = shows.0 } in
    let kept = rw c.in-Ok.is at c.view_for.ensures.kept sure in
    let same : c.setup-in-Ok.result.now ≡ setup = c.setup-in-Ok.ensures.setup ∙ c.view_for.ensures.stays.setup in
    let found = subst (λ (q : List ℕ). constituency_with q setup ≡ Some known.0) (sym known.2) known.1 in
    IfErr-weaker c.text_of.result (λ t. (con : Constituency) → constituency_with code c.setup-in-Ok.result.now ≡ Some con → IsWithheld (report_fault con c.in-Ok.view which) t)
    (λ t. IsReportTrouble setup old text which t new)
    (λ t why.
    fault-trouble setup old new text which known.0 whole t known.1 (shows.1, kept)
    (subst (λ (o : Option ReportFault). IsWithheld o t) (fault-whole which known.0 c.in-Ok.view shows.0)
    (why known.0 (subst (λ (s : List Constituency). constituency_with code s ≡ Some known.0) (sym same) found))))
    c.text_of.ensures.trouble

pub text_of-requires : goal.text_of-requires
text_of-requires g c con found =
    let k = g.K.Keeper in
    let fits = rw c.in-Ok.is at c.view_for.ensures.fits in
    let same : c.setup-in-Ok.result.now ≡ k.constituencies c.args.keeper.now = c.setup-in-Ok.ensures.setup ∙ c.view_for.ensures.stays.setup in
    fits con (subst (λ (x : List Constituency). constituency_with c.in-Some.code x ≡ Some con) same found)

pub returns-in-Ok-clause-store : goal.returns-in-Ok-clause-store
returns-in-Ok-clause-store g c sure = other-store (g.K.Keeper.HasDatabase c.args.keeper.now) c.text_of.result c.text_of.ensures.other
