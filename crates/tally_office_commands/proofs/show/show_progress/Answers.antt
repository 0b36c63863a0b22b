use Rattle.std.proofs.Common.{◌≡◌, ◌∙◌, ap, sym, subst, string_bytes}
use Rattle.std.proofs.lemmas.Result.{IfOk-weaker, IfErr-weaker}
use Rattle.tally_keeper.specs.Keeper.{Happens, request}
use Rattle.tally_returns.specs.declared.ask.Ask.TheVariants.{ShowProgress}
use Rattle.tally_report_overview.specs.ProgressText.{progress_text}
use Rattle.tally_report_overview.specs.Views.{as_progress}
use Rattle.tally_office_commands.specs.Show.{IsProgressShown, IsProgressTrouble}
use Rattle.tally_office_trouble.specs.declared.trouble.Trouble.TheVariants as trouble
use Rattle.tally_office_trouble.specs.declared.trouble.Trouble.{Trouble}
use Rattle.tally_office_commands.proofs.ShowLemmas.{memory-refused, progress-trouble}
use Rattle.tally_office_commands.proofs.show.show_progress.Goals as goal

pub returns-in-Err-clause-trouble : goal.returns-in-Err-clause-trouble
returns-in-Err-clause-trouble g c sure =
    let k = g.K.Keeper in
    let happens = rw c.in-Err.is at c.progress_of.ensures.shows sure in
    rw c.trouble_of.ensures.trouble (progress-trouble (k.constituencies c.args.keeper.now) (k.content c.args.keeper.now) (k.content c.progress_of.new.keeper) c.in-Err.refusal happens)

pub returns-in-Ok-clause-shown : goal.returns-in-Ok-clause-shown
returns-in-Ok-clause-shown g c sure =
    let k = g.K.Keeper in
    let setup = k.constituencies c.args.keeper.now in
    let old = k.content c.args.keeper.now in
    let new = k.content c.progress_of.new.keeper in
    let happens = subst (λ r. Happens setup old (request ShowProgress (as_progress r)) new) c.in-Ok.is (c.progress_of.ensures.shows sure) in
    let kept = rw c.in-Ok.is at c.progress_of.ensures.kept sure in
    IfOk-weaker c.text_of_rows.result (λ t. string_bytes t ≡ progress_text c.deref.result.now) (λ t. IsProgressShown setup old (string_bytes t) new)
    (λ t is. (c.in-Ok.rows, (happens, kept), is ∙ ap progress_text c.deref.ensures.value))
    c.text_of_rows.ensures.text

pub returns-in-Ok-clause-trouble : goal.returns-in-Ok-clause-trouble
returns-in-Ok-clause-trouble g c sure =
    let k = g.K.Keeper in
    let setup = k.constituencies c.args.keeper.now in
    let old = k.content c.args.keeper.now in
    let new = k.content c.progress_of.new.keeper in
    let kept = rw c.in-Ok.is at c.progress_of.ensures.kept sure in
    IfErr-weaker c.text_of_rows.result (λ t. t ≡ trouble.Memory) (λ t. IsProgressTrouble setup old t new)
    (λ t is. subst (λ (x : Trouble). IsProgressTrouble setup old x new) (sym is) (memory-refused setup old new ShowProgress kept))
    c.text_of_rows.ensures.trouble
