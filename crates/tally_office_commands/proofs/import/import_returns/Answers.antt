use Rattle.std.proofs.Common.{◌≡◌, subst}
use Rattle.tally_setup.specs.Setup.{constituency_with}
use Rattle.tally_office_commands.specs.Imported.{IsTroubleIn}
use Rattle.tally_office_commands.proofs.ImportLemmas.{find-no-read, find-trouble}
use Rattle.tally_office_trouble.specs.declared.trouble.Trouble.TheVariants.{Read}
use Rattle.tally_office_commands.proofs.import.import_returns.Goals as goal

pub returns-in-Err-clause-trouble : goal.returns-in-Err-clause-trouble
returns-in-Err-clause-trouble g c sure =
    let k = g.K.Keeper in
    let setup = k.constituencies c.args.keeper.now in
    let old = k.content c.args.keeper.now in
    let bytes = g.R.Read.remaining c.args.reader in
    subst (λ cons. IsTroubleIn (constituency_with c.args.code.now cons) c.args.sep bytes setup old c.in-Err.trouble old) c.setup.ensures.setup
    (find-trouble _ c.args.sep bytes setup old c.in-Err.trouble c.in-Err.ensures.trouble)

pub returns-in-Err-clause-read : goal.returns-in-Err-clause-read
returns-in-Err-clause-read g c sure is =
    let same : c.in-Err.trouble ≡ Read = cc in
    absurd (find-no-read _ c.in-Err.trouble c.in-Err.ensures.trouble same)
