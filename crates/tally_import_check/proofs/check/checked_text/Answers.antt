use Rattle.std.proofs.Common.{subst}
use Rattle.std.specs.Prelude.{IfSome}
use Rattle.tally_import_check.specs.internal.Rounds.{FindsCheckText}
use Rattle.tally_import_check.proofs.check.checked_text.Goals as goal

pub returns-clause-finds : goal.returns-clause-finds
returns-clause-finds g c =
    let text = g.R.Read.remaining c.args.reader.now in
    let left = g.R.Read.remaining c.text_of_records.new.reader in
    subst (λ s. IfSome text (λ t. FindsCheckText c.args.lines s t left c.text_of_records.result)) c.in_ok-records.ensures.sep
    (c.text_of_records.ensures.finds text c.in_ok-records.ensures.given)
