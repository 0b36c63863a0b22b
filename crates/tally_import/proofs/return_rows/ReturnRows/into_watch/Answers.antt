use Rattle.std.proofs.Common.{◌∙◌, ap}
use Rattle.tally_import_records.specs.Watch.{has_failed}
use Rattle.tally_import.proofs.ReturnRowsLemmas.{failed-noted, none-noted}
use Rattle.tally_import.proofs.return_rows.ReturnRows.into_watch.Goals as goal

pub returns-clause-read : goal.returns-clause-read
returns-clause-read g c is =
    failed-noted c.self.inside.stage (has_failed c.self.inside.watch) c.self.invariant.1 (ap (λ v. v.ended) c.self.view_is ∙ is)

pub returns-clause-all_read : goal.returns-clause-all_read
returns-clause-all_read g c is =
    none-noted c.self.inside.stage (has_failed c.self.inside.watch) c.self.invariant.1 (ap (λ v. v.ended) c.self.view_is ∙ is)
