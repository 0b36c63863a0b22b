use Rattle.tally_store_schema.proofs.SetupLemmas.{update_version_does}
use Rattle.tally_store_schema.proofs.setup.update_version.Goals as goal

pub returns-clause-updated : goal.returns-clause-updated
returns-clause-updated g c = update_version_does c.args.version _ _ c.run.result (rw c.params-to_sql.ensures at c.run.ensures.ran)
