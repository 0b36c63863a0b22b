use Rattle.tally_store_schema.proofs.StatementTextLemmas.{update_count_does}
use Rattle.tally_store_schema.proofs.update.update_count.Goals as goal

pub returns-clause-updated : goal.returns-clause-updated
returns-clause-updated g c = update_count_does c.args.station.now c.args.item c.args.n _ _ c.run.result (rw (c.params-to_sql.ensures, c.params-to_sql-2.ensures, c.params-to_sql-3.ensures) at c.run.ensures.ran)
