use Rattle.tally_store_schema.proofs.StatementTextLemmas.{update_return_does}
use Rattle.tally_store_schema.proofs.update.update_return.Goals as goal

pub returns-clause-updated : goal.returns-clause-updated
returns-clause-updated g c con r s t u = update_return_does c.args.station.now c.args.rev c.args.slip.now c.args.status c.args.note.now con r s t u _ _ c.run.result (rw (c.params-to_sql.ensures, c.params-to_sql-2.ensures, c.params-to_sql-3.ensures, c.params-to_sql-4.ensures, c.params-to_sql-5.ensures) at c.run.ensures.ran)
