use Rattle.tally_store_schema.proofs.StatementTextLemmas.{delete_seats_does}
use Rattle.tally_store_schema.proofs.delete.delete_seats.Goals as goal

pub returns-clause-deleted : goal.returns-clause-deleted
returns-clause-deleted g c = delete_seats_does c.args.con.now _ _ c.run.result (rw c.params-to_sql.ensures at c.run.ensures.ran)
