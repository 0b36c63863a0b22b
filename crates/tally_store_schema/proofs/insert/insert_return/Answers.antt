use Rattle.tally_store_schema.proofs.StatementTextLemmas.{insert_return_does}
use Rattle.tally_store_schema.proofs.insert.insert_return.Goals as goal

pub returns-clause-inserted : goal.returns-clause-inserted
returns-clause-inserted g c = insert_return_does c.args.station.now c.args.con.now c.args.rev c.args.slip.now c.args.status c.args.note.now _ _ c.run.result (rw (c.params-to_sql.ensures, c.params-to_sql-2.ensures, c.params-to_sql-3.ensures, c.params-to_sql-4.ensures, c.params-to_sql-5.ensures, c.params-to_sql-6.ensures) at c.run.ensures.ran)
