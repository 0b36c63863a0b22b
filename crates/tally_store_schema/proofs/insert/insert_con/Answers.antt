use Rattle.tally_store_schema.proofs.StatementTextLemmas.{insert_con_does}
use Rattle.tally_store_schema.proofs.insert.insert_con.Goals as goal

pub returns-clause-inserted : goal.returns-clause-inserted
returns-clause-inserted g c = insert_con_does c.args.con.now c.args.edition c.args.certified c.args.note.now _ _ c.run.result (rw (c.params-to_sql.ensures, c.params-to_sql-2.ensures, c.params-to_sql-3.ensures, c.params-to_sql-4.ensures) at c.run.ensures.ran)
