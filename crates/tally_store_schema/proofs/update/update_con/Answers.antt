use Rattle.tally_store_schema.proofs.StatementTextLemmas.{update_con_does}
use Rattle.tally_store_schema.proofs.update.update_con.Goals as goal

pub returns-clause-updated : goal.returns-clause-updated
returns-clause-updated g c r s t = update_con_does c.args.con.now c.args.edition c.args.certified c.args.note.now r s t _ _ c.run.result (rw (c.params-to_sql.ensures, c.params-to_sql-2.ensures, c.params-to_sql-3.ensures, c.params-to_sql-4.ensures) at c.run.ensures.ran)
