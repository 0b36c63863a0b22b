use Rattle.tally_store_schema.proofs.SetupLemmas.{insert_setup_does}
use Rattle.tally_store_schema.proofs.setup.insert_setup.Goals as goal

pub returns-clause-inserted : goal.returns-clause-inserted
returns-clause-inserted g c = insert_setup_does c.args.version c.args.text.now _ _ c.run.result (rw (c.params-to_sql.ensures, c.params-to_sql-2.ensures) at c.run.ensures.ran)
