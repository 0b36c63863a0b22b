use Rattle.tally_store_schema.proofs.TextLemmas.{makes_past, adds_past}
use Rattle.tally_store_schema.proofs.making.create_past.Goals as goal

pub returns-clause-made : goal.returns-clause-made
returns-clause-made g c = makes_past _ _ c.run.result (rw c.create_text.ensures at c.run.ensures.ran)

pub returns-clause-past : goal.returns-clause-past
returns-clause-past g c = adds_past _ _ c.run.result (rw c.create_text.ensures at c.run.ensures.ran)
