use Rattle.tally_store_schema.proofs.TextLemmas.{makes_next}
use Rattle.tally_store_schema.proofs.making.create_next.Goals as goal

pub returns-clause-made : goal.returns-clause-made
returns-clause-made g c = makes_next c.args.place c.requires _ _ c.run.result (rw c.create_text.ensures at c.run.ensures.ran)
