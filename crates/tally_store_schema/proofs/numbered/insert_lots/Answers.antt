use Rattle.std.proofs.Common.{[], ◌∷◌, ap}
use Rattle.sqlite.specs.Values.{bound_value}
use Rattle.tally_store_schema.proofs.numbered.insert_lots.Goals as goal

pub insert_rows-requires-clause-front : goal.insert_rows-requires-clause-front
insert_rows-requires-clause-front g c = (c.args.con.now, ap (λ v. bound_value v ∷ []) c.params-to_sql.ensures)

pub returns-clause-inserted : goal.returns-clause-inserted
returns-clause-inserted g c = rw c.params-to_sql.ensures at c.insert_rows.ensures.inserted
