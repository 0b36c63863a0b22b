use Rattle.std.proofs.Common.{[], ◌∷◌, ap₂}
use Rattle.sqlite.specs.Values.{bound_value}
use Rattle.tally_store_schema.proofs.numbered.insert_past.Goals as goal

pub insert_rows-requires-clause-front : goal.insert_rows-requires-clause-front
insert_rows-requires-clause-front g c = (c.args.con.now, c.args.edition, ap₂ (λ v w. bound_value v ∷ bound_value w ∷ []) c.params-to_sql.ensures c.params-to_sql-2.ensures)

pub returns-clause-inserted : goal.returns-clause-inserted
returns-clause-inserted g c = rw (c.params-to_sql.ensures, c.params-to_sql-2.ensures) at c.insert_rows.ensures.inserted
