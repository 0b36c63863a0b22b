use Rattle.std.proofs.Common.{◌≡◌, pos, ap, ◌∙◌, w64, FitsSigned, rules}
use Rattle.std.proofs.lemmas.Int.{to_z-of_z}
use Rattle.sqlite_value.specs.declared.value.Value.TheVariants.{Int}
use Rattle.sqlite_value.specs.Value.{owned}
use Rattle.tally_store_schema.proofs.StatementTextLemmas.{update_total_does}
use Rattle.tally_store_schema.proofs.update.update_total.Goals as goal

pub returns-clause-updated : goal.returns-clause-updated
returns-clause-updated g c m is =
    let fits : FitsSigned w64 c.args.n = search rules in
    let number : owned c.params-to_sql-3.result ≡ Int (pos m) = c.params-to_sql-3.ensures ∙ ap Int (to_z-of_z w64 c.args.n fits ∙ is) in
    update_total_does c.args.con.now c.args.item m _ _ c.run.result (rw (c.params-to_sql.ensures, c.params-to_sql-2.ensures, number) at c.run.ensures.ran)
