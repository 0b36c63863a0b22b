use Rattle.std.proofs.Common.{◌≤◌, length, sym, ◌∙◌, arith}
use Rattle.std.proofs.lemmas.Bool.{eqb-false}
use Rattle.sqlite.specs.Values.{bound}
use Rattle.tally_store_schema.proofs.NumberedLemmas.{numbered_does}
use Rattle.tally_store_schema.proofs.numbered.insert_few.Goals as goal

pub returns-clause-inserted : goal.returns-clause-inserted
returns-clause-inserted g c =
    let some : 1 ≤ length c.args.numbers.now = omega (arith, eqb-false (length c.args.numbers.now) 0 (sym c.is_empty.ensures ∙ c.if-is_empty.false)) in
    numbered_does c.args.table (bound c.args.front.now) c.args.first c.args.numbers.now _ _ _ _ c.run.result c.requires.front some c.requires.few c.rows_text.ensures c.values_of-values.ensures c.run.ensures.ran
