use Rattle.std.proofs.Common.{◌∙◌, ap, of_z, pos, refl, subst, to_z, w64}
use Rattle.std.proofs.lemmas.Int.{to_z-of_z}
use Rattle.std.specs.Prelude.{◌∷◌, ⊤}
use Rattle.std.specs.List.Sorted.{IsPermutation}
use Rattle.sqlite.specs.Held.{state}
use Rattle.tally_store_schema.specs.Office.{item_cells, rows_in}
use Rattle.tally_store_schema.specs.declared.table.KeyedTable.TheVariants.{Totals}
use Rattle.tally_store_schema.proofs.StaysLemmas.{stays-same}
use Rattle.tally_store_entries.proofs.constituencies.move_sum.Goals as goal

pub returns-then-by-eq0-clause-stays : goal.returns-then-by-eq0-clause-stays
returns-then-by-eq0-clause-stays g c = stays-same (λ _. ⊤) g.S.Store c.args.tx.now

pub returns-then-by-eq0-clause-moved : goal.returns-then-by-eq0-clause-moved
returns-then-by-eq0-clause-moved g c clean inside before rest same none held =
    let old = state g.S.Store c.args.tx.now.conn.now in
    record {
      inside = inside;
      rows = subst (λ n. IsPermutation (item_cells c.args.con.now c.args.item n ∷ rest) (rows_in Totals old)) (same c.if-by-eq0.true) held;
      others = λ u apart. refl;
      setup = refl;
    }

pub returns-in_default-clause-stays : goal.returns-in_default-clause-stays
returns-in_default-clause-stays g c = stays-same (λ _. ⊤) g.S.Store c.args.tx.now

pub returns-clause-moved : goal.returns-clause-moved
returns-clause-moved g c clean inside before rest same none held =
    c.update_total.ensures.updated c.args.n (ap (λ z. to_z w64 (of_z w64 z)) c.in-Ok.ensures.1 ∙ to_z-of_z w64 (pos c.args.n) c.in-Ok.ensures.0) clean inside before rest none held
