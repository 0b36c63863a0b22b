-- What an INSERT of several rows does, for any table of a schema with no foreign keys.
use Rattle.std.proofs.Common.{◌≡◌, ◌≢◌, ℕ, ◌/◌, List, [], ◌∷◌, ◌++◌, length, drop, map, true, Option, None, Ok, refl, sym, ap, ap₂, subst, ◌∙◌}
use Rattle.std.specs.Prelude.{if◌then◌else◌}
use Rattle.std.specs.List.{AllByRecursion}
use Rattle.std.specs.List.Sorted.{IsPermutation}
use Rattle.std.proofs.lemmas.List.Sorted.{IsPermutation-refl, IsPermutation-sym, IsPermutation-trans, IsPermutation-middle, IsPermutation-map, IsPermutation-append_right}
use Rattle.std.proofs.lemmas.Bool.{and_parts, not-true}
use Rattle.sqlite_value.specs.declared.value.Value.TheVariants.{Null, Int}
use Rattle.sqlite_value.specs.Order.{Row}
use Rattle.sqlite_trees.specs.Tree.{Trees, put_row}
use Rattle.sqlite_sql.specs.Term.{Term}
use Rattle.sqlite_schema.specs.declared.command.Command.TheVariants.{Insert}
use Rattle.sqlite_schema.specs.declared.command.Source.TheVariants.{Values}
use Rattle.sqlite_schema.specs.declared.schema.Schema.{Schema}
use Rattle.sqlite_schema.specs.declared.schema.Table.{Table}
use Rattle.sqlite_rules.specs.Edit.{edit_of, next_rowid, numbered, IsNoIndex, put_all, are_fresh, taken_by}
use Rattle.sqlite_rules.specs.Cast.{cast_all, cast_row}
use Rattle.sqlite_rules.specs.declared.error.Rowids.TheVariants.{Chosen, Above}
use Rattle.sqlite.specs.declared.run.Mode.{Mode}
use Rattle.sqlite.specs.Effect.{Database, value_rows}
use Rattle.sqlite.specs.Rows.{Written, Edited, Outcome, count_of}
use Rattle.sqlite.specs.Does.{Tally, Does}
use Rattle.sqlite.proofs.Callers.{one_step}
use Rattle.tally_store_schema.specs.Rows.{cells, HaveDistinctRowids}
use Rattle.tally_store_schema.proofs.RowidLemmas.{distinct_put}
use Rattle.tally_store_schema.proofs.StatementLemmas.{cast_null, succeeded, same_value, put_adds}
use Rattle.tally_store_schema.proofs.InsertLemmas.{IsOrdinary, ungated}

-- the rows are more in their table, and every other table is as it was
pub record AddsAll (schema : Schema) (table : Table) (rows : List Row) (old new : Trees) : Type 0 where
  pub added : IsPermutation (rows ++ cells (old table.tree)) (cells (new table.tree))
  pub keyed : HaveDistinctRowids (old table.tree) → HaveDistinctRowids (new table.tree)
  pub others : (t : ℕ) → t ≢ table.tree → IsNoIndex schema t → new t ≡ old t

-- rows whose rowids are to be chosen
abbrev pub unnumbered : List Row → List Row
unnumbered = map (λ r. Null ∷ r)

put_many : (rows db : List Row) → are_fresh db (numbered Chosen db (unnumbered rows)) ≡ true
    → IsPermutation (rows ++ cells db) (cells (put_all db (numbered Chosen db (unnumbered rows)))) × (HaveDistinctRowids db → HaveDistinctRowids (put_all db (numbered Chosen db (unnumbered rows))))
put_many [] db fresh = (IsPermutation-refl _, λ apart. apart)
put_many (r ∷ rows) db fresh =
    let new : Row = Int (next_rowid db) ∷ r in
    let next : List Row = put_row new db in
    let parts = and_parts _ _ fresh in
    let free = not-true _ parts.0 in
    let later = put_many rows next parts.1 in
    let one : IsPermutation (r ∷ cells db) (cells next) = IsPermutation-map (drop 1) (new ∷ db) next (put_adds new db free) in
    let turned : IsPermutation ((r ∷ rows) ++ cells db) (rows ++ r ∷ cells db) = IsPermutation-sym _ _ (IsPermutation-middle rows r (cells db)) in
    (IsPermutation-trans _ _ _ turned (IsPermutation-trans _ _ _ (IsPermutation-append_right rows _ _ one) later.0), λ apart. later.1 (distinct_put new db refl free apart))

cast_same : (table : Table) (rows : List Row) → AllByRecursion (λ r. cast_all table.columns r ≡ r) rows → map (λ s. cast_row table (drop 0 s)) (unnumbered rows) ≡ unnumbered rows
cast_same table [] h = refl
cast_same table (r ∷ rows) h = ap₂ (λ (a : Row) (b : List Row). a ∷ b) (ap₂ (λ i (c : Row). i ∷ c) cast_null h.0) (cast_same table rows h.1)

module _ (schema : Schema) (at : ℕ) (table : Table) (o : IsOrdinary schema at table) (terms : List Term) (width : ℕ) (params : Row) (rows : List Row)
    (is : value_rows params width (length terms / width) terms ≡ unnumbered rows) (casts : AllByRecursion (λ r. cast_all table.columns r ≡ r) rows) where
  pub inserts_many : (limit : Option ℕ) (mode : Mode) (text : List ℕ) (trees : Trees) (tally : Tally) (new : Database)
      → Does limit mode params (record { schema = schema; trees = trees }) text None (Insert at (Values terms width)) (Ok (tally, new)) → (new.schema ≡ schema) × AddsAll schema table rows trees new.trees
  inserts_many limit mode text trees tally new h =
      let done = succeeded (rw o.found at h) in
      let now = ap (λ (p : Tally × Database). p.1) (same_value (succeeded (succeeded done.2).2).2) in
      let given = succeeded done.1 in
      let counter = succeeded given.2 in
      let written = succeeded counter.2 in
      let counted = succeeded written.2 in
      let edit = edit_of trees table [] Chosen 0 given.0 in
      let wrote : Edited schema mode.keys trees edit (Ok written.0) =
      subst (λ b. Edited schema mode.keys trees (edit_of trees table [] (if b then Above (count_of counter.0) else Chosen) 0 given.0) (Ok written.0)) o.uncounted written.1 in
      let kept : ◌≡◌ {A = Outcome Trees} (Ok counted.0) (Ok written.0) = ungated _ _ table.is_counted _ o.uncounted counted.1 in
      let last : done.0.trees ≡ written.0 = ap (λ (it : Written). it.trees) (same_value counted.2) ∙ same_value kept in
      let same : new.trees ≡ written.0 = ap (λ (d : Database). d.trees) now ∙ last in
      let sources : given.0 ≡ unnumbered rows = given.1.1 ∙ ap (λ p. value_rows p width (length terms / width) terms) (o.unstamped params) ∙ is in
      let step = one_step schema mode.keys trees written.0 edit (o.alone mode.keys (taken_by trees edit) edit.news) wrote in
      let news : edit.news ≡ numbered Chosen (trees table.tree) (unnumbered rows) =
      ap (λ all. (edit_of trees table [] Chosen 0 all).news) sources ∙ ap (numbered Chosen (trees table.tree)) (cast_same table rows casts) in
      let put : written.0 table.tree ≡ put_all (trees table.tree) (numbered Chosen (trees table.tree) (unnumbered rows)) = step.rows ∙ ap (put_all (trees table.tree)) news in
      let fresh : are_fresh (trees table.tree) (numbered Chosen (trees table.tree) (unnumbered rows)) ≡ true = subst (λ all. are_fresh (trees table.tree) all ≡ true) news step.fresh in
      let many = put_many rows (trees table.tree) fresh in
      let added : AddsAll schema table rows trees written.0 = record {
        added = subst (λ l. IsPermutation (rows ++ cells (trees table.tree)) (cells l)) (sym put) many.0;
        keyed = λ apart. subst HaveDistinctRowids (sym put) (many.1 apart);
        others = step.others;
      } in
      (ap (λ (d : Database). d.schema) now, subst (AddsAll schema table rows trees) (sym same) added)
