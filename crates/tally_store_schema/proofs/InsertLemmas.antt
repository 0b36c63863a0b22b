-- What an INSERT of one row does, for any table of a schema with no foreign keys.
use Rattle.std.proofs.Common.{◌≡◌, ◌≢◌, ℕ, ◌/◌, List, [], ◌∷◌, length, drop, slice_get, Bool, true, false, Option, Some, None, Ok, refl, sym, ap, subst, ◌∙◌, true≢false}
use Rattle.std.specs.Prelude.{if◌then◌else◌, MatchBool}
use Rattle.std.specs.List.Sorted.{IsPermutation}
use Rattle.std.proofs.lemmas.List.Sorted.{IsPermutation-map}
use Rattle.std.proofs.lemmas.Bool.{and_parts, not-true}
use Rattle.sqlite_value.specs.declared.value.Value.{Value}
use Rattle.sqlite_value.specs.declared.value.Value.TheVariants.{Null, Int}
use Rattle.sqlite_value.specs.Order.{Row}
use Rattle.sqlite_trees.specs.Tree.{Trees, put_row}
use Rattle.tally_store_schema.proofs.RowidLemmas.{distinct_put}
use Rattle.sqlite_sql.specs.Term.{Term}
use Rattle.sqlite_schema.specs.declared.command.Source.TheVariants.{Values}
use Rattle.sqlite_schema.specs.declared.command.Command.TheVariants.{Insert}
use Rattle.sqlite_schema.specs.declared.schema.Schema.{Schema}
use Rattle.sqlite_schema.specs.declared.schema.Table.{Table}
use Rattle.sqlite_schema.specs.declared.schema.Keys.{Keys}
use Rattle.sqlite_schema.specs.declared.schema.Kind.TheVariants.{Integer}
use Rattle.sqlite_rules.specs.Edit.{edit_of, with_rowid, next_rowid, Applies, IsNoIndex, put_all, are_fresh, is_taken, taken_by}
use Rattle.sqlite_rules.specs.Action.{works}
use Rattle.sqlite_rules.specs.Cast.{cast, cast_all}
use Rattle.sqlite_rules.specs.declared.error.Rowids.TheVariants.{Chosen, Above}
use Rattle.sqlite.specs.declared.run.Mode.{Mode}
use Rattle.sqlite.specs.Effect.{Database, value_rows}
use Rattle.sqlite.specs.Rows.{Written, stamped, Edited, Outcome, count_of}
use Rattle.sqlite.specs.Does.{Tally, Does}
use Rattle.sqlite.proofs.Callers.{one_step}
use Rattle.tally_store_schema.specs.Rows.{cells, HaveDistinctRowids}
use Rattle.tally_store_schema.proofs.StatementLemmas.{cast_null, succeeded, same_value, put_adds}

-- a table that counts no rowids, reads no clock and is in no foreign key
pub record IsOrdinary (schema : Schema) (at : ℕ) (table : Table) : Type 0 where
  pub found : slice_get schema.tables at ≡ Some table
  pub uncounted : table.is_counted ≡ false
  pub unstamped : (params : Row) → stamped table params ≡ params
  pub alone : (keys : Keys) (olds news : List Row) → works schema keys 0 table.tree olds news ≡ []

-- the row is one more in its table, and every other table is as it was
pub record Adds (schema : Schema) (table : Table) (row : Row) (old new : Trees) : Type 0 where
  pub added : IsPermutation (row ∷ cells (old table.tree)) (cells (new table.tree))
  pub keyed : HaveDistinctRowids (old table.tree) → HaveDistinctRowids (new table.tree)
  pub others : (t : ℕ) → t ≢ table.tree → IsNoIndex schema t → new t ≡ old t

-- the row is put with its rowid, which no row had, and every other table is as it was
pub record Stores (schema : Schema) (table : Table) (row : Row) (old new : Trees) : Type 0 where
  pub stored : new table.tree ≡ put_row row (old table.tree)
  pub free : is_taken (old table.tree) row ≡ false
  pub others : (t : ℕ) → t ≢ table.tree → IsNoIndex schema t → new t ≡ old t

-- one row, whose rowid is chosen where none was given
stored_by : (schema : Schema) (keys : Keys) (db next : Trees) (table : Table) (rows : List Row) (id : Value) (row : Row) → rows ≡ (id ∷ row) ∷ [] → cast Integer id ≡ id → cast_all table.columns row ≡ row
    → Applies schema keys db (edit_of db table [] Chosen 0 rows) next → Stores schema table (with_rowid Chosen (db table.tree) (id ∷ row)) db next
stored_by schema keys db next table rows id row is plain casts h =
    let new : Row = with_rowid Chosen (db table.tree) (id ∷ row) in
    let news : (edit_of db table [] Chosen 0 rows).news ≡ new ∷ [] = ap (λ all. (edit_of db table [] Chosen 0 all).news) is ∙ rw (casts, plain) in
    let put : next table.tree ≡ put_row new (db table.tree) = h.rows ∙ ap (put_all (db table.tree)) news in
    let fresh : are_fresh (db table.tree) (new ∷ []) ≡ true = subst (λ all. are_fresh (db table.tree) all ≡ true) news h.fresh in
    record { stored = put; free = not-true _ (and_parts _ _ fresh).0; others = h.others }

-- a row whose rowid was chosen is one more
chosen_adds : (schema : Schema) (table : Table) (row : Row) (db next : Trees) → Stores schema table (Int (next_rowid (db table.tree)) ∷ row) db next → Adds schema table row db next
chosen_adds schema table row db next put =
    let new : Row = Int (next_rowid (db table.tree)) ∷ row in
    record {
      added = subst (λ l. IsPermutation (row ∷ cells (db table.tree)) (cells l)) (sym put.stored) (IsPermutation-map (drop 1) (new ∷ db table.tree) (put_row new (db table.tree)) (put_adds new (db table.tree) put.free));
      keyed = λ apart. subst HaveDistinctRowids (sym put.stored) (distinct_put new (db table.tree) refl put.free apart);
      others = put.others;
    }

-- what holds where a condition does not
pub ungated : (P Q : Type 0) (b c : Bool) → b ≡ false → MatchBool (if b then c else false) P Q → Q
ungated P Q true c is h = absurd (true≢false is)
ungated P Q false c is h = h

module _ (schema : Schema) (at : ℕ) (table : Table) (o : IsOrdinary schema at table) (terms : List Term) (width : ℕ) (params : Row) (id : Value) (row : Row)
    (is : value_rows params width (length terms / width) terms ≡ (id ∷ row) ∷ []) (plain : cast Integer id ≡ id) (casts : cast_all table.columns row ≡ row) where
  pub stores_one : (limit : Option ℕ) (mode : Mode) (text : List ℕ) (trees : Trees) (tally : Tally) (new : Database)
      → Does limit mode params (record { schema = schema; trees = trees }) text None (Insert at (Values terms width)) (Ok (tally, new)) → (new.schema ≡ schema) × Stores schema table (with_rowid Chosen (trees table.tree) (id ∷ row)) trees new.trees
  stores_one limit mode text trees tally new h =
      let done = succeeded (rw o.found at h) in
      let now = ap (λ (p : Tally × Database). p.1) (same_value (succeeded (succeeded done.2).2).2) in
      let given = succeeded done.1 in
      let counter = succeeded given.2 in
      let written = succeeded counter.2 in
      let counted = succeeded written.2 in
      let edit = edit_of trees table [] Chosen 0 given.0 in
      let wrote : Edited schema mode.keys trees edit (Ok written.0) =
      subst (λ b. Edited schema mode.keys trees (edit_of trees table [] (if b then Above (count_of counter.0) else Chosen) 0 given.0) (Ok written.0)) o.uncounted written.1 in
      let kept : ◌≡◌ {A = Outcome Trees} (Ok counted.0) (Ok written.0) = ungated _ _ table.is_counted _ o.uncounted counted.1 in
      let last : done.0.trees ≡ written.0 = ap (λ (it : Written). it.trees) (same_value counted.2) ∙ same_value kept in
      let same : new.trees ≡ written.0 = ap (λ (d : Database). d.trees) now ∙ last in
      let rows : given.0 ≡ (id ∷ row) ∷ [] = given.1.1 ∙ ap (λ p. value_rows p width (length terms / width) terms) (o.unstamped params) ∙ is in
      let step = one_step schema mode.keys trees written.0 edit (o.alone mode.keys (taken_by trees edit) edit.news) wrote in
      (ap (λ (d : Database). d.schema) now, subst (Stores schema table (with_rowid Chosen (trees table.tree) (id ∷ row)) trees) (sym same) (stored_by schema mode.keys trees written.0 table given.0 id row rows plain casts step))

module _ (schema : Schema) (at : ℕ) (table : Table) (o : IsOrdinary schema at table) (terms : List Term) (width : ℕ) (params row : Row)
    (is : value_rows params width (length terms / width) terms ≡ (Null ∷ row) ∷ []) (casts : cast_all table.columns row ≡ row) where
  pub inserts_one : (limit : Option ℕ) (mode : Mode) (text : List ℕ) (trees : Trees) (tally : Tally) (new : Database)
      → Does limit mode params (record { schema = schema; trees = trees }) text None (Insert at (Values terms width)) (Ok (tally, new)) → (new.schema ≡ schema) × Adds schema table row trees new.trees
  inserts_one limit mode text trees tally new h =
      let put = stores_one schema at table o terms width params Null row is cast_null casts limit mode text trees tally new h in
      (put.0, chosen_adds schema table row trees new.trees put.1)
