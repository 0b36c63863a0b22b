-- What a DELETE of all rows that pass a test does.
use Rattle.std.proofs.Common.{◌≡◌, ◌≢◌, ℕ, ℤ, List, [], ◌∷◌, map, drop, filter, Bool, true, false, not, ◌||◌, cond, Option, None, Ok, refl, sym, ap, subst, ◌∙◌}
use Rattle.std.specs.List.{list_any}
use Rattle.std.specs.Ordering.{is_eq}
use Rattle.std.specs.Cmp.{both_ways}
use Rattle.std.specs.List.Sorted.{IsPermutation}
use Rattle.std.proofs.lemmas.List.Sorted.{list_any-IsPermutation}
use Rattle.sqlite_value.specs.declared.value.Value.TheVariants.{Null, Int}
use Rattle.sqlite_value.specs.Order.{Row, value_cmp}
use Rattle.sqlite_trees.specs.Tree.{Trees, rowid, has_rowid, without_rowid}
use Rattle.sqlite_sql.specs.Term.{Term, col}
use Rattle.sqlite_sql.specs.Program.{overlay}
use Rattle.sqlite_schema.specs.declared.command.Command.TheVariants.{Delete}
use Rattle.sqlite_schema.specs.declared.schema.Schema.{Schema}
use Rattle.sqlite_schema.specs.declared.schema.Table.{Table}
use Rattle.sqlite_rules.specs.Edit.{edit_of, IsNoIndex, without_all, taken_by, id_in}
use Rattle.sqlite_rules.specs.Calls.{ids_of}
use Rattle.sqlite_rules.specs.Lists.{Has}
use Rattle.sqlite_rules.proofs.TableLemmas.{int_is}
use Rattle.sqlite_rules.specs.declared.error.Rowids.TheVariants.{Given}
use Rattle.sqlite.specs.declared.run.Mode.{Mode}
use Rattle.sqlite.specs.Effect.{Database}
use Rattle.sqlite.specs.Rows.{Written}
use Rattle.sqlite.specs.Does.{Tally, Does}
use Rattle.sqlite.proofs.Callers.{one_step}
use Rattle.sqlite_keyed.proofs.ListLemmas.{filter-map}
use Rattle.tally_store_schema.specs.Rows.{cells, without, HaveDistinctRowids}
use Rattle.tally_store_schema.proofs.StatementLemmas.{succeeded, same_value, kept_by}
use Rattle.std.proofs.lemmas.Cmp.{tied_itself}
use Rattle.sqlite_value.proofs.OrderLemmas.{value_cmp_total}
use Rattle.sqlite_rules.proofs.ListLemmas.{some_has, some_from, has_filtered}
use Rattle.tally_store_schema.proofs.RowidLemmas.{distinct_filter, same_rowid_same_row, all_int}
use Rattle.tally_store_schema.proofs.InsertLemmas.{IsOrdinary}
use Rattle.tally_store_schema.proofs.AnswerLemmas.{from_table, passes_all, shows, answer_is}
use Rattle.tally_store_schema.proofs.UpdateLemmas.{filter_same_on}

-- the rows with one of these rowids
abbrev is_deleted : List ℤ → Row → Bool
is_deleted ids x = list_any (λ id. has_rowid id x) ids

filter_all : (rows : List Row) → rows ≡ filter (λ x. not false) rows
filter_all [] = refl
filter_all (x ∷ rows) = ap (λ l. x ∷ l) (filter_all rows)

filter_twice : (p q : Row → Bool) (rows : List Row) → filter (λ x. not (q x)) (filter (λ x. not (p x)) rows) ≡ filter (λ x. not (p x || q x)) rows
filter_twice p q [] = refl
filter_twice p q (x ∷ rows) = go (p x) (filter_twice p q rows)
  where
    go : (b : Bool) → filter (λ x. not (q x)) (filter (λ x. not (p x)) rows) ≡ filter (λ x. not (p x || q x)) rows
        → filter (λ x. not (q x)) (cond (not b) (x ∷ filter (λ x. not (p x)) rows) (filter (λ x. not (p x)) rows)) ≡ cond (not (b || q x)) (x ∷ filter (λ x. not (p x || q x)) rows) (filter (λ x. not (p x || q x)) rows)
    go true later = later
    go false later = ap (λ l. cond (not (q x)) (x ∷ l) l) later

without_all_is : (ids : List ℤ) (rows : List Row) → without_all rows ids ≡ filter (λ x. not (is_deleted ids x)) rows
without_all_is [] rows = filter_all rows
without_all_is (id ∷ ids) rows = without_all_is ids (without_rowid id rows) ∙ filter_twice (has_rowid id) (is_deleted ids) rows

any_map : {A B : Type 0} (p : B → Bool) (f : A → B) (xs : List A) → list_any p (map f xs) ≡ list_any (λ x. p (f x)) xs
any_map p f [] = refl
any_map p f (x ∷ xs) = ap (λ b. p (f x) || b) (any_map p f xs)

-- a rowid is an integer
own_rowid : (rows : List Row) (x : Row) → HaveDistinctRowids rows → Has rows x → rowid x ≡ Int (id_in (rowid x))
own_rowid rows x apart h = int_is (rowid x) (all_int rows x apart h)

module _ (where_all : List Term) (params : Row) (p : Row → Bool) (tests : (x : Row) → passes_all params where_all x ≡ p (drop 1 x)) (rows answered : List Row) (apart : HaveDistinctRowids rows)
    (perm : IsPermutation (map (shows params (col 1 0 ∷ [])) (filter (passes_all params where_all) rows)) answered) where
  passing : List Row
  passing = filter (passes_all params where_all) rows

  is_deleted_as : (x : Row) → is_deleted (ids_of answered) x ≡ list_any (λ y. has_rowid (id_in (rowid y)) x) passing
  unfolding passing
  is_deleted_as x = any_map (λ id. has_rowid id x) (λ r. id_in (rowid r)) answered
      ∙ sym (list_any-IsPermutation (λ r. has_rowid (id_in (rowid r)) x) _ _ perm)
      ∙ any_map (λ r. has_rowid (id_in (rowid r)) x) (shows params (col 1 0 ∷ [])) passing

  -- of the rows of the table those are deleted that pass
  is_deleted_is : (x : Row) → Has rows x → is_deleted (ids_of answered) x ≡ p (drop 1 x)
  unfolding passing
  is_deleted_is x member = is_deleted_as x ∙ both_ways _ _
      (λ some.
      let y = some_has (λ y. has_rowid (id_in (rowid y)) x) passing some in
      let there = has_filtered (passes_all params where_all) rows y.0 y.1 in
      let same : x ≡ y.0 = same_rowid_same_row rows x y.0 apart member there.0 (subst (λ v. is_eq (value_cmp (rowid x) v) ≡ true) (sym (own_rowid rows y.0 apart there.0)) y.2) in
      subst (λ z. p (drop 1 z) ≡ true) (sym same) (sym (tests y.0) ∙ there.1))
      (λ is.
      let with_key = kept_by (passes_all params where_all) rows x member (tests x ∙ is) in
      some_from (λ y. has_rowid (id_in (rowid y)) x) passing x with_key (subst (λ v. is_eq (value_cmp v (Int (id_in (rowid x)))) ≡ true) (sym (own_rowid rows x apart member)) (ap is_eq (tied_itself value_cmp_total (Int (id_in (rowid x)))))))

  pub left_are : cells (without_all rows (ids_of answered)) ≡ without p (cells rows)
  left_are = ap cells (without_all_is (ids_of answered) rows ∙ filter_same_on _ _ rows (λ x member. ap not (is_deleted_is x member))) ∙ sym (filter-map (λ c. not (p c)) (drop 1) rows)

  pub left_distinct : HaveDistinctRowids (without_all rows (ids_of answered))
  left_distinct = subst HaveDistinctRowids (sym (without_all_is (ids_of answered) rows)) (distinct_filter _ rows apart)

-- the rows that pass are gone, and every other table is as it was
pub record Removes (schema : Schema) (table : Table) (p : Row → Bool) (old new : Trees) : Type 0 where
  pub left : cells (new table.tree) ≡ without p (cells (old table.tree))
  pub keyed : HaveDistinctRowids (new table.tree)
  pub others : (t : ℕ) → t ≢ table.tree → IsNoIndex schema t → new t ≡ old t

module _ (schema : Schema) (place : ℕ) (table : Table) (o : IsOrdinary schema place table) (where_all : List Term) (params : Row) (p : Row → Bool) (tests : (x : Row) → passes_all params where_all x ≡ p (drop 1 x)) where
  pub deletes_all : (limit : Option ℕ) (mode : Mode) (text : List ℕ) (trees : Trees) (tally : Tally) (new : Database) → overlay trees [] table.tree ≡ trees table.tree → HaveDistinctRowids (trees table.tree)
      → Does limit mode params (record { schema = schema; trees = trees }) text None (Delete place (record { lets = []; body = from_table table.tree where_all (col 1 0 ∷ []) [] })) (Ok (tally, new))
      → (new.schema ≡ schema) × Removes schema table p trees new.trees
  deletes_all limit mode text trees tally new plain apart h =
      let done = succeeded (rw o.found at h) in
      let now = ap (λ (q : Tally × Database). q.1) (same_value (succeeded (succeeded done.2).2).2) in
      let found = succeeded done.1 in
      let written = succeeded found.2 in
      let perm = answer_is params where_all table.tree (col 1 0 ∷ []) [] trees found.0 (found.1.answer Null) plain in
      let edit = edit_of trees table (ids_of found.0) Given 0 [] in
      let applied = one_step schema mode.keys trees written.0 edit (o.alone mode.keys (taken_by trees edit) edit.news) written.1 in
      let last : done.0.trees ≡ written.0 = ap (λ (it : Written). it.trees) (same_value written.2) in
      let same : new.trees ≡ written.0 = ap (λ (d : Database). d.trees) now ∙ last in (
        ap (λ (d : Database). d.schema) now,
        subst (Removes schema table p trees) (sym same) (record {
          left = ap cells applied.rows ∙ left_are where_all params p tests (trees table.tree) found.0 apart perm;
          keyed = subst HaveDistinctRowids (sym applied.rows) (left_distinct where_all params p tests (trees table.tree) found.0 apart perm);
          others = applied.others;
        }),
      )
