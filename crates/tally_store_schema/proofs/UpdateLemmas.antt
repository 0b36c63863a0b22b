-- What an UPDATE of one row by its key does.
use Rattle.std.proofs.Common.{◌≡◌, ◌≢◌, inl, inr, ℕ, suc, ℤ, List, [], ◌∷◌, map, drop, filter, Bool, true, false, not, ◌&&◌, Option, Some, None, Ok, refl, sym, ap, subst, subst₂, ◌∙◌}
use Rattle.std.specs.List.Sorted.{IsPermutation}
use Rattle.std.proofs.lemmas.List.Sorted.{IsPermutation-map}
use Rattle.std.proofs.lemmas.Bool.{and_parts, not-true}
use Rattle.std.specs.Cmp.{both_ways}
use Rattle.std.specs.Ordering.{is_eq}
use Rattle.sqlite_value.specs.declared.value.Value.{Value}
use Rattle.sqlite_value.specs.declared.value.Value.TheVariants.{Null, Int, Real, Text, Blob}
use Rattle.sqlite_value.specs.declared.keys.Collation.TheVariants.{Binary}
use Rattle.sqlite_value.specs.Order.{Row, column, value_cmp}
use Rattle.sqlite_value.proofs.OrderLemmas.{value_cmp_total}
use Rattle.std.proofs.lemmas.Cmp.{tied_itself}
use Rattle.sqlite_trees.specs.Tree.{Trees, put_row, rowid, has_rowid, without_rowid}
use Rattle.tally_store_schema.proofs.RowidLemmas.{distinct_put, distinct_filter, same_rowid_same_row, all_int}
use Rattle.sqlite_sql.specs.declared.ops.BinaryOp.TheVariants.{Compare}
use Rattle.sqlite_sql.specs.declared.ops.CompareOp.TheVariants.{Eq}
use Rattle.sqlite_sql.specs.Ops.{binary, is_true, from_truth}
use Rattle.sqlite_sql.specs.Term.{Term, col, op2}
use Rattle.sqlite_sql.specs.Program.{overlay}
use Rattle.sqlite_schema.specs.declared.command.Command.TheVariants.{Update}
use Rattle.sqlite_schema.specs.declared.schema.Schema.{Schema}
use Rattle.sqlite_schema.specs.declared.schema.Table.{Table}
use Rattle.sqlite_schema.specs.declared.schema.Keys.{Keys}
use Rattle.sqlite_rules.specs.Edit.{edit_of, Applies, IsNoIndex, put_all, are_fresh, is_taken, taken_by, id_in, left_by, without_all}
use Rattle.sqlite_rules.specs.Cast.{cast_all}
use Rattle.sqlite_rules.specs.Calls.{ids_of}
use Rattle.sqlite_rules.specs.Lists.{Has}
use Rattle.sqlite_rules.proofs.ListLemmas.{has_filtered}
use Rattle.sqlite_rules.proofs.TableLemmas.{int_is}
use Rattle.sqlite_rules.specs.declared.error.Rowids.TheVariants.{Given}
use Rattle.sqlite.specs.declared.run.Mode.{Mode}
use Rattle.sqlite.specs.Effect.{Database}
use Rattle.sqlite.specs.Rows.{Written}
use Rattle.sqlite.specs.Does.{Tally, Does}
use Rattle.sqlite.proofs.Callers.{one_step, one_permutation}
use Rattle.sqlite_keyed.proofs.ListLemmas.{filter-map}
use Rattle.tally_store_schema.specs.Rows.{cells, has_key, without, HaveDistinctRowids}
use Rattle.tally_store_schema.proofs.StatementLemmas.{cast_int, succeeded, same_value, put_adds, kept_by}
use Rattle.tally_store_schema.proofs.InsertLemmas.{IsOrdinary}
use Rattle.tally_store_schema.proofs.AnswerLemmas.{from_table, passes_all, shows, answer_is}

-- WHERE the first column is the first parameter
abbrev pub by_text : List Term
by_text = op2 (Compare Eq Binary) (col 1 1) (col 0 0) ∷ []

truth_back : (b : Bool) → is_true (from_truth (Some b)) ≡ b
truth_back true = refl
truth_back false = refl

-- SQL's = with a text
pub equals_text : (v : Value) (k : List ℕ) → is_true (binary (Compare Eq Binary) v (Text k)) ≡ is_eq (value_cmp v (Text k))
unfolding binary value_cmp
equals_text Null k = refl
equals_text (Int n) k = truth_back _
equals_text (Real x) k = truth_back _
equals_text (Text t) k = truth_back _
equals_text (Blob b) k = truth_back _

pub next_column : (r : Row) (n : ℕ) → column r (suc n) ≡ column (drop 1 r) n
next_column [] n = refl
next_column (v ∷ r) n = refl

pub and_true_right : (b : Bool) → (b && true) ≡ b
and_true_right true = refl
and_true_right false = refl

pub by_text_is : (k : List ℕ) (more r : Row) → passes_all (Text k ∷ more) by_text r ≡ has_key k (drop 1 r)
by_text_is k more r = and_true_right _ ∙ equals_text (column r 1) k ∙ ap (λ v. is_eq (value_cmp v (Text k))) (next_column r 0)

-- two tests that agree on the members keep the same ones
pub filter_same_on : {X : Type 0} (p q : X → Bool) (xs : List X) → ((x : X) → Has xs x → p x ≡ q x) → filter p xs ≡ filter q xs
filter_same_on p q [] same = refl
filter_same_on p q (x ∷ xs) same = rw (same x (inl refl), filter_same_on p q xs (λ y h. same y (inr h)))

-- the number in a column
pub equals_int : (v : Value) (n : ℤ) → is_true (binary (Compare Eq Binary) v (Int n)) ≡ is_eq (value_cmp v (Int n))
unfolding binary value_cmp
equals_int Null n = refl
equals_int (Int m) n = truth_back _
equals_int (Real x) n = truth_back _
equals_int (Text t) n = truth_back _
equals_int (Blob b) n = truth_back _

-- the row that passed is now this one, with its rowid, and every other table is as it was
pub record Replaces (schema : Schema) (table : Table) (p : Row → Bool) (i : ℤ) (row : Row) (old new : Trees) : Type 0 where
  pub stored : new table.tree ≡ put_row (Int i ∷ row) (without_rowid i (old table.tree))
  pub put : IsPermutation (row ∷ without p (cells (old table.tree))) (cells (new table.tree))
  pub keyed : HaveDistinctRowids (new table.tree)
  pub others : (t : ℕ) → t ≢ table.tree → IsNoIndex schema t → new t ≡ old t

-- the one row that passes
pub record IsOnly (rows : List Row) (p : Row → Bool) (r : Row) (i : ℤ) : Type 0 where
  pub only : filter (λ x. p (drop 1 x)) rows ≡ r ∷ []
  pub id : rowid r ≡ Int i

module _ (rows : List Row) (p : Row → Bool) (r : Row) (i : ℤ) (up : HaveDistinctRowids rows) (h : IsOnly rows p r i) where
  there : Has rows r × (p (drop 1 r) ≡ true)
  there = has_filtered (λ x. p (drop 1 x)) rows r (subst (λ l. Has l r) (sym h.only) (inl refl))

  -- no other row has its rowid
  by_rowid : (x : Row) → Has rows x → not (has_rowid i x) ≡ not (p (drop 1 x))
  by_rowid x in_rows = ap not (both_ways _ _
      (λ tied. let same : x ≡ r = same_rowid_same_row rows x r up in_rows there.0 (subst (λ v. is_eq (value_cmp (rowid x) v) ≡ true) (sym h.id) tied) in rw same there.1)
      (λ is. let with_key = kept_by (λ y. p (drop 1 y)) rows x in_rows is in one x (subst (λ l. Has l x) h.only with_key)))
    where
      one : (y : Row) → Has (r ∷ []) y → has_rowid i y ≡ true
      one y (inl same) = rw (same, h.id) (ap is_eq (tied_itself value_cmp_total (Int i)))
      one y (inr none) = absurd none

  rest_is : cells (without_rowid i rows) ≡ without p (cells rows)
  rest_is = ap cells (filter_same_on (λ x. not (has_rowid i x)) (λ x. not (p (drop 1 x))) rows by_rowid) ∙ sym (filter-map (λ c. not (p c)) (drop 1) rows)

  -- the row is deleted, and the new one takes its place
  pub replaced : (new : Row) → is_taken (without_rowid i rows) new ≡ false → IsPermutation (drop 1 new ∷ without p (cells rows)) (cells (put_row new (without_rowid i rows)))
  replaced new free = subst (λ l. IsPermutation (drop 1 new ∷ l) (cells (put_row new (without_rowid i rows)))) rest_is (IsPermutation-map (drop 1) (new ∷ without_rowid i rows) (put_row new (without_rowid i rows)) (put_adds new (without_rowid i rows) free))

pub applied_update : (schema : Schema) (keys : Keys) (db next : Trees) (table : Table) (rows : List Row) (p : Row → Bool) (r row : Row) (i : ℤ) → rows ≡ (Int i ∷ Int i ∷ row) ∷ [] → cast_all table.columns row ≡ row
    → HaveDistinctRowids (db table.tree) → IsOnly (db table.tree) p r i → Applies schema keys db (edit_of db table (ids_of rows) Given 1 rows) next → Replaces schema table p i row db next
applied_update schema keys db next table rows p r row i is casts up only h =
    let new : Row = Int i ∷ row in
    let old = db table.tree in
    let left : left_by db (edit_of db table (ids_of rows) Given 1 rows) ≡ without_rowid i old = ap (λ all. without_all old (ids_of all)) is in
    let news : (edit_of db table (ids_of rows) Given 1 rows).news ≡ new ∷ [] = ap (λ all. (edit_of db table (ids_of all) Given 1 all).news) is ∙ rw (casts, cast_int i) in
    let put : next table.tree ≡ put_row new (without_rowid i old) =
    h.rows ∙ ap (λ l. put_all l (edit_of db table (ids_of rows) Given 1 rows).news) left ∙ ap (put_all (without_rowid i old)) news in
    let fresh : are_fresh (without_rowid i old) (new ∷ []) ≡ true = subst₂ (λ l all. are_fresh l all ≡ true) left news h.fresh in
    let free : is_taken (without_rowid i old) new ≡ false = not-true _ (and_parts _ _ fresh).0 in
    record {
      stored = put;
      put = subst (λ l. IsPermutation (row ∷ without p (cells old)) (cells l)) (sym put) (replaced old p r i up only new free);
      keyed = subst HaveDistinctRowids (sym put) (distinct_put new (without_rowid i old) refl free (distinct_filter (λ x. not (has_rowid i x)) old up));
      others = h.others;
    }

module _ (schema : Schema) (place : ℕ) (table : Table) (o : IsOrdinary schema place table) (where_all project : List Term) (params : Row) (p : Row → Bool) (tests : (x : Row) → passes_all params where_all x ≡ p (drop 1 x)) (r row : Row) (i : ℤ)
    (shown : shows params project r ≡ Int i ∷ Int i ∷ row) (casts : cast_all table.columns row ≡ row) where
  pub updates_one : (limit : Option ℕ) (mode : Mode) (text : List ℕ) (trees : Trees) (tally : Tally) (new : Database) → overlay trees [] table.tree ≡ trees table.tree → HaveDistinctRowids (trees table.tree) → IsOnly (trees table.tree) p r i
      → Does limit mode params (record { schema = schema; trees = trees }) text None (Update place (record { lets = []; body = from_table table.tree where_all project [] })) (Ok (tally, new))
      → (new.schema ≡ schema) × Replaces schema table p i row trees new.trees
  updates_one limit mode text trees tally new plain up only h =
      let done = succeeded (rw o.found at h) in
      let now = ap (λ (q : Tally × Database). q.1) (same_value (succeeded (succeeded done.2).2).2) in
      let found = succeeded done.1 in
      let written = succeeded found.2 in
      let perm = answer_is params where_all table.tree project [] trees found.0 (found.1.answer Null) plain in
      let passing : filter (passes_all params where_all) (trees table.tree) ≡ r ∷ [] = filter_same_on _ _ (trees table.tree) (λ x _. tests x) ∙ only.only in
      let rows : found.0 ≡ (Int i ∷ Int i ∷ row) ∷ [] = one_permutation _ found.0 (subst (λ l. IsPermutation l found.0) (ap (map (shows params project)) passing ∙ ap (λ x. x ∷ []) shown) perm) in
      let edit = edit_of trees table (ids_of found.0) Given 1 found.0 in
      let step = one_step schema mode.keys trees written.0 edit (o.alone mode.keys (taken_by trees edit) edit.news) written.1 in
      let last : done.0.trees ≡ written.0 = ap (λ (it : Written). it.trees) (same_value written.2) in
      let same : new.trees ≡ written.0 = ap (λ (d : Database). d.trees) now ∙ last in
      (ap (λ (d : Database). d.schema) now, subst (Replaces schema table p i row trees) (sym same) (applied_update schema mode.keys trees written.0 table found.0 p r row i rows casts up only step))

one_from_map : {A B : Type 0} (f : A → B) (xs : List A) (y : B) → map f xs ≡ y ∷ [] → (x : A) × (xs ≡ x ∷ []) × (f x ≡ y)
one_from_map f [] y h = absurd (let e = h in cc)
one_from_map f (x ∷ []) y h = (x, refl, (let e = h in cc))
one_from_map f (x ∷ z ∷ xs) y h = absurd (let e = h in cc)

whole_row : (row rest : Row) (v : Value) (i : ℤ) → drop 1 row ≡ v ∷ rest → rowid row ≡ Int i → row ≡ Int i ∷ v ∷ rest
whole_row [] rest v i h id = absurd (let e = h in cc)
whole_row (w ∷ row) rest v i h id = ap (λ l. w ∷ l) h ∙ ap (λ x. x ∷ v ∷ rest) id

-- the one row that passes, of rows whose cells that pass are known
pub only_row : (rows : List Row) (p : Row → Bool) (v : Value) (rest : Row) → filter p (cells rows) ≡ (v ∷ rest) ∷ [] → HaveDistinctRowids rows → (row : Row) × (i : ℤ) × IsOnly rows p row i × (row ≡ Int i ∷ v ∷ rest)
only_row rows p v rest is up =
    let cut : map (drop 1) (filter (λ x. p (drop 1 x)) rows) ≡ (v ∷ rest) ∷ [] = sym (filter-map p (drop 1) rows) ∙ is in
    let one = one_from_map (drop 1) (filter (λ x. p (drop 1 x)) rows) (v ∷ rest) cut in
    let inside = has_filtered (λ x. p (drop 1 x)) rows one.0 (subst (λ l. Has l one.0) (sym one.1) (inl refl)) in
    let i = id_in (rowid one.0) in
    let id : rowid one.0 ≡ Int i = int_is (rowid one.0) (all_int rows one.0 up inside.0) in
    (one.0, i, record { only = one.1; id = id }, whole_row one.0 _ _ i one.2 id)
