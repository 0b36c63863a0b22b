-- Rows whose rowids differ still do after a row is put in or taken out.
use Rattle.std.proofs.Common.{◌≡◌, inl, inr, Bool, true, false, cond, List, [], ◌∷◌, filter, Ordering, Less, Equal, Greater, refl, sym, ap, subst, ◌∙◌, true≢false, IsTrue}
use Rattle.std.specs.Ordering.{is_eq, match_ordering}
use Rattle.std.specs.Cmp.{eq_by_cmp_equiv}
use Rattle.std.proofs.lemmas.Bool.{or_parts, or_from}
use Rattle.std.proofs.lemmas.List.Sorted.{list_any-IsPermutation}
use Rattle.sqlite_value.specs.Order.{Row, value_cmp}
use Rattle.sqlite_value.proofs.OrderLemmas.{value_cmp_total}
use Rattle.sqlite_trees.specs.Tree.{rowid, put_row}
use Rattle.sqlite_trees.specs.View.{is_int}
use Rattle.sqlite_rules.specs.Edit.{is_taken}
use Rattle.sqlite_rules.specs.Lists.{Has}
use Rattle.tally_store_schema.specs.Rows.{HaveDistinctRowids}
use Rattle.tally_store_schema.proofs.StatementLemmas.{put_adds}

tied_symmetric : (a b : Row) → is_eq (value_cmp (rowid a) (rowid b)) ≡ is_eq (value_cmp (rowid b) (rowid a))
tied_symmetric a b = (eq_by_cmp_equiv value_cmp_total).symm (rowid a) (rowid b)

-- a row whose rowid is free
pub distinct_put : (new : Row) (rows : List Row) → IsTrue (is_int (rowid new)) → is_taken rows new ≡ false → HaveDistinctRowids rows → HaveDistinctRowids (put_row new rows)
distinct_put new [] keyed free h = (keyed, refl, tt)
distinct_put new (r ∷ rows) keyed free h = go (value_cmp (rowid r) (rowid new)) (or_parts _ _ free).0 (distinct_put new rows keyed (or_parts _ _ free).1 h.2)
  where
    parts : (is_eq (value_cmp (rowid r) (rowid new)) ≡ false) × (is_taken rows new ≡ false)
    parts = or_parts (is_eq (value_cmp (rowid r) (rowid new))) (is_taken rows new) free

    still : is_taken (put_row new rows) r ≡ false
    still = sym (list_any-IsPermutation (λ x. is_eq (value_cmp (rowid x) (rowid r))) (new ∷ rows) (put_row new rows) (put_adds new rows parts.1)) ∙ or_from (is_eq (value_cmp (rowid new) (rowid r))) (is_taken rows r) (tied_symmetric new r ∙ parts.0) h.1

    go : (o : Ordering) → is_eq o ≡ false → HaveDistinctRowids (put_row new rows) → HaveDistinctRowids (match_ordering o (r ∷ put_row new rows) (new ∷ rows) (new ∷ r ∷ rows))
    go Less other later = (h.0, still, later)
    go Equal other later = absurd (true≢false other)
    go Greater other later = (keyed, free, h)

fewer : (p : Row → Bool) (rows : List Row) (r : Row) → is_taken rows r ≡ false → is_taken (filter p rows) r ≡ false
fewer p [] r free = refl
fewer p (x ∷ rows) r free =
    let parts = or_parts (is_eq (value_cmp (rowid x) (rowid r))) (is_taken rows r) free in
    let later = fewer p rows r parts.1 in
    elim (p x) as (λ b. is_taken (cond b (x ∷ filter p rows) (filter p rows)) r ≡ false) [ true ↦ or_from _ _ parts.0 later | false ↦ later ]

pub distinct_filter : (p : Row → Bool) (rows : List Row) → HaveDistinctRowids rows → HaveDistinctRowids (filter p rows)
distinct_filter p [] h = tt
distinct_filter p (r ∷ rows) h =
    let later = distinct_filter p rows h.2 in
    elim (p r) as (λ b. HaveDistinctRowids (cond b (r ∷ filter p rows) (filter p rows))) [ true ↦ (h.0, fewer p rows r h.1, later) | false ↦ later ]

not_tied : (rows : List Row) (r x : Row) → is_taken rows r ≡ false → Has rows x → is_eq (value_cmp (rowid x) (rowid r)) ≡ false
not_tied [] r x free h = absurd h
not_tied (y ∷ rows) r x free (inl same) = ap (λ z. is_eq (value_cmp (rowid z) (rowid r))) same ∙ (or_parts _ _ free).0
not_tied (y ∷ rows) r x free (inr later) = not_tied rows r x (or_parts _ _ free).1 later

-- two rows with the same rowid are the same row
pub same_rowid_same_row : (rows : List Row) (a b : Row) → HaveDistinctRowids rows → Has rows a → Has rows b → is_eq (value_cmp (rowid a) (rowid b)) ≡ true → a ≡ b
same_rowid_same_row [] a b apart h k same = absurd h
same_rowid_same_row (r ∷ rows) a b apart (inl h) (inl k) same = h ∙ sym k
same_rowid_same_row (r ∷ rows) a b apart (inl h) (inr k) same = absurd (true≢false (sym same ∙ tied_symmetric a b ∙ ap (λ x. is_eq (value_cmp (rowid b) (rowid x))) h ∙ not_tied rows r b apart.1 k))
same_rowid_same_row (r ∷ rows) a b apart (inr h) (inl k) same = absurd (true≢false (sym same ∙ ap (λ x. is_eq (value_cmp (rowid a) (rowid x))) k ∙ not_tied rows r a apart.1 h))
same_rowid_same_row (r ∷ rows) a b apart (inr h) (inr k) same = same_rowid_same_row rows a b apart.2 h k same

pub all_int : (rows : List Row) (r : Row) → HaveDistinctRowids rows → Has rows r → IsTrue (is_int (rowid r))
all_int [] r apart h = absurd h
all_int (x ∷ rows) r apart (inl same) = subst (λ y. IsTrue (is_int (rowid y))) (sym same) apart.0
all_int (x ∷ rows) r apart (inr later) = all_int rows r apart.2 later
