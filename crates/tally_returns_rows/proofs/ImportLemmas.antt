-- An import, one row more.
use Rattle.std.proofs.Common.{◌≡◌, ◌+◌, ◌++◌, ◌∷◌, ◌∙◌, ℕ, List, [], cond, Option, Some, None, length, refl, sym, ap, arith}
use Rattle.std.proofs.lemmas.List.Sums.{count_by-le-length, sum_by_push}
use Rattle.tally_returns_rows.specs.Import.{RowAnswer, IsBelow, is_lodged, is_same, is_differing, is_refused, is_bad, note_number, note_at, or_else, first_note, count_of, count_with_row}
use Rattle.tally_returns_rows.specs.declared.import.ImportCount.{ImportCount}

or_else-none : {X : Type 0} (x : Option X) → or_else x None ≡ x
or_else-none (Some x) = refl
or_else-none None = refl

or_else-assoc : {X : Type 0} (x y z : Option X) → or_else (or_else x y) z ≡ or_else x (or_else y z)
or_else-assoc (Some x) y z = refl
or_else-assoc None y z = refl

first_note-push : (at : ℕ) (answered : List RowAnswer) (a : RowAnswer) → first_note at (answered ++ a ∷ []) ≡ or_else (first_note at answered) (note_at (at + length answered) (note_number a))
first_note-push at [] a = or_else-none _ ∙ ap (λ n. note_at n (note_number a)) (omega arith)
first_note-push at (b ∷ answered) a =
    ap (or_else (note_at at (note_number b))) (first_note-push (at + 1) answered a ∙ ap (λ n. or_else (first_note (at + 1) answered) (note_at n (note_number a))) (omega arith))
    ∙ sym (or_else-assoc (note_at at (note_number b)) (first_note (at + 1) answered) _)

pub count_of-push : (answered : List RowAnswer) (a : RowAnswer) (row : ℕ) → row ≡ length answered + 1 → count_of (answered ++ a ∷ []) ≡ count_with_row (count_of answered) row a
count_of-push answered a row is = let at : 1 + length answered ≡ row = omega arith in λ i. record {
  lodged = sum_by_push (λ x. cond (is_lodged x) 1 0) answered a i;
  same = sum_by_push (λ x. cond (is_same x) 1 0) answered a i;
  differs = sum_by_push (λ x. cond (is_differing x) 1 0) answered a i;
  refused = sum_by_push (λ x. cond (is_refused x) 1 0) answered a i;
  bad = sum_by_push (λ x. cond (is_bad x) 1 0) answered a i;
  first = (first_note-push 1 answered a ∙ ap (λ n. or_else (first_note 1 answered) (note_at n (note_number a))) at) i;
}

-- what the count is after a row, by what it was before it
pub push_is : (old new : ImportCount) (answered : List RowAnswer) (a : RowAnswer) (row : ℕ)
    → old ≡ count_of answered → row ≡ length answered + 1 → new ≡ count_with_row old row a → new ≡ count_of (answered ++ a ∷ [])
push_is old new answered a row was at now = now ∙ ap (λ c. count_with_row c row a) was ∙ sym (count_of-push answered a row at)

-- no more rows were answered one thing than there are rows
pub count_of-below : (answered : List RowAnswer) (row : ℕ) → row ≡ length answered + 1 → IsBelow (count_of answered) row
count_of-below answered row is = record {
  lodged = omega (arith, count_by-le-length is_lodged answered);
  same = omega (arith, count_by-le-length is_same answered);
  differs = omega (arith, count_by-le-length is_differing answered);
  refused = omega (arith, count_by-le-length is_refused answered);
  bad = omega (arith, count_by-le-length is_bad answered);
}
