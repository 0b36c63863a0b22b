-- Rows that are added one after the other.
use Rattle.std.proofs.Common.{◌≡◌, Result, Ok, Err, OnOk, ℕ, zero, suc, ◌+◌, List, [], ◌∷◌, ◌++◌, length, map, take, get_or, ◌<◌, arith, refl, sym, ap, subst, ◌∙◌, append_assoc, append-nil}
use Rattle.std.specs.List.{flat_map, range_with_len}
use Rattle.std.specs.List.Sorted.{IsPermutation}
use Rattle.std.proofs.lemmas.List.{map-append, take_more}
use Rattle.std.proofs.lemmas.List.FromFn.{map-range_with_len_more}
use Rattle.std.proofs.lemmas.List.Sorted.{IsPermutation-refl, IsPermutation-trans, IsPermutation-append_comm, IsPermutation-append_left, IsPermutation-append_right}
use Rattle.sqlite_value.specs.Order.{Row}
use Rattle.sqlite.specs.declared.error.Error.{Error}
use Rattle.sqlite.specs.State.{State as Seen}
use Rattle.tally_store_schema.specs.Rows.{cells}
use Rattle.tally_setup.specs.Constituency.{Constituency}
use Rattle.tally_returns.specs.View.{votes_at, votes_of_lists}
use Rattle.tally_store_schema.specs.declared.table.KeyedTable.TheVariants.{Cons, Totals}
use Rattle.tally_store_schema.specs.Office.{IsInside, HasRows, rows_in}
use Rattle.tally_store_rows.specs.Cells.{item_row, numbers_with_places}
use Rattle.tally_store_open.specs.internal.Making.{AddsTotals, AddsCons, no_list_rows, no_vote_rows, opening_row, opening_totals}

-- rows beside others, and then more rows beside all of these
joined : {X : Type 0} (xs ys base mid new : List X) → IsPermutation (xs ++ base) mid → IsPermutation (ys ++ mid) new → IsPermutation ((xs ++ ys) ++ base) new
joined xs ys base mid new first second =
    let swapped : IsPermutation ((xs ++ ys) ++ base) ((ys ++ xs) ++ base) = IsPermutation-append_left base _ _ (IsPermutation-append_comm xs ys) in
    let inner : IsPermutation (ys ++ (xs ++ base)) (ys ++ mid) = IsPermutation-append_right ys _ _ first in
    IsPermutation-trans _ _ _ swapped (IsPermutation-trans _ _ _ (subst (λ l. IsPermutation l (ys ++ mid)) (sym (append_assoc ys xs base)) inner) second)

-- ---- sums

pub totals_none : (old : Seen) → IsInside old → AddsTotals [] old old
totals_none old inside = record { inside = inside; rows = IsPermutation-refl _; others = λ u apart. refl; setup = refl }

pub totals_then : (xs ys : List Row) (old mid new : Seen) → AddsTotals xs old mid → AddsTotals ys mid new → AddsTotals (xs ++ ys) old new
totals_then xs ys old mid new p q = record {
  inside = q.inside;
  rows = joined xs ys (rows_in Totals old) (rows_in Totals mid) (rows_in Totals new) p.rows q.rows;
  others = λ u apart. q.others u apart ∙ p.others u apart;
  setup = q.setup ∙ p.setup;
}

numbered-append : (first : ℕ) (xs ys : List ℕ) → numbers_with_places first (xs ++ ys) ≡ numbers_with_places first xs ++ numbers_with_places (first + length xs) ys
numbered-append first [] ys = let same : first ≡ first + 0 = omega arith in ap (λ n. numbers_with_places n ys) same
numbered-append first (x ∷ xs) ys = ap (λ l. (first, x) ∷ l) (numbered-append (first + 1) xs ys ∙ ap (λ n. numbers_with_places (first + 1) xs ++ numbers_with_places n ys) next)
  where
    next : first + 1 + length xs ≡ first + length (x ∷ xs)
    next = omega arith

-- one list more
pub list_rows_more : (code : List ℕ) (n : ℕ) → no_list_rows code (n + 1) ≡ no_list_rows code n ++ item_row code (n + 1, 0) ∷ []
list_rows_more code n =
    let votes : votes_of_lists (n + 1) [] ≡ votes_of_lists n [] ++ 0 ∷ [] = map-range_with_len_more (votes_at []) 0 n n (omega arith) in
    let long : length (votes_of_lists n []) ≡ n = length-map-range n 0 in
    ap (λ l. map (item_row code) (numbers_with_places 1 l)) votes
    ∙ ap (map (item_row code)) (numbered-append 1 (votes_of_lists n []) (0 ∷ []))
    ∙ map-append (item_row code) (numbers_with_places 1 (votes_of_lists n [])) _
    ∙ ap (λ m. no_list_rows code n ++ item_row code (m, 0) ∷ []) (omega (arith, long))
  where
    length-map-range : (n a : ℕ) → length (map (votes_at []) (range_with_len a n)) ≡ n
    length-map-range zero a = refl
    length-map-range (suc n) a = ap suc (length-map-range n (a + 1))

-- ---- constituencies

pub cons_none : (old : Seen) → IsInside old → AddsCons [] old old
cons_none old inside = record { inside = inside; rows = IsPermutation-refl _; totals = IsPermutation-refl _; others = λ u con total. refl; setup = refl }

flat_map-append : {A B : Type 0} (f : A → List B) (xs ys : List A) → flat_map f (xs ++ ys) ≡ flat_map f xs ++ flat_map f ys
flat_map-append f [] ys = refl
flat_map-append f (x ∷ xs) ys = ap (λ l. f x ++ l) (flat_map-append f xs ys) ∙ sym (append_assoc (f x) (flat_map f xs) (flat_map f ys))

pub cons_then : (xs ys : List Constituency) (old mid new : Seen) → AddsCons xs old mid → AddsCons ys mid new → AddsCons (xs ++ ys) old new
cons_then xs ys old mid new p q = record {
  inside = q.inside;
  rows = subst (λ l. IsPermutation (l ++ rows_in Cons old) (rows_in Cons new)) (sym (map-append opening_row xs ys))
      (joined (map opening_row xs) (map opening_row ys) (rows_in Cons old) (rows_in Cons mid) (rows_in Cons new) p.rows q.rows);
  totals = subst (λ l. IsPermutation (l ++ rows_in Totals old) (rows_in Totals new)) (sym (flat_map-append opening_totals xs ys))
      (joined (flat_map opening_totals xs) (flat_map opening_totals ys) (rows_in Totals old) (rows_in Totals mid) (rows_in Totals new) p.totals q.totals);
  others = λ u con total. q.others u con total ∙ p.others u con total;
  setup = q.setup ∙ p.setup;
}

-- the row of a constituency, and then its sums
pub con_and_totals : (con : Constituency) (old mid new : Seen) → HasRows Cons (opening_row con ∷ rows_in Cons old) old mid → AddsTotals (opening_totals con) mid new → AddsCons (con ∷ []) old new
con_and_totals con old mid new p q = record {
  inside = q.inside;
  rows = subst (IsPermutation (opening_row con ∷ rows_in Cons old)) (sym (ap cells (q.others Cons (λ e. omega arith)))) p.rows;
  totals = subst (λ l. IsPermutation (l ++ rows_in Totals old) (rows_in Totals new)) (sym (append-nil (opening_totals con)))
      (subst (λ l. IsPermutation (opening_totals con ++ l) (rows_in Totals new)) (ap cells (p.others Totals (λ e. omega arith))) q.rows);
  others = λ u con_apart total_apart. q.others u total_apart ∙ p.others u con_apart;
  setup = q.setup ∙ p.setup;
}

pub cons_more : (old mid new : Seen) (cons : List Constituency) (i : ℕ) (con : Constituency) → i < length cons → con ≡ get_or cons i con → AddsCons (take i cons) old mid → AddsCons (con ∷ []) mid new → AddsCons (take (i + 1) cons) old new
cons_more old mid new cons i con low is p q = subst (λ l. AddsCons l old new) (sym (take_more cons i con low ∙ ap (λ x. take i cons ++ x ∷ []) (sym is))) (cons_then (take i cons) (con ∷ []) old mid new p q)

-- ---- the last call, whatever it answers

pub totals_last : (rows : List Row) (row : Row) (old mid new : Seen) (r : Result Unit Error) → AddsTotals rows old mid → OnOk r (AddsTotals (row ∷ []) mid new) → OnOk r (AddsTotals (rows ++ row ∷ []) old new)
totals_last rows row old mid new (Ok done) p q = totals_then rows (row ∷ []) old mid new p q
totals_last rows row old mid new (Err e) p q = tt

-- the rows of a constituency without returns, taken apart
pub no_votes_split : (code : List ℕ) (lists : ℕ) → (item_row code (0, 0) ∷ [] ++ no_list_rows code lists) ++ item_row code (61, 0) ∷ [] ≡ no_vote_rows code lists
no_votes_split code lists = ap (λ l. item_row code (0, 0) ∷ l) (sym (map-append (item_row code) (numbers_with_places 1 (votes_of_lists lists [])) ((61, 0) ∷ [])))

pub opening_last : (con : Constituency) (old mid new : Seen) (r : Result Unit Error) → HasRows Cons (opening_row con ∷ rows_in Cons old) old mid → OnOk r (AddsTotals (opening_totals con) mid new) → OnOk r (AddsCons (con ∷ []) old new)
opening_last con old mid new (Ok done) p q = con_and_totals con old mid new p q
opening_last con old mid new (Err e) p q = tt
