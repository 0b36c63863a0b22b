-- The rows of a constituency written, beside those of the others.
use Rattle.std.proofs.Common.{◌≡◌, ◌≢◌, ℕ, pos, ◌+◌, Bool, true, false, not, cond, List, [], ◌∷◌, ◌++◌, map, filter, Option, Some, None, IsSome, Ordering, refl, sym, ap, ap₂, subst, ◌∙◌, true≢false, append_assoc}
use Rattle.std.specs.FinMap.{FinMap, IsAntisymmetric, entries, get, insert, find, get-entries, nat_cmp-IsAntisymmetric}
use Rattle.std.specs.Cmp.{IsTotalOrder, eq_by_cmp_equiv, nat_cmp_total}
use Rattle.std.specs.Ordering.{eq_by_cmp, is_eq}
use Rattle.std.specs.List.{AllByRecursion, flat_map}
use Rattle.std.specs.Option.{option_to_list}
use Rattle.std.specs.List.Sorted.{IsPermutation}
use Rattle.std.proofs.lemmas.List.Sorted.{IsPermutation-sym, IsPermutation-trans, IsPermutation-map, IsPermutation-append_left, IsPermutation-append_right}
use Rattle.sqlite_value.specs.declared.value.Value.TheVariants.{Int, Text}
use Rattle.sqlite_value.specs.Order.{Row, column, value_cmp}
use Rattle.sqlite_value.proofs.OrderLemmas.{value_cmp-Text}
use Rattle.sqlite_keyed.proofs.ListLemmas.{IsPermutation-filter, IsPermutation-flat_map, all_weaker, all-map, all-flat_map, all_of}
use Rattle.sqlite.specs.State.{State}
use Rattle.sqlite.proofs.Callers.{one_permutation}
use Rattle.tally_store_schema.specs.Rows.{text_cmp, cells, has_key, others, AreRowsOf}
use Rattle.tally_store_schema.proofs.EntryLemmas.{other_entries, inserted}
use Rattle.tally_store_schema.proofs.RowsLemmas.{AreKeyedBy, text_total, text_exact, text_same, filter-rows, same_again, put_rows, rows_of_key, partitioned_rows}
use Rattle.tally_setup.specs.Code.{code_cmp}
use Rattle.tally_returns.specs.Counts.{VoteCounts}
use Rattle.tally_returns.specs.State.{ConState}
use Rattle.tally_store_schema.specs.Cells.{flag}
use Rattle.tally_store_schema.specs.declared.table.KeyedTable.{KeyedTable}
use Rattle.tally_store_schema.specs.declared.table.KeyedTable.TheVariants.{Cons, Lots, Seats, Gone, Totals, Past}
use Rattle.tally_store_schema.specs.Office.{rows_in, HasRows, numbered_rows}
use Rattle.tally_store_rows.specs.Cells.{item_row, items_of, numbers_with_places, con_rows, lot_rows, seat_rows, gone_row, gone_rows, past_row, past_rows, record_rows}
use Rattle.tally_store_entries.specs.internal.Constituencies.{ChangesOnly, MovesRows, MovesSeats, HasLot, HasGone, HasRecord, HasEdition, sum_rows}
use Rattle.tally_store_entries.specs.internal.Entries.{stored_in}
use Rattle.tally_store_entries.specs.internal.Written.{Adds, HasItems}
use Rattle.tally_store_entries.proofs.LotLemmas.{lot_put}
use Rattle.tally_store_entries.proofs.ReturnLemmas.{items_keyed}

pub changes_only : (t : KeyedTable) (rows : List Row) (old new : State) → HasRows t rows old new → ChangesOnly t old new
changes_only t rows old new has = record { inside = has.inside; others = has.others; setup_is = has.setup }

-- ---- lots and seats

pub lot_written : (con lot : List ℕ) (old new : State) → HasRows Lots (map (item_row con) (numbers_with_places 1 lot) ++ others con (rows_in Lots old)) old new
    → ChangesOnly Lots old new × MovesRows Lots lot_rows con (HasLot lot) old new
lot_written con lot old new put = (changes_only Lots _ old new put, λ cons before standing is becomes held. lot_put con lot cons standing old new becomes held put)

-- rows of entries that are the same for all keys but one
module _ {X : Type 0} (rows_of rows_to : List ℕ × X → List Row) (keyed : AreKeyedBy rows_of) where
  others_of : (k : List ℕ) (es : List (List ℕ × X)) → others k (flat_map rows_of es) ≡ flat_map rows_of (other_entries text_total text_exact k es)
  others_of k = filter-rows rows_of (λ c. not (has_key k c)) (λ e. not (eq_by_cmp text_cmp k e.0)) (λ e. all_weaker _ (λ c. not (has_key k c) ≡ not (eq_by_cmp text_cmp k e.0))
      (λ c is. ap (λ v. not (is_eq (value_cmp v (Text k)))) is ∙ ap (λ o. not (is_eq o)) (value_cmp-Text e.0 k) ∙ ap not ((eq_by_cmp_equiv text_total).symm e.0 k)) (rows_of e) (keyed e))

  same_elsewhere : (k : List ℕ) (es : List (List ℕ × X)) → ((e : List ℕ × X) → eq_by_cmp text_cmp k e.0 ≡ false → rows_to e ≡ rows_of e)
      → flat_map rows_to (other_entries text_total text_exact k es) ≡ flat_map rows_of (other_entries text_total text_exact k es)
  same_elsewhere k [] same = refl
  same_elsewhere k (e ∷ es) same = go (eq_by_cmp text_cmp k e.0) refl (same_elsewhere k es same)
    where
      go : (b : Bool) → eq_by_cmp text_cmp k e.0 ≡ b → flat_map rows_to (other_entries text_total text_exact k es) ≡ flat_map rows_of (other_entries text_total text_exact k es)
          → flat_map rows_to (cond (not b) (e ∷ other_entries text_total text_exact k es) (other_entries text_total text_exact k es)) ≡ flat_map rows_of (cond (not b) (e ∷ other_entries text_total text_exact k es) (other_entries text_total text_exact k es))
      go true is later = later
      go false is later = ap₂ ◌++◌ (same e is) later

  -- where these are the rows of the key now, and those of other keys are as they were
  pub turn_rows : (s : FinMap text_cmp X) (k : List ℕ) (v : X) (old new : List Row) → get s k ≡ Some v → ((e : List ℕ × X) → eq_by_cmp text_cmp k e.0 ≡ false → rows_to e ≡ rows_of e) → AreRowsOf rows_of s old
      → IsPermutation (rows_to (k, v) ++ others k (cells old)) (cells new) → AreRowsOf rows_to s new
  turn_rows s k v old new is same held put =
      let rest : List (List ℕ × X) = other_entries text_total text_exact k (entries s) in
      let all : IsPermutation ((k, v) ∷ rest) (entries s) = subst (λ m. IsPermutation ((k, v) ∷ rest) (entries m)) (same_again s k v is) (inserted text_total text_exact s k v) in
      let mine : IsPermutation (rows_to (k, v) ++ flat_map rows_to rest) (flat_map rows_to (entries s)) = IsPermutation-flat_map rows_to _ _ all in
      let kept : IsPermutation (flat_map rows_of rest) (others k (cells old)) = subst (λ l. IsPermutation l (others k (cells old))) (others_of k (entries s)) (IsPermutation-filter (λ c. not (has_key k c)) _ _ held.each) in
      let moved : IsPermutation (rows_to (k, v) ++ flat_map rows_to rest) (rows_to (k, v) ++ others k (cells old)) =
      IsPermutation-append_right (rows_to (k, v)) _ _ (subst (λ l. IsPermutation l (others k (cells old))) (sym (same_elsewhere k (entries s) same)) kept) in
      record { each = IsPermutation-trans _ _ _ (IsPermutation-sym _ _ mine) (IsPermutation-trans _ _ _ moved put) }

-- a key that is not this one
pub apart_key : (k other : List ℕ) → eq_by_cmp text_cmp k other ≡ false → other ≢ k
apart_key k other apart same = true≢false (sym (text_same k) ∙ ap (eq_by_cmp text_cmp k) (sym same) ∙ apart)

seats_moved : (con seats : List ℕ) (old new : State) → HasRows Seats (map (item_row con) (numbers_with_places 1 seats) ++ others con (rows_in Seats old)) old new → MovesSeats con seats old new
seats_moved con seats old new put cons before standing some is same held = go (get cons con) refl some
  where
    go : (o : Option ConState) → get cons con ≡ o → IsSome o → AreRowsOf (seat_rows standing) cons (stored_in Seats new)
    go None found none = absurd (true≢false (sym none))
    go (Some v) found some =
        turn_rows (seat_rows before) (seat_rows standing) (λ e. items_keyed e.0 (numbers_with_places 1 (before e.0))) cons con v (stored_in Seats old) (stored_in Seats new) found
        (λ e apart. ap (λ ns. map (item_row e.0) (numbers_with_places 1 ns)) (same e.0 (apart_key con e.0 apart))) held
        (subst (λ ns. IsPermutation (map (item_row con) (numbers_with_places 1 ns) ++ others con (rows_in Seats old)) (rows_in Seats new)) (sym is) put.rows)

pub seats_written : (con seats : List ℕ) (old new : State) → HasRows Seats (map (item_row con) (numbers_with_places 1 seats) ++ others con (rows_in Seats old)) old new → ChangesOnly Seats old new × MovesSeats con seats old new
seats_written con seats old new put = (changes_only Seats _ old new put, seats_moved con seats old new put)

-- ---- one entry more in a map of a constituency

module _ {K X : Type 0} {R : K → K → Ordering} (o : IsTotalOrder R) (exact : IsAntisymmetric R) where
  all_others : (k : K) (es : List (K × X)) → find R k es ≡ None → other_entries o exact k es ≡ es
  all_others k [] none = refl
  all_others k (e ∷ es) none = go (eq_by_cmp R k e.0) none (all_others k es)
    where
      go : (b : Bool) → cond b (Some e.1) (find R k es) ≡ None → (find R k es ≡ None → other_entries o exact k es ≡ es) → cond (not b) (e ∷ other_entries o exact k es) (other_entries o exact k es) ≡ e ∷ es
      go true some later = absurd (let h = some in cc)
      go false is later = ap (λ l. e ∷ l) (later is)

  pub one_more : (m : FinMap R X) (k : K) (v : X) → get m k ≡ None → IsPermutation ((k, v) ∷ entries m) (entries (insert m k v))
  one_more m k v none = subst (λ l. IsPermutation ((k, v) ∷ l) (entries (insert m k v))) (all_others k (entries m) (sym (get-entries m k) ∙ none)) (inserted o exact m k v)

-- where the entry of a key has these rows more
pub more_rows : {X : Type 0} (rows_of : List ℕ × X → List Row) (keyed : AreKeyedBy rows_of) (s : FinMap text_cmp X) (k : List ℕ) (v w : X) (extra old new : List Row) → get s k ≡ Some v → IsPermutation (extra ++ rows_of (k, v)) (rows_of (k, w))
    → AreRowsOf rows_of s old → IsPermutation (extra ++ cells old) (cells new) → AreRowsOf rows_of (insert s k w) new
more_rows rows_of keyed s k v w extra old new is more held added =
    let rest : List Row = others k (cells old) in
    let front : IsPermutation (rows_of (k, w) ++ rest) ((extra ++ rows_of (k, v)) ++ rest) = IsPermutation-append_left rest _ _ (IsPermutation-sym _ _ more) in
    let turned : IsPermutation (rows_of (k, w) ++ rest) (extra ++ (rows_of (k, v) ++ rest)) = subst (IsPermutation (rows_of (k, w) ++ rest)) (append_assoc extra (rows_of (k, v)) rest) front in
    let whole : IsPermutation (extra ++ (rows_of (k, v) ++ rest)) (extra ++ cells old) = IsPermutation-append_right extra _ _ (partitioned_rows rows_of keyed s k v old is held) in
    put_rows rows_of keyed s k w old new held (IsPermutation-trans _ _ _ turned (IsPermutation-trans _ _ _ whole added))

-- ---- candidates who are gone

gone_keyed : AreKeyedBy gone_rows
gone_keyed e = all-map (λ c. column c 0 ≡ Text e.0) (gone_row e.0) (λ _. refl) (entries e.1.gone)

gone_moved : (con : List ℕ) (list place : ℕ) (note : List ℕ) (old new : State) → HasRows Gone (gone_row con (list ∷ place ∷ [], note) ∷ rows_in Gone old) old new → MovesRows Gone gone_rows con (HasGone (record { list = list; place = place; note = note })) old new
gone_moved con list place note old new put cons before standing is becomes held =
    more_rows gone_rows gone_keyed cons con before standing (gone_row con (list ∷ place ∷ [], note) ∷ []) (stored_in Gone old) (stored_in Gone new) is
    (subst (λ m. IsPermutation (gone_row con (list ∷ place ∷ [], note) ∷ gone_rows (con, before)) (map (gone_row con) (entries m))) (sym becomes.1)
    (IsPermutation-map (gone_row con) ((list ∷ place ∷ [], note) ∷ entries before.gone) (entries (insert before.gone (list ∷ place ∷ []) note)) (one_more text_total text_exact before.gone (list ∷ place ∷ []) note becomes.0)))
    held put.rows

pub gone_written : (con : List ℕ) (list place : ℕ) (note : List ℕ) (old new : State) → HasRows Gone (gone_row con (list ∷ place ∷ [], note) ∷ rows_in Gone old) old new
    → ChangesOnly Gone old new × MovesRows Gone gone_rows con (HasGone (record { list = list; place = place; note = note })) old new
gone_written con list place note old new put = (changes_only Gone _ old new put, gone_moved con list place note old new put)

-- ---- certificates on record

past_keyed : AreKeyedBy past_rows
past_keyed e = all-flat_map (λ c. column c 0 ≡ Text e.0) (record_rows e.0) (entries e.1.past)
    (all_of (λ r. AllByRecursion (λ c. column c 0 ≡ Text e.0) (record_rows e.0 r)) (λ r. all-map (λ c. column c 0 ≡ Text e.0) (past_row e.0 r.0) (λ _. refl) (numbers_with_places 1 r.1)) (entries e.1.past))

record_moved : (con : List ℕ) (edition : ℕ) (seats : List ℕ) (old new : State) → Adds Past (record_rows con (edition, seats)) old new → MovesRows Past past_rows con (HasRecord (record { edition = edition; seats = seats })) old new
record_moved con edition seats old new put cons before standing is becomes held =
    more_rows past_rows past_keyed cons con before standing (record_rows con (edition, seats)) (stored_in Past old) (stored_in Past new) is
    (subst (λ m. IsPermutation (record_rows con (edition, seats) ++ past_rows (con, before)) (flat_map (record_rows con) (entries m))) (sym becomes.1)
    (IsPermutation-flat_map (record_rows con) ((edition, seats) ∷ entries before.past) (entries (insert before.past edition seats)) (one_more nat_cmp_total nat_cmp-IsAntisymmetric before.past edition seats becomes.0)))
    held put.rows

pub record_written : (con : List ℕ) (edition : ℕ) (seats : List ℕ) (old new : State) → Adds Past (record_rows con (edition, seats)) old new → ChangesOnly Past old new × MovesRows Past past_rows con (HasRecord (record { edition = edition; seats = seats })) old new
record_written con edition seats old new put = (changes_only Past _ old new put, record_moved con edition seats old new put)

pub record_is : (con : List ℕ) (edition first : ℕ) (ns : List ℕ) → numbered_rows (Text con ∷ Int (pos edition) ∷ []) first ns ≡ map (past_row con edition) (numbers_with_places first ns)
record_is con edition first [] = refl
record_is con edition first (n ∷ ns) = ap (λ rows. past_row con edition (first, n) ∷ rows) (record_is con edition (first + 1) ns)

-- ---- the row of a constituency

con_keyed : AreKeyedBy con_rows
con_keyed e = (refl, tt)

pub only_con : (cons : FinMap code_cmp ConState) (con : List ℕ) (before : ConState) (rows : List Row) → get cons con ≡ Some before → AreRowsOf con_rows cons rows → filter (has_key con) (cells rows) ≡ con_rows (con, before)
only_con cons con before rows is held =
    one_permutation (Text con ∷ Int (pos before.edition) ∷ Int (pos (flag before.certified)) ∷ Text before.note ∷ []) (filter (has_key con) (cells rows))
    (subst (λ o. IsPermutation (flat_map con_rows (map (λ v. (con, v)) (option_to_list o))) (filter (has_key con) (cells rows))) is (rows_of_key con_rows con_keyed cons con rows held))

pub con_changed : (con : List ℕ) (edition : ℕ) (certified : Bool) (note : List ℕ) (cons : FinMap code_cmp ConState) (before standing : ConState) (old new : State) → HasEdition edition certified note before standing → AreRowsOf con_rows cons (stored_in Cons old)
    → HasRows Cons ((Text con ∷ Int (pos edition) ∷ Int (pos (flag certified)) ∷ Text note ∷ []) ∷ others con (rows_in Cons old)) old new
    → ChangesOnly Cons old new × AreRowsOf con_rows (insert cons con standing) (stored_in Cons new)
con_changed con edition certified note cons before standing old new at held put =
    let row : con_rows (con, standing) ≡ (Text con ∷ Int (pos edition) ∷ Int (pos (flag certified)) ∷ Text note ∷ []) ∷ [] = (λ i. (Text con ∷ Int (pos (at.0 i)) ∷ Int (pos (flag (at.1 i))) ∷ Text (at.2 i) ∷ []) ∷ []) in (
      changes_only Cons _ old new put,
      put_rows con_rows con_keyed cons con standing (stored_in Cons old) (stored_in Cons new) held (subst (λ l. IsPermutation (l ++ others con (rows_in Cons old)) (rows_in Cons new)) (sym row) put.rows),
    )

-- ---- sums

-- the rows of the sums of a constituency among those of the table
pub sums_before : (cons : FinMap code_cmp ConState) (con : List ℕ) (sums : List ℕ → VoteCounts) (rows : List Row) → IsSome (get cons con) → AreRowsOf (sum_rows sums) cons rows
    → IsPermutation (map (item_row con) (items_of (sums con)) ++ others con (cells rows)) (cells rows)
sums_before cons con sums rows some held = go (get cons con) refl some
  where
    go : (o : Option ConState) → get cons con ≡ o → IsSome o → IsPermutation (map (item_row con) (items_of (sums con)) ++ others con (cells rows)) (cells rows)
    go None found none = absurd (true≢false (sym none))
    go (Some v) found some = partitioned_rows (sum_rows sums) (λ e. items_keyed e.0 (items_of (sums e.0))) cons con v rows found held

sums_moved : (con : List ℕ) (sums : VoteCounts) (cons : FinMap code_cmp ConState) (before standing : List ℕ → VoteCounts) (old new : State) → IsSome (get cons con) → standing con ≡ sums → ((other : List ℕ) → other ≢ con → standing other ≡ before other)
    → AreRowsOf (sum_rows before) cons (stored_in Totals old) → HasItems Totals con sums (others con (rows_in Totals old)) old new → AreRowsOf (sum_rows standing) cons (stored_in Totals new)
sums_moved con sums cons before standing old new some is same held put = go (get cons con) refl some
  where
    go : (o : Option ConState) → get cons con ≡ o → IsSome o → AreRowsOf (sum_rows standing) cons (stored_in Totals new)
    go None found none = absurd (true≢false (sym none))
    go (Some v) found some =
        turn_rows (sum_rows before) (sum_rows standing) (λ e. items_keyed e.0 (items_of (before e.0))) cons con v (stored_in Totals old) (stored_in Totals new) found
        (λ e apart. ap (λ c. map (item_row e.0) (items_of c)) (same e.0 (apart_key con e.0 apart))) held
        (subst (λ c. IsPermutation (map (item_row con) (items_of c) ++ others con (rows_in Totals old)) (rows_in Totals new)) (sym is) put.rows)

pub sums_changed : (con : List ℕ) (sums : VoteCounts) (cons : FinMap code_cmp ConState) (before standing : List ℕ → VoteCounts) (old new : State) → IsSome (get cons con) → standing con ≡ sums → ((other : List ℕ) → other ≢ con → standing other ≡ before other)
    → AreRowsOf (sum_rows before) cons (stored_in Totals old) → HasItems Totals con sums (others con (rows_in Totals old)) old new → ChangesOnly Totals old new × AreRowsOf (sum_rows standing) cons (stored_in Totals new)
sums_changed con sums cons before standing old new some is same held put = (changes_only Totals _ old new put, sums_moved con sums cons before standing old new some is same held put)
