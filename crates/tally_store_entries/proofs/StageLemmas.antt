-- The stage of a constituency is what its row among those of `cons` says.
use Rattle.std.proofs.Common.{◌≡◌, ◌<◌, ◌∙◌, ℕ, zero, suc, Bool, true, false, cond, pos, List, [], ◌∷◌, filter, length, get_or, Some, sym, ap, subst, arith, true≢false}
use Rattle.std.specs.List.Sorted.{IsPermutation}
use Rattle.std.specs.Ordering.{is_eq}
use Rattle.std.proofs.lemmas.Cmp.{tied_itself}
use Rattle.std.proofs.lemmas.List.{get_or_default}
use Rattle.sqlite_keyed.proofs.ListLemmas.{IsPermutation-filter}
use Rattle.sqlite_value.specs.declared.value.Value.TheVariants.{Int, Text}
use Rattle.sqlite_value.specs.Order.{Row}
use Rattle.sqlite_value.proofs.OrderLemmas.{value_cmp_total}
use Rattle.sqlite.proofs.Callers.{one_permutation}
use Rattle.sqlite.specs.State.{State}
use Rattle.tally_store_schema.specs.Rows.{has_key}
use Rattle.tally_store_schema.specs.Cells.{flag}
use Rattle.tally_store_schema.specs.declared.table.KeyedTable.TheVariants.{Cons}
use Rattle.tally_store_schema.specs.Office.{rows_in}
use Rattle.tally_store_rows.specs.Reading.{standing_of}
use Rattle.tally_store_rows.proofs.ConLemmas.{standing_is}
use Rattle.tally_store_entries.specs.internal.Constituencies.{AreCons}
use Rattle.tally_store_entries.specs.internal.Entries.{stored_in}
use Rattle.tally_store_entries.specs.internal.Found.{FindsStage, IsStageAmong}
use Rattle.tally_store_entries.proofs.ConLemmas.{only_con}
use Rattle.tally_store_entries.proofs.ViewLemmas.{con_row_is}

-- ---- what passes a test that one element of a list passes

module _ {A : Type 0} (p : A → Bool) (d : A) where
  none-passes : (xs : List A) (i : ℕ) → filter p xs ≡ [] → i < length xs → p (get_or xs i d) ≡ true → ⊥
  none-passes [] i none low passes = omega (arith, low)
  none-passes (x ∷ xs) zero none low passes = go (p x) passes none
    where
      go : (b : Bool) → b ≡ true → cond b (x ∷ filter p xs) (filter p xs) ≡ [] → ⊥
      go true is left = (let e = left in cc)
      go false is left = true≢false (sym is)
  none-passes (x ∷ xs) (suc i) none low passes = go (p x) none (λ left. none-passes xs i left (omega (arith, low)) passes)
    where
      go : (b : Bool) → cond b (x ∷ filter p xs) (filter p xs) ≡ [] → (filter p xs ≡ [] → ⊥) → ⊥
      go true left later = (let e = left in cc)
      go false left later = later left

  pub one-passes : (x : A) (xs : List A) (i : ℕ) → filter p xs ≡ x ∷ [] → i < length xs → p (get_or xs i d) ≡ true → get_or xs i d ≡ x
  one-passes x [] i one low passes = absurd (omega (arith, low))
  one-passes x (y ∷ ys) zero one low passes = go (p y) passes one
    where
      go : (b : Bool) → b ≡ true → cond b (y ∷ filter p ys) (filter p ys) ≡ x ∷ [] → y ≡ x
      go true is left = (let e = left in cc)
      go false is left = absurd (true≢false (sym is))
  one-passes x (y ∷ ys) (suc i) one low passes = go (p y) one (λ left. one-passes x ys i left (omega (arith, low)) passes)
    where
      go : (b : Bool) → cond b (y ∷ filter p ys) (filter p ys) ≡ x ∷ [] → (filter p ys ≡ x ∷ [] → get_or ys i d ≡ x) → get_or ys i d ≡ x
      go true left later = absurd (none-passes ys i (let e = left in cc) (omega (arith, low)) passes)
      go false left later = later left

-- ---- the stage

pub says-so : (con key : List ℕ) (rows : List Row) (i : ℕ) (row : Row) (edition : ℕ) (certified : Bool) (note : List ℕ) → i < length rows → row ≡ get_or rows i row → key ≡ con → standing_of key row ≡ Some (edition, certified, note)
    → IsStageAmong con rows (edition, certified)
says-so con key rows i row edition certified note within is same read = record {
  place = i;
  within = within;
  note = note;
  says =
      subst (λ k. standing_of k (get_or rows i []) ≡ Some (edition, certified, note)) same
      (subst (λ r. standing_of key r ≡ Some (edition, certified, note)) (is ∙ get_or_default rows i row [] within) read);
}

pub stage-among : (con : List ℕ) (s : State) (rows : List Row) (found : ℕ × Bool) → AreCons rows s → IsStageAmong con rows found → FindsStage con s found
stage-among con s rows found all among cons standing is held =
    let row : Row = get_or rows among.place [] in
    let mine : Row = Text con ∷ Int (pos standing.edition) ∷ Int (pos (flag standing.certified)) ∷ Text standing.note ∷ [] in
    let only : filter (has_key con) (rows_in Cons s) ≡ mine ∷ [] = only_con cons con standing (stored_in Cons s) is held in
    let one : filter (has_key con) rows ≡ mine ∷ [] =
    one_permutation mine (filter (has_key con) rows) (subst (λ l. IsPermutation l (filter (has_key con) rows)) only (IsPermutation-filter (has_key con) (rows_in Cons s) rows all)) in
    let keyed : has_key con row ≡ true = ap (has_key con) (standing_is con row (found.0, found.1, among.note) among.says) ∙ ap is_eq (tied_itself value_cmp_total (Text con)) in
    let same : row ≡ mine = one-passes (has_key con) [] mine rows among.place one among.within keyed in
    let own = con_row_is con standing (found.0, found.1, among.note) row (ap (λ r. r ∷ []) same) among.says in
    (own.0, own.1)
