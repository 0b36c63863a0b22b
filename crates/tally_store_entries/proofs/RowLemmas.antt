-- Rows that are written one after the other.
use Rattle.std.proofs.Common.{◌≡◌, ℕ, ◌+◌, List, [], ◌∷◌, ◌++◌, map, length, refl, sym, ap, subst, ◌∙◌, arith}
use Rattle.std.proofs.lemmas.List.{map-append}
use Rattle.sqlite_value.specs.declared.value.Value.TheVariants.{Text}
use Rattle.sqlite_value.specs.Order.{Row}
use Rattle.sqlite.specs.State.{State}
use Rattle.tally_returns.specs.Counts.{VoteCounts}
use Rattle.tally_store_schema.specs.declared.table.KeyedTable.{KeyedTable}
use Rattle.tally_store_schema.specs.Office.{numbered_rows}
use Rattle.tally_store_schema.proofs.NumberedLemmas.{rows_then}
use Rattle.tally_store_rows.specs.Cells.{item_row, items_of, numbers_with_places, spoiled_item}
use Rattle.tally_store_entries.specs.internal.Written.{Adds}

-- ---- rows more

pub adds_then : (t : KeyedTable) (xs ys : List Row) (old mid new : State) → Adds t xs old mid → Adds t ys mid new → Adds t (xs ++ ys) old new
adds_then = rows_then

-- ---- numbers with their places

pub numbered_then : (first : ℕ) (xs ys : List ℕ) → numbers_with_places first (xs ++ ys) ≡ numbers_with_places first xs ++ numbers_with_places (first + length xs) ys
numbered_then first [] ys = ap (λ n. numbers_with_places n ys) (omega arith)
numbered_then first (x ∷ xs) ys = ap (λ l. (first, x) ∷ l) (numbered_then (first + 1) xs ys ∙ ap (λ n. numbers_with_places (first + 1) xs ++ numbers_with_places n ys) (omega arith))

pub numbers_are : (key : List ℕ) (first : ℕ) (ns : List ℕ) → numbered_rows (Text key ∷ []) first ns ≡ map (item_row key) (numbers_with_places first ns)
numbers_are key first [] = refl
numbers_are key first (n ∷ ns) = ap (λ rows. item_row key (first, n) ∷ rows) (numbers_are key (first + 1) ns)

-- ---- all counts of a station

pub adds_counts : (t : KeyedTable) (key : List ℕ) (c : VoteCounts) (old a b new : State) → Adds t (item_row key (0, c.blank) ∷ []) old a → Adds t (map (item_row key) (numbers_with_places 1 c.votes)) a b
    → Adds t (item_row key (spoiled_item, c.spoiled) ∷ []) b new → Adds t (map (item_row key) (items_of c)) old new
adds_counts t key c old a b new blank votes spoiled =
    subst (λ l. Adds t (item_row key (0, c.blank) ∷ l) old new) (sym (map-append (item_row key) (numbers_with_places 1 c.votes) ((spoiled_item, c.spoiled) ∷ [])))
    (adds_then t (item_row key (0, c.blank) ∷ map (item_row key) (numbers_with_places 1 c.votes)) (item_row key (spoiled_item, c.spoiled) ∷ []) old b new
    (adds_then t (item_row key (0, c.blank) ∷ []) (map (item_row key) (numbers_with_places 1 c.votes)) old a b blank votes) spoiled)
