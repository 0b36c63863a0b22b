-- A loop that reads one row after another.
use Rattle.std.proofs.Common.{◌≡◌, ◌<◌, ◌≤◌, ◌+◌, ℕ, Option, Some, None, List, [], ◌∷◌, ◌++◌, length, drop, get_or, append_assoc, append-nil, refl, sym, ap, ◌∙◌}
use Rattle.std.specs.Prelude.{option_and_then, option_map}
use Rattle.std.proofs.lemmas.List.{drop_more, drop_all}
use Rattle.sqlite_value.specs.Order.{Row}
use Rattle.tally_store_rows.specs.Reading.{read_all}

module _ {X : Type 0} (read : ℕ → Row → Option X) where
  -- what was read so far, and what the other rows read as
  abbrev pub Reading : List X → ℕ → List Row → Option (List X)
  Reading so_far first left = option_map (λ xs. so_far ++ xs) (read_all read first left)

  moved : (so_far : List X) (x : X) (o : Option (List X)) → option_map (λ xs. so_far ++ xs) (option_map (λ xs. x ∷ xs) o) ≡ option_map (λ xs. (so_far ++ x ∷ []) ++ xs) o
  moved so_far x None = refl
  moved so_far x (Some xs) = ap Some (sym (append_assoc so_far (x ∷ []) xs))

  -- the row at a place of the loop, and those after it
  opened : (rows : List Row) (i : ℕ) (row : Row) → i < length rows → row ≡ get_or rows i row → drop i rows ≡ row ∷ drop (i + 1) rows
  opened rows i row low at = drop_more rows i row low ∙ ap (λ r. r ∷ drop (i + 1) rows) (sym at)

  at_row : (so_far : List X) (first : ℕ) (rows : List Row) (i : ℕ) (row : Row) (o : Option X) → i < length rows → row ≡ get_or rows i row → o ≡ read first row
      → Reading so_far first (drop i rows) ≡ option_map (λ xs. so_far ++ xs) (option_and_then (λ y. option_map (λ xs. y ∷ xs) (read_all read (first + 1) (drop (i + 1) rows))) o)
  at_row so_far first rows i row o low at is =
      ap (Reading so_far first) (opened rows i row low at) ∙ ap (λ p. option_map (λ xs. so_far ++ xs) (option_and_then (λ y. option_map (λ xs. y ∷ xs) (read_all read (first + 1) (drop (i + 1) rows))) p)) (sym is)

  pub reading_more : (so_far : List X) (first : ℕ) (rows : List Row) (i : ℕ) (row : Row) (x : X) → i < length rows → row ≡ get_or rows i row → Some x ≡ read first row
      → Reading so_far first (drop i rows) ≡ Reading (so_far ++ x ∷ []) (first + 1) (drop (i + 1) rows)
  reading_more so_far first rows i row x low at is = at_row so_far first rows i row (Some x) low at is ∙ moved so_far x (read_all read (first + 1) (drop (i + 1) rows))

  pub reading_stops : (so_far : List X) (first : ℕ) (rows : List Row) (i : ℕ) (row : Row) → i < length rows → row ≡ get_or rows i row → None ≡ read first row → Reading so_far first (drop i rows) ≡ None
  reading_stops so_far first rows i row low at is = at_row so_far first rows i row None low at is

  pub reading_ends : (so_far : List X) (first : ℕ) (rows : List Row) (i : ℕ) → length rows ≤ i → Reading so_far first (drop i rows) ≡ Some so_far
  reading_ends so_far first rows i past = ap (Reading so_far first) (drop_all i rows past) ∙ ap Some (append-nil so_far)
