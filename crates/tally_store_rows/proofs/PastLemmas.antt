-- A loop that reads certificates that were reopened.
use Rattle.std.proofs.Common.{◌≡◌, ◌<◌, ◌≤◌, ◌+◌, ◌-◌, ℕ, zero, suc, true, false, cond, Option, Some, None, List, [], ◌∷◌, ◌++◌, length, take, drop, append_assoc, append-nil, true≢false, refl, sym, ap, ◌∙◌, arith}
use Rattle.std.specs.Prelude.{option_and_then, option_map, ◌==◌}
use Rattle.std.proofs.lemmas.Bool.{eqb-true, le-leb}
use Rattle.sqlite_value.specs.Order.{Row}
use Rattle.tally_returns.specs.PastSeats.{PastSeats}
use Rattle.tally_store_rows.specs.Reading.{record_of, records_of}

-- what the certificates so far and the other rows come to
abbrev pub Reading : List ℕ → ℕ → List PastSeats → ℕ → List Row → Option (List PastSeats)
Reading con lists so_far most rows = option_map (λ rs. so_far ++ rs) (records_of con lists most rows)

pub too_many : (con : List ℕ) (lists : ℕ) (so_far : List PastSeats) (most : ℕ) (rows : List Row) → most ≡ zero → (length rows == 0) ≡ false → Reading con lists so_far most rows ≡ None
too_many con lists so_far most [] none some = absurd (true≢false some)
too_many con lists so_far most (row ∷ rows) none some = ap (λ m. Reading con lists so_far m (row ∷ rows)) none

pub none_left : (con : List ℕ) (lists : ℕ) (so_far : List PastSeats) (most : ℕ) (rows : List Row) → (length rows == 0) ≡ true → Reading con lists so_far most rows ≡ Some so_far
none_left con lists so_far most [] none = ap Some (append-nil so_far)
none_left con lists so_far most (row ∷ rows) none = absurd (omega (arith, eqb-true (length (row ∷ rows)) 0 none))

-- with rows enough
with_record : (con : List ℕ) (lists : ℕ) (so_far : List PastSeats) (most next : ℕ) (rows : List Row) (o : Option PastSeats) → most ≡ suc next → 0 < length rows → lists ≤ length rows → o ≡ record_of con (take lists rows)
    → Reading con lists so_far most rows ≡ option_map (λ rs. so_far ++ rs) (option_and_then (λ r. option_map (λ rs. r ∷ rs) (records_of con lists next (drop lists rows))) o)
with_record con lists so_far most next [] o is some enough e = absurd (omega (arith, some))
with_record con lists so_far most next (row ∷ rows) o is some enough e =
    let all : List Row = row ∷ rows in
    ap (λ m. Reading con lists so_far m all) is
    ∙ ap (λ b. option_map (λ rs. so_far ++ rs) (cond b (option_and_then (λ r. option_map (λ rs. r ∷ rs) (records_of con lists next (drop lists all))) (record_of con (take lists all))) None)) (le-leb lists (length all) enough)
    ∙ ap (λ p. option_map (λ rs. so_far ++ rs) (option_and_then (λ r. option_map (λ rs. r ∷ rs) (records_of con lists next (drop lists all))) p)) (sym e)

pub one_record : (con : List ℕ) (lists : ℕ) (so_far : List PastSeats) (most i : ℕ) (rows : List Row) (r : PastSeats) → i < most → 0 < length rows → lists ≤ length rows → Some r ≡ record_of con (take lists rows)
    → Reading con lists so_far (most - i) rows ≡ Reading con lists (so_far ++ r ∷ []) (most - (i + 1)) (drop lists rows)
one_record con lists so_far most i rows r low some enough e =
    with_record con lists so_far (most - i) (most - (i + 1)) rows (Some r) (omega (arith, low)) some enough e ∙ moved (records_of con lists (most - (i + 1)) (drop lists rows))
  where
    moved : (o : Option (List PastSeats)) → option_map (λ rs. so_far ++ rs) (option_map (λ rs. r ∷ rs) o) ≡ option_map (λ rs. (so_far ++ r ∷ []) ++ rs) o
    moved None = refl
    moved (Some rs) = ap Some (sym (append_assoc so_far (r ∷ []) rs))

pub no_record : (con : List ℕ) (lists : ℕ) (so_far : List PastSeats) (most i : ℕ) (rows : List Row) → i < most → 0 < length rows → lists ≤ length rows → None ≡ record_of con (take lists rows) → Reading con lists so_far (most - i) rows ≡ None
no_record con lists so_far most i rows low some enough none = with_record con lists so_far (most - i) (most - (i + 1)) rows None (omega (arith, low)) some enough none

-- a test that left rows
pub some_left : {X : Type 0} (xs : List X) → (length xs == 0) ≡ false → 0 < length xs
some_left [] h = absurd (true≢false h)
some_left (x ∷ xs) h = omega arith
