-- Lines and columns.
use Rattle.std.proofs.Common.{◌≡◌, ◌<◌, ◌+◌, ◌∙◌, get_or, drop, ap, refl, ℕ, List, length}
use Rattle.std.proofs.lemmas.Bool.{eq-eqb, ne_eqb}
use Rattle.std.proofs.lemmas.List.{drop_more}
use Rattle.tally_rules.specs.Place.{place_after}

-- one more byte, which ends a line
pub place_after-line : (bytes : List ℕ) (i line column : ℕ) → i < length bytes → get_or bytes i 0 ≡ 10 → place_after line column (drop i bytes) ≡ place_after (line + 1) 1 (drop (i + 1) bytes)
place_after-line bytes i line column within is = ap (place_after line column) (drop_more bytes i 0 within) ∙ rw (eq-eqb (get_or bytes i 0) 10 is) refl

-- one more byte of a line
pub place_after-column : (bytes : List ℕ) (i line column : ℕ) → i < length bytes → (get_or bytes i 0 ≡ 10 → ⊥) → place_after line column (drop i bytes) ≡ place_after line (column + 1) (drop (i + 1) bytes)
place_after-column bytes i line column within differs = ap (place_after line column) (drop_more bytes i 0 within) ∙ rw (ne_eqb (get_or bytes i 0) 10 differs) refl
