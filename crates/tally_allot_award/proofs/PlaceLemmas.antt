-- The places under a lot, from its last entry to its first.
use Rattle.std.proofs.Common.{◌≡◌, ℕ, ◌+◌, ◌<◌, List, cond, eqb, length, get_or, drop, sym, ap, ◌∙◌, arith}
use Rattle.std.proofs.lemmas.List.{at_drop_more, at_drop_all}
use Rattle.tally_law.specs.Lot.{place_in_lot}

-- the places as the entries from the i-th on have them
abbrev pub ArePlaces : List ℕ → ℕ → List ℕ → Type 0
ArePlaces lot i places = (l : ℕ) → l < 60 → get_or places l 0 ≡ place_in_lot (i + 1) (drop i lot) l

pub without_entries : (lot places : List ℕ) → ((l : ℕ) → l < 60 → get_or places l 0 ≡ l + 1) → ArePlaces lot (length lot) places
without_entries lot places h l lt = h l lt ∙ sym (at_drop_all (λ rest. place_in_lot (length lot + 1) rest l) lot (length lot) (omega arith))

module _ (lot : List ℕ) (j : ℕ) (inside : j < length lot) where
  one_entry : (l : ℕ) → place_in_lot (j + 1) (drop j lot) l ≡ cond (eqb (get_or lot j 0) (l + 1)) (j + 1) (place_in_lot (j + 1 + 1) (drop (j + 1) lot) l)
  one_entry l = at_drop_more (λ rest. place_in_lot (j + 1) rest l) lot j 0 inside

  pub entry_put : (places put : List ℕ) → ((l : ℕ) → l < 60 → get_or put l 0 ≡ cond (eqb (get_or lot j 0) (l + 1)) (j + 1) (get_or places l 0)) → ArePlaces lot (j + 1) places → ArePlaces lot j put
  entry_put places put is h l lt = is l lt ∙ ap (cond (eqb (get_or lot j 0) (l + 1)) (j + 1)) (h l lt) ∙ sym (one_entry l)
