-- A lot: the places of some lists, in the order in which they were drawn. LOREG article 163.1 d)
-- has the first tie solved by lot and later ones in turn. Two rules are this project's own: one
-- order decides every tie, and lots may alternate by the number of the seat.
use Rattle.std.specs.Prelude.{ℕ, ◌≡◌, ◌+◌, ◌%◌, ◌<◌, ◌≢◌, ◌⊎◌, ◌==◌, List, [], ◌∷◌, Bool, true}
use Rattle.std.specs.Prelude.{false, slice_index}
use Rattle.std.specs.Prelude.{slice_index_or, length, if◌then◌else◌}
use Rattle.std.specs.List.{list_any}
use Rattle.tally_setup.specs.declared.profile.LotRule.{LotRule}
use Rattle.tally_setup.specs.declared.profile.LotRule.TheVariants.{Fixed, Alternating}
use Rattle.tally_frac.specs.ListSet.{has_place}

-- the place of list l in a lot whose first has this number, and its place in the setup where the
-- lot does not name it
abbrev pub place_in_lot : ℕ → List ℕ → ℕ → ℕ
place_in_lot number [] l = l + 1
place_in_lot number (place ∷ rest) l =
    if place == l + 1 then number else place_in_lot (number + 1) rest l

-- The place of list l under a lot.
abbrev pub place_of : List ℕ → ℕ → ℕ
place_of lot l = place_in_lot 1 lot l

-- whether the lot names list l
abbrev pub is_named : List ℕ → ℕ → Bool
is_named lot l = list_any (λ place. place == l + 1) lot

-- The order of the lot is turned round between lists l and m: lots alternate, this one names both
-- lists, and the number k of the seat is even.
abbrev pub IsTurned : LotRule → List ℕ → ℕ → ℕ → ℕ → Type 0
IsTurned Fixed lot l m k = ⊥
IsTurned Alternating lot l m k = (is_named lot l ≡ true) × (is_named lot m ≡ true) × (k % 2 ≡ 0)

-- Where the k-th seats of lists l and m tie, that of l comes before that of m: by earlier place,
-- and by later place where the order is turned round.
abbrev pub ComesFirst : LotRule → List ℕ → ℕ → ℕ → ℕ → Type 0
ComesFirst lot_rule lot l m k =
    (¬ IsTurned lot_rule lot l m k × (place_of lot l < place_of lot m)) ⊎
    (IsTurned lot_rule lot l m k × (place_of lot m < place_of lot l))

-- The lot names each list of a group once, and no other.
pub record IsOrderOf (group : List Bool) (lot : List ℕ) : Type 0 where
  pub all : (l : ℕ) → slice_index_or group l false ≡ true → (i : ℕ) × (i < length lot) ×
      (slice_index lot i ≡ l + 1)
  pub no_other : (i : ℕ) → i < length lot → has_place group (slice_index lot i) ≡ true
  pub once : (i j : ℕ) → i < j → j < length lot → slice_index lot i ≢ slice_index lot j
