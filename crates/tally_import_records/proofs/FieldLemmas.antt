-- The field at a place.
use Rattle.std.proofs.Common.{◌≡◌, ◌<◌, ℕ, zero, suc, List, [], ◌∷◌, Option, Some, None, length, get_or, refl, arith}
use Rattle.csv.specs.Records.{field_at}

pub field_at-within : (fields : List (List ℕ)) (place : ℕ) → place < length fields → field_at fields place ≡ Some (get_or fields place [])
unfolding field_at
field_at-within [] place within = absurd (omega arith)
field_at-within (f ∷ fields) zero within = refl
field_at-within (f ∷ fields) (suc place) within = field_at-within fields place (omega arith)

pub same_some : {X : Type 0} (x y : X) → Some x ≡ Some y → x ≡ y
same_some x y e = cc

pub none_some : {X : Type 0} (x : X) → ◌≡◌ {A = Option X} None (Some x) → ⊥
none_some x e = cc
