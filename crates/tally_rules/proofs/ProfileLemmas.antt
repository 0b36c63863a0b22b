-- The profile of a code.
use Rattle.std.proofs.Common.{◌≡◌, ℕ, suc, Bool, true, false, cond, List, [], ◌∷◌, map, Option, Some, None, option_map, refl}
use Rattle.std.specs.List.{slice_get}
use Rattle.std.specs.Map.{lookup}
use Rattle.std.specs.Option.{option_and_then}
use Rattle.std.specs.Str.{bytes_eq}
use Rattle.tally_setup.specs.Codes.{index_of}

-- what comes with a code is at the code's place
pub lookup-index_of : {X : Type 0} (q : List ℕ) (xs : List (List ℕ × X)) → lookup (bytes_eq q) xs ≡ option_map (λ (x : List ℕ × X). x.1) (option_and_then (slice_get xs) (index_of q (map (λ (x : List ℕ × X). x.0) xs)))
lookup-index_of q [] = refl
lookup-index_of {X} q (x ∷ xs) = by_case (bytes_eq q x.0) (index_of q (map (λ (y : List ℕ × X). y.0) xs)) (lookup-index_of q xs)
  where
    by_case : (b : Bool) (o : Option ℕ) → lookup (bytes_eq q) xs ≡ option_map (λ (y : List ℕ × X). y.1) (option_and_then (slice_get xs) o) → cond b (Some x.1) (lookup (bytes_eq q) xs) ≡ option_map (λ (y : List ℕ × X). y.1) (option_and_then (slice_get (x ∷ xs)) (cond b (Some 0) (option_map suc o)))
    by_case true o e = refl
    by_case false None e = e
    by_case false (Some i) e = e
