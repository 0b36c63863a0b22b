-- Codes that have to differ.
use Rattle.std.specs.Prelude.{ℕ, suc, ◌≢◌, Bool, List, [], ◌∷◌, AllPairs, Option, Some, None}
use Rattle.std.specs.Prelude.{option_map, if◌then◌else◌}
use Rattle.std.specs.List.{list_any}
use Rattle.std.specs.Str.{bytes_eq}

-- no two of the codes are the same
abbrev pub AreDistinct : List (List ℕ) → Type 0
AreDistinct codes = AllPairs (λ a b. a ≢ b) codes

-- the code is one of these
abbrev pub is_among_codes : List ℕ → List (List ℕ) → Bool
is_among_codes code codes = list_any (bytes_eq code) codes

-- the first place of the code among these, from 0
abbrev pub index_of : List ℕ → List (List ℕ) → Option ℕ
index_of code [] = None
index_of code (first ∷ others) =
    if bytes_eq code first then Some 0 else option_map suc (index_of code others)
