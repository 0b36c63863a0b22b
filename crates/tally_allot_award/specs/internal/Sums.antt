-- Sums over the first lists. No promise to a caller speaks of them.
use Rattle.std.specs.Prelude.{ℕ, zero, suc, ◌+◌, ◌==◌, List, Bool, false, slice_index}
use Rattle.std.specs.Prelude.{slice_index_or, if◌then◌else◌}

-- f 0 + f 1 + .. up to n numbers
abbrev pub sum_before : (ℕ → ℕ) → ℕ → ℕ
sum_before f zero = 0
sum_before f (suc n) = sum_before f n + f n

-- 1 for a marked list that holds k seats, and else 0
abbrev pub holds_at : List Bool → List ℕ → ℕ → ℕ → ℕ
holds_at group a k l =
    if slice_index_or group l false then (if slice_index a l == k then 1 else 0) else 0
