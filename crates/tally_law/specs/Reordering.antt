-- Lists in another order.
use Rattle.std.specs.Prelude.{ℕ, List, map, slice_index, IsPermutation}
use Rattle.std.specs.List.{range_with_len}

-- The order has the number of each of this many lists once, from 0.
abbrev pub IsReordering : ℕ → List ℕ → Type 0
IsReordering count order = IsPermutation (range_with_len 0 count) order

-- one number for each list, its votes or its seats, in that order
abbrev pub numbers_in_order : List ℕ → List ℕ → List ℕ
numbers_in_order numbers order = map (slice_index numbers) order
