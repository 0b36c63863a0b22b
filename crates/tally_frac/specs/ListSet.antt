-- A set of lists, as one mark for each place.
use Rattle.std.specs.Prelude.{ℕ, zero, suc, List, Bool, false, slice_index_or}

-- whether the list at a place, from 1, is marked
abbrev pub has_place : List Bool → ℕ → Bool
has_place marks zero = false
has_place marks (suc l) = slice_index_or marks l false
