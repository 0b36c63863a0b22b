-- The names that every header begins with.
use Rattle.std.specs.Prelude.{◌&&◌, ℕ, Bool, List, [], slice_index_or, codes}
use Rattle.tally_import.specs.Header.{same_text}

-- these fields, of which there are four or more, begin with them
abbrev pub has_fixed_names : List (List ℕ) → Bool
has_fixed_names fields =
    same_text (slice_index_or fields 0 []) (codes "station")
    && same_text (slice_index_or fields 1 []) (codes "slip")
    && same_text (slice_index_or fields 2 []) (codes "blank")
    && same_text (slice_index_or fields 3 []) (codes "spoiled")
