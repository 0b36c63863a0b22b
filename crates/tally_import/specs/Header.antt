-- The header of a text of returns: `station`, `slip`, `blank`, `spoiled` and the codes of the
-- lists.
use Rattle.std.specs.Prelude.{◌&&◌, not, if◌then◌else◌, ℕ, Bool, true, List, [], ◌∷◌, length}
use Rattle.std.specs.Prelude.{nat_eq, nat_le, Option, Some, None, codes}
use Rattle.std.specs.List.{list_all, list_any}
use Rattle.std.specs.Cmp.Lexicographic.{pointwise}
use Rattle.tally_frac.specs.Limits.{most_lists}
use Rattle.tally_setup.specs.Code.{is_code}

abbrev pub same_text : List ℕ → List ℕ → Bool
same_text = pointwise nat_eq

-- no code occurs twice
abbrev pub are_distinct_codes : List (List ℕ) → Bool
are_distinct_codes [] = true
are_distinct_codes (text ∷ texts) =
    not (list_any (same_text text) texts) && are_distinct_codes texts

-- 1 to 60 lists, each named by a code of its own
abbrev pub are_lists : List (List ℕ) → Bool
are_lists lists =
    nat_le 1 (length lists) && nat_le (length lists) most_lists && list_all is_code lists
    && are_distinct_codes lists

-- the lists that a record names, where it is a header
abbrev pub header_lists : List (List ℕ) → Option (List (List ℕ))
header_lists (station ∷ slip ∷ blank ∷ spoiled ∷ lists) =
    if same_text station (codes "station") && same_text slip (codes "slip")
    && same_text blank (codes "blank") && same_text spoiled (codes "spoiled")
    && are_lists lists
    then Some lists else None
header_lists fields = None
