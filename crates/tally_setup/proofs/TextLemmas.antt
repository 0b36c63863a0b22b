-- A text on one line.
use Rattle.std.proofs.Common.{◌≡◌, ◌≤◌, ℕ, List, length, ◌∙◌, ap}
use Rattle.std.specs.Prelude.{◌&&◌, nat_le}
use Rattle.std.specs.List.{list_all}
use Rattle.std.proofs.lemmas.Bool.{le-leb}
use Rattle.tally_setup.specs.Text.{is_short_line, is_character}

-- a text within the limits of its length is one where each of its characters may occur in one
pub is_short_line-within : (limit : ℕ) (text : List ℕ) → 1 ≤ length text → length text ≤ limit → is_short_line limit text ≡ list_all is_character text
is_short_line-within limit text some few =
    ap (λ b. (b && nat_le (length text) limit) && list_all is_character text) (le-leb 1 (length text) some)
    ∙ ap (λ b. b && list_all is_character text) (le-leb (length text) limit few)
