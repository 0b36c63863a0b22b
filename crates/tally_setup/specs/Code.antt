-- A code: the short name of a list, a station, a constituency, a profile or a slip.
use Rattle.std.specs.Prelude.{◌-◌, ◌≤◌, ◌++◌, ◌==◌, ◌&&◌, ◌||◌, ◌≡◌, ℕ, Bool, nat_le, length, List}
use Rattle.std.specs.Prelude.{take, drop, replicate, Option, Some, None, if◌then◌else◌}
use Rattle.std.proofs.Common.{length-take-le, take-append-drop, ◌∙◌, ap, sym}
use Rattle.std.specs.Char.{is_ascii_alphanumeric}
use Rattle.std.specs.List.{list_all}
use Rattle.std.specs.Ordering.{nat_cmp}
use Rattle.std.specs.Cmp.Lexicographic.{slice_cmp}
use Rattle.std.specs.declared.cmp.Ordering.{Ordering}

-- a letter of A to Z or a to z, a digit, a dash or an underscore
abbrev pub is_code_character : ℕ → Bool
is_code_character c = is_ascii_alphanumeric c || (c == 45) || (c == 95)

-- 1 to 16 such characters
abbrev pub is_code : List ℕ → Bool
is_code text = nat_le 1 (length text) && nat_le (length text) 16 && list_all is_code_character text

-- the code that a text is, if it is one
abbrev pub code_of : List ℕ → Option (List ℕ)
code_of text = if is_code text then Some text else None

-- codes in the order of their bytes
abbrev pub code_cmp : List ℕ → List ℕ → Ordering
code_cmp = slice_cmp nat_cmp

-- the 16 bytes that a code is kept in, with zeros after it, are obtained from the code again
pub padded-take : (len : ℕ) (bytes : List ℕ) → len ≤ length bytes →
    drop len bytes ≡ replicate (16 - len) 0
    → take len bytes ++ replicate (16 - length (take len bytes)) 0 ≡ bytes
padded-take len bytes fits zeros =
    ap (λ n. take len bytes ++ replicate (16 - n) 0) (length-take-le len bytes fits)
    ∙ ap (λ rest. take len bytes ++ rest) (sym zeros)
    ∙ take-append-drop len bytes
