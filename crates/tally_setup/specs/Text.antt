-- Names and notes: texts on one line.
use Rattle.std.specs.Prelude.{◌≡◌, ℕ, Bool, true, ◌==◌, ◌&&◌, not, nat_le, List, length, IsUtf8}
use Rattle.std.specs.List.{list_all}

-- no control byte: neither 00 to 1F nor 7F
abbrev pub is_character : ℕ → Bool
is_character byte = nat_le 32 byte && not (byte == 127)

-- from 1 byte to this many, and no control byte among them
abbrev pub is_short_line : ℕ → List ℕ → Bool
is_short_line limit text =
    nat_le 1 (length text) && nat_le (length text) limit && list_all is_character text

-- the name of a list, of a constituency or of a candidate
abbrev pub is_name : List ℕ → Bool
is_name = is_short_line 80

-- A name that a setup has: such a line, which is UTF-8.
pub record IsName (name : List ℕ) : Type 0 where
  pub line : is_name name ≡ true
  pub text : IsUtf8 name

-- the note of a query, of a reopening or of a vacancy
abbrev pub is_note : List ℕ → Bool
is_note = is_short_line 200
