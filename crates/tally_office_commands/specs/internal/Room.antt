-- The room of a text.
use Rattle.std.specs.Prelude.{◌*◌, ℕ, Bool, true, false}

-- the most bytes of the lines of this many rows, where there are lines
abbrev pub room_of_lines : Bool → ℕ → ℕ
room_of_lines false rows = 0
room_of_lines true rows = 64 * rows
