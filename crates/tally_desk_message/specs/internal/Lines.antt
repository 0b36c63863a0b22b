-- The lines of a head, as its bytes come.
use Rattle.std.specs.Prelude.{ℕ, true, false, List, [], ◌∷◌, ◌==◌, if◌then◌else◌}
use Rattle.tally_desk_message.specs.declared.lines.Lines.{Lines}

-- before the first byte
abbrev pub no_lines : Lines
no_lines = record { begun = false; empty = true }

-- A line feed ends a line, and a carriage return is passed over. Another byte belongs to a line
-- that is not empty.
abbrev pub lines_with : ℕ → Lines → Lines
lines_with byte lines =
    if byte == 10 then record { begun = lines.begun; empty = true }
    else if byte == 13 then lines
    else record { begun = true; empty = false }

-- after these bytes
abbrev pub lines_after : Lines → List ℕ → Lines
lines_after lines [] = lines
lines_after lines (byte ∷ bytes) = lines_after (lines_with byte lines) bytes

abbrev pub lines_of : List ℕ → Lines
lines_of bytes = lines_after no_lines bytes
