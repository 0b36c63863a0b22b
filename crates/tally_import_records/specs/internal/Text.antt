-- A text in memory, in parts.
use Rattle.std.specs.Prelude.{◌++◌, ℕ, List, Vec, Option, Some, drop}
use Rattle.std.specs.List.{flat_map}
use Rattle.std.specs.Io.Cursor.{cursor_inner, cursor_position}
use Rattle.std.specs.declared.alloc.Global.{Global}
use Rattle.tally_import_records.specs.declared.text.Text.{Text}

-- the bytes of parts, one part after the other
abbrev pub bytes_of_parts : List (Vec ℕ Global) → List ℕ
bytes_of_parts parts = flat_map (λ (part : Vec ℕ Global). part.items) parts

-- the bytes that are not read yet
abbrev pub bytes_left : Text → List ℕ
bytes_left text = drop (cursor_position text.front) (cursor_inner text.front).items ++
    bytes_of_parts text.later.value.items

-- the same, as the contract of `Read` has them: they are always known
abbrev pub text_left : Text → Option (List ℕ)
text_left text = Some (bytes_left text)
