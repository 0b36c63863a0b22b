use Rattle.std.proofs.Common.{◌≡◌, ◌≤◌, ◌+◌, ◌*◌, ◌++◌, length, take, string_bytes}
use Rattle.std.specs.Prelude.{string_capacity, string_len}
use Rattle.tally_import.specs.RowLines.{row_lines}
use Rattle.tally_import.proofs.lines.push_lines.Given as goal

-- the lines so far are there; and where there was room for all of them, there is for those to come
abbrev pub invariant-loop-row : goal.invariant-loop-row
invariant-loop-row l = record {
  lines : string_bytes l.text ≡ string_bytes l.fn.text ++ row_lines l.lists (take l.row-index l.named);
  room : string_len l.fn.text + 64 * length l.named ≤ string_capacity l.fn.text
      → string_len l.text + 64 * length l.named ≤ string_capacity l.text + 64 * l.row-index;
}
