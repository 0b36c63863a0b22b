use Rattle.std.proofs.Common.{◌≡◌, length, take}
use Rattle.httparse.specs.Grammar.{HasNoRequest}
use Rattle.tally_desk_message.specs.internal.Lines.{no_lines, lines_after}
use Rattle.tally_desk_message.specs.Message.{field_limit}
use Rattle.tally_desk_message.proofs.head.head_since.Given as goal

abbrev pub invariant-loop-place : goal.invariant-loop-place
invariant-loop-place l = record {
  fields : length l.headers ≡ field_limit;
  lines : l.lines ≡ lines_after no_lines (take l.place l.bytes);
  no_head : HasNoRequest (take l.place l.bytes);
}
