use Rattle.std.proofs.Common.{◌≡◌, false, map, take}
use Rattle.std.specs.List.{list_any}
use Rattle.httparse.specs.Spans.{header_bytes}
use Rattle.tally_desk_message.specs.Message.{is_field_named}
use Rattle.tally_desk_message.proofs.fields.has_field.Given as goal

abbrev pub invariant-loop-header : goal.invariant-loop-header
invariant-loop-header l = list_any (is_field_named l.name) (map (header_bytes l.bytes) (take l.header-index l.headers)) ≡ false
