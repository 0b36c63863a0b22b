use Rattle.std.proofs.Common.{◌≡◌, Ok, option_map, map, take}
use Rattle.httparse.specs.Spans.{header_bytes}
use Rattle.tally_desk_message.specs.Message.{values_of, single_value}
use Rattle.tally_desk_message.proofs.fields.field_value.Given as goal

abbrev pub invariant-loop-header : goal.invariant-loop-header
invariant-loop-header l = single_value (values_of l.name (map (header_bytes l.bytes) (take l.header-index l.headers))) ≡ Ok (option_map (λ v. v.now) l.found)
