use Rattle.std.proofs.Common.{◌≡◌, map, take, string_bytes}
use Rattle.tally_setup.proofs.constituency.ListEntry.try_copy.Given as goal

abbrev pub invariant-loop-name : goal.invariant-loop-name
invariant-loop-name l = map string_bytes l.candidates.items ≡ map string_bytes (take l.name-index l.self-inside.candidates.items)
