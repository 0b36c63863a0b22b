use Rattle.std.proofs.Common.{◌≡◌, map, take}
use Rattle.serde_json.specs.View.{view}
use Rattle.tally_desk_answer.specs.Shown.{whole_value}
use Rattle.tally_desk_answer.proofs.show.put_numbers.Given as goal

abbrev pub invariant-loop-number : goal.invariant-loop-number
invariant-loop-number l = map view l.items.items ≡ map whole_value (take l.number-index l.numbers)
