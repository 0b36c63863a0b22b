use Rattle.std.proofs.Common.{◌≡◌, map, take}
use Rattle.serde_json.specs.Data.{string}
use Rattle.serde_json.specs.View.{view}
use Rattle.tally_desk_answer.specs.Shown.{code_at_place}
use Rattle.tally_desk_answer.proofs.show.put_codes.Given as goal

abbrev pub invariant-loop-place : goal.invariant-loop-place
invariant-loop-place l = map view l.items.items ≡ map (λ place. string (code_at_place l.lists place)) (take l.place-index l.places)
