use Rattle.std.proofs.Common.{◌≡◌, ◌++◌, take, string_bytes}
use Rattle.std.specs.List.{flat_map}
use Rattle.tally_report_allotment.specs.AllotmentText.{code_at_place}
use Rattle.tally_report_allotment.proofs.lines.push_places.Given as goal

abbrev pub invariant-loop-place : goal.invariant-loop-place
invariant-loop-place l = string_bytes l.text ≡ string_bytes l.fn.text ++ flat_map (code_at_place l.lists) (take l.place-index l.places)
