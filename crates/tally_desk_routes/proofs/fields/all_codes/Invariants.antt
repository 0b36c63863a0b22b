use Rattle.std.proofs.Common.{◌≡◌, Some, take}
use Rattle.serde_json.specs.View.{items_view}
use Rattle.tally_desk_routes.specs.Bodies.{all_items, as_code}
use Rattle.tally_desk_routes.proofs.fields.all_codes.Given as goal

abbrev pub invariant-loop-value : goal.invariant-loop-value
invariant-loop-value l = all_items as_code (items_view (take l.value-index l.values)) ≡ Some l.all.items
