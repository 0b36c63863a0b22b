use Rattle.std.proofs.Common.{◌≡◌, map, take}
use Rattle.serde_json.specs.View.{view}
use Rattle.tally_desk_answer.specs.Shown.{shown_gone}
use Rattle.tally_desk_answer.proofs.show.put_gone.Given as goal

abbrev pub invariant-loop-gone : goal.invariant-loop-gone
invariant-loop-gone l = map view l.items.items ≡ map (shown_gone l.lists) (take l.gone-index l.all)
