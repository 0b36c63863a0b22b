use Rattle.std.proofs.Common.{◌≡◌, take, map}
use Rattle.tally_desk_routes.specs.Routes.{with_routes}
use Rattle.tally_desk_routes.proofs.RowLemmas.{entry}
use Rattle.tally_desk_routes.proofs.routes.add_all.Given as goal

abbrev pub invariant-loop-text : goal.invariant-loop-text
invariant-loop-text l = l.router ≡ with_routes l.initial.router (map entry (take l.text-index l.table))
