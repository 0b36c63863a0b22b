use Rattle.std.proofs.Common.{◌≡◌, ◌++◌}
use Rattle.tally_setup.specs.internal.Index.{places_in}
use Rattle.tally_setup.proofs.setup.push_places.Given as goal

abbrev pub invariant-loop-station : goal.invariant-loop-station
invariant-loop-station l = l.places.items ≡ l.fn.places.items ++ places_in l.con l.station
