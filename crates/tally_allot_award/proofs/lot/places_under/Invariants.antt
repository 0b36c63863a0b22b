use Rattle.tally_allot_award.proofs.PlaceLemmas.{ArePlaces}
use Rattle.tally_allot_award.proofs.lot.places_under.Given as goal

abbrev pub invariant-loop-i : goal.invariant-loop-i
invariant-loop-i l = ArePlaces l.lot l.i l.places
