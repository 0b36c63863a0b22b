use Rattle.std.proofs.Common.{◌≡◌, take, map}
use Rattle.tally_import_votes.specs.Lot.{bytes_of, place_named}
use Rattle.tally_import_votes.proofs.lot.places_of.Given as goal

abbrev pub invariant-loop-word : goal.invariant-loop-word
invariant-loop-word l = l.places.items ≡ map (place_named l.lists) (bytes_of (take l.word-index l.words))
