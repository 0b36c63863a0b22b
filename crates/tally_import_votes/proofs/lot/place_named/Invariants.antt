use Rattle.std.proofs.Common.{◌≡◌, ◌+◌, drop}
use Rattle.tally_import_votes.specs.Lot.{place_from, place_named}
use Rattle.tally_import_votes.proofs.lot.place_named.Given as goal

abbrev pub invariant-loop-index : goal.invariant-loop-index
invariant-loop-index l = place_from (l.index + 1) (drop l.index l.lists) l.word ≡ place_named l.lists l.word
