use Rattle.std.proofs.Common.{◌≡◌, ◌+◌, ◌++◌, drop}
use Rattle.tally_import_votes.specs.Troubles.{codes_marked}
use Rattle.tally_import_votes.proofs.allot.codes_in.Given as goal

abbrev pub invariant-loop-index : goal.invariant-loop-index
invariant-loop-index l = l.codes.items ++ codes_marked (l.index + 1) l.group (drop l.index l.lists) ≡ codes_marked 1 l.group l.lists
