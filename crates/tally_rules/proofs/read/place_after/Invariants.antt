use Rattle.std.proofs.Common.{◌≡◌, ◌+◌, ◌≤◌, drop}
use Rattle.tally_rules.specs.Place.{place_after}
use Rattle.tally_rules.proofs.read.place_after.Given as goal

abbrev pub invariant-loop-byte : goal.invariant-loop-byte
invariant-loop-byte l =
    (place_after 1 1 l.before ≡ place_after l.line l.column (drop l.byte-index l.before))
    × (l.line + l.column ≤ l.byte-index + 2)
    × (1 ≤ l.column)
