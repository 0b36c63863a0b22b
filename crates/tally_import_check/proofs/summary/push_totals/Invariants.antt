use Rattle.std.proofs.Common.{◌≡◌, ◌++◌, List, drop, length, string_bytes}
use Rattle.tally_returns.specs.Counts.{VoteCounts}
use Rattle.tally_import_check.specs.Check.{lists_text, totals_text}
use Rattle.tally_import_check.specs.internal.Totals.{AreTotals}
use Rattle.tally_import_check.proofs.summary.push_totals.Given as goal

abbrev pub invariant-loop-place : goal.invariant-loop-place
invariant-loop-place l =
    (returns : List VoteCounts) → AreTotals (length l.lists) returns l.totals
    → string_bytes l.text ++ lists_text l.place (drop l.place l.lists) returns ≡ string_bytes l.fn.text ++ totals_text l.lists returns
