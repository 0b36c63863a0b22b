use Rattle.std.proofs.Common.{◌≡◌, take}
use Rattle.tally_report.specs.QuotientsText.{greatest_of}
use Rattle.tally_report.proofs.quotients.greatest_of.Given as goal

abbrev pub invariant-loop-n : goal.invariant-loop-n
invariant-loop-n l = l.most ≡ greatest_of (take l.n-index l.numbers)
