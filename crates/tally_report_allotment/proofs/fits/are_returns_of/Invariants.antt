use Rattle.std.proofs.Common.{ℕ, ◌<◌}
use Rattle.tally_report_allotment.specs.internal.Counting.{IsReturnAt}
use Rattle.tally_report_allotment.proofs.fits.are_returns_of.Given as goal

-- the places so far
abbrev pub invariant-loop-place : goal.invariant-loop-place
invariant-loop-place l = (k : ℕ) → k < l.place → IsReturnAt l.con l.returns k
