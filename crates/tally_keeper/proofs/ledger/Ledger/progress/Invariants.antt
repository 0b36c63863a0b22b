use Rattle.std.proofs.Common.{◌≡◌, map, take}
use Rattle.tally_returns.specs.Progress.{progress_row}
use Rattle.tally_keeper.specs.Kept.{state_in}
use Rattle.tally_keeper.proofs.ledger.Ledger.progress.Given as goal

-- the rows of the constituencies so far
abbrev pub invariant-loop-con : goal.invariant-loop-con
invariant-loop-con l = l.rows.items ≡ map (progress_row (state_in l.self)) (take l.con-index l.cons)
