use Rattle.std.proofs.Common.{◌≡◌, ◌+◌, drop}
use Rattle.tally_keeper.specs.internal.Rows.{gone_place}
use Rattle.tally_keeper.proofs.views.gone_place.Given as goal

-- those so far are before the candidate
abbrev pub invariant-loop-place : goal.invariant-loop-place
invariant-loop-place l = gone_place l.candidate l.gone ≡ l.place + gone_place l.candidate (drop l.place l.gone)
