use Rattle.std.proofs.Common.{◌≡◌, take}
use Rattle.tally_returns.proofs.view.past_copies.Given as goal

abbrev pub invariant-loop-certificate : goal.invariant-loop-certificate
invariant-loop-certificate l = l.copies.items ≡ take l.certificate-index l.past
