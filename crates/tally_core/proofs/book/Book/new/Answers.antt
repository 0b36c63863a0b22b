use Rattle.std.proofs.Common.{sym, subst}
use Rattle.tally_keeper.specs.internal.Held.{IsHeld}
use Rattle.tally_keeper.proofs.HeldLemmas.{held-opening}
use Rattle.tally_core.proofs.book.Book.new.Goals as goal

pub invariant_of-result : goal.invariant_of-result
invariant_of-result c = subst IsHeld (sym c.in_ok-ledger.ensures.opening) (held-opening c.args.setup c.in_ok-ledger.ensures.limits)
