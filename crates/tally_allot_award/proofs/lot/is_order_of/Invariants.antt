use Rattle.tally_allot_award.proofs.Struck.{AreLeft}
use Rattle.tally_allot_award.proofs.lot.is_order_of.Given as goal

abbrev pub invariant-loop-i : goal.invariant-loop-i
invariant-loop-i l = AreLeft l.group l.lot l.i l.left
