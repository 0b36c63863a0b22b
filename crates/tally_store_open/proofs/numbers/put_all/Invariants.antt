use Rattle.std.proofs.Common.{take}
use Rattle.std.specs.Prelude.{All}
use Rattle.tally_store_open.specs.Numbers.{numbers_of}
use Rattle.tally_store_open.specs.internal.Tree.{IsNumbered}
use Rattle.tally_store_open.proofs.numbers.put_all.Given as goal

-- those of the constituencies so far are there
abbrev pub invariant-loop-con : goal.invariant-loop-con
invariant-loop-con l = All (IsNumbered l.ledger (numbers_of l.known)) (take l.con-index l.cons)
