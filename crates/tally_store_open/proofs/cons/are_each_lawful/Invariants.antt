use Rattle.std.proofs.Common.{All, take}
use Rattle.tally_store_open.specs.internal.Found.{IsLawfulFound}
use Rattle.tally_store_open.proofs.cons.are_each_lawful.Given as goal

abbrev pub invariant-loop-con : goal.invariant-loop-con
invariant-loop-con l = All (IsLawfulFound l.ledger) (take l.con-index l.found)
