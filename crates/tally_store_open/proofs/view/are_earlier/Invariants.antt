use Rattle.std.proofs.Common.{All, take}
use Rattle.tally_machine_law.specs.Outcome.{IsLawfulPast}
use Rattle.tally_store_open.proofs.view.are_earlier.Given as goal

abbrev pub invariant-loop-certificate : goal.invariant-loop-certificate
invariant-loop-certificate l = All (IsLawfulPast l.con l.edition) (take l.certificate-index l.past)
