use Rattle.tally_machine_law.proofs.RunLemmas.{acting-run, kept-run}
use Rattle.tally_machine.proofs.laws.requests_that_do_not_act_can_be_left_out.Goals as goal

pub returns-clause-all : goal.returns-clause-all
returns-clause-all c = acting-run

pub returns-clause-some : goal.returns-clause-some
returns-clause-some c = kept-run
